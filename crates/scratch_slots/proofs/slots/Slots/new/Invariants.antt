use Rattle.std.proofs.Common.{◌-◌, ◌≤◌, ◌<◌, ◌≡◌, ℕ, nat_lt}
use Rattle.std.specs.Prelude.{if◌then◌else◌}
use Rattle.scratch_slots.specs.Index.{bit_in}
use Rattle.scratch_slots.proofs.slots.Slots.new.Given as goal

abbrev pub invariant-loop-k : goal.invariant-loop-k
invariant-loop-k l = (l.k ≤ l.count) × ((j : ℕ) → j < 512 → bit_in l.free j ≡ (if nat_lt j l.k then 1 else 0))

abbrev pub decreases-loop-k : goal.decreases-loop-k
decreases-loop-k l = l.count - l.k
