use Rattle.std.proofs.Common.{◌-◌, ◌*◌, ◌<◌, ◌≤◌, ◌≡◌, ℕ}
use Rattle.scratch_slots.specs.Index.{bit_in}
use Rattle.scratch_slots.proofs.index.first_one.Given as goal

abbrev pub invariant-loop-group : goal.invariant-loop-group
invariant-loop-group l = (l.group ≤ 8) × ((j : ℕ) → j < 64 * l.group → bit_in l.groups j ≡ 0)

abbrev pub decreases-loop-group : goal.decreases-loop-group
decreases-loop-group l = 8 - l.group
