use Rattle.std.proofs.Common.{◌≡◌, ◌<◌, ℕ, length, get_or}
use Rattle.frame_walk.proofs.walking.integer_registers.Given as goal

abbrev pub invariant-loop-n : goal.invariant-loop-n
invariant-loop-n g l = (length l.registers ≡ 32) × ((k : ℕ) → k < l.n → get_or l.registers k 0 ≡ g.V.View.registers l.view k)
