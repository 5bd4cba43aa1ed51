use Rattle.std.proofs.Common.{◌≡◌, ◌≤◌, ◌<◌, ℕ, length, get_or}
use Rattle.log_check.proofs.hearing.common_length.Given as goal

abbrev pub invariant-loop-i : goal.invariant-loop-i
invariant-loop-i l = record {
  within : l.i ≤ length l.piece;
  same : (k : ℕ) → k < l.i → get_or l.text k 0 ≡ get_or l.piece k 0;
}
