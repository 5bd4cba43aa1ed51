use Rattle.std.proofs.Common.{◌≡◌, ◌+◌, length}
use Rattle.cond_expr.specs.Lex.{run_length}
use Rattle.cond_expr.proofs.word.run_length.Given as goal

abbrev pub invariant-bytes : goal.invariant-bytes
invariant-bytes l = (l.count + run_length l.rest ≡ run_length l.bytes) × (l.count + length l.rest ≡ length l.bytes)

abbrev pub decreases-bytes : goal.decreases-bytes
decreases-bytes l = length l.rest
