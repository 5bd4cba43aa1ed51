use Rattle.std.proofs.Common.{◌≡◌, ◌≤◌, length}
use Rattle.cond_expr.specs.Lex.{after_blanks}
use Rattle.cond_expr.proofs.word.after_blanks.Given as goal

abbrev pub invariant-blanks : goal.invariant-blanks
invariant-blanks l = (after_blanks l.rest ≡ after_blanks l.bytes) × (length l.rest ≤ length l.bytes)

abbrev pub decreases-blanks : goal.decreases-blanks
decreases-blanks l = length l.rest
