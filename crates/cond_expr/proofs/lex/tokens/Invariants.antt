use Rattle.std.proofs.Common.{◌≡◌, ◌≤◌, ◌++◌, ℕ, length}
use Rattle.cond_expr.specs.Lex.{tokens_from, tokens_of}
use Rattle.cond_expr.proofs.lex.tokens.Given as goal

abbrev pub invariant-turns : goal.invariant-turns
invariant-turns l =
    (n : ℕ) × (length l.rest ≤ n) × (l.found.items ++ tokens_from l.symbols (length l.text) l.wants n l.rest ≡ tokens_of l.symbols l.text) × (length l.rest ≤ length l.text)

abbrev pub decreases-turns : goal.decreases-turns
decreases-turns l = length l.rest
