use Rattle.std.proofs.Common.{◌≡◌, ◌-◌, ◌≤◌, ◌++◌, ℕ, length}
use Rattle.cond_expr.specs.Bare.{bare_from, bare_names, IsRow}
use Rattle.cond_expr.proofs.bare.bare_names.Given as goal

abbrev pub invariant-turns : goal.invariant-turns
invariant-turns l =
    (n : ℕ) × (length l.rest ≤ n) × (l.names.items ++ bare_from (length l.text) l.wants n l.rest ≡ bare_names l.text) × (length l.rest ≤ length l.text)
    × IsRow 0 (length l.text - length l.rest) l.names.items

abbrev pub decreases-turns : goal.decreases-turns
decreases-turns l = length l.rest
