use Rattle.std.proofs.Common.{◌≡◌, ◌≤◌, ◌^◌, ℕ, length}
use Rattle.cond_expr.specs.Lex.{number_behind}
use Rattle.cond_expr.proofs.Turns.{IsKeptOf}
use Rattle.cond_expr.proofs.lex.digits.Given as goal

abbrev pub invariant-digits : goal.invariant-digits
invariant-digits l =
    (l.value ≤ 2 ^ 32) × (length l.rest ≤ length l.bytes)
    × ((n : ℕ) × IsKeptOf n l.value × (number_behind l.base n l.rest ≡ number_behind l.base l.so_far l.bytes))

abbrev pub decreases-digits : goal.decreases-digits
decreases-digits l = length l.rest
