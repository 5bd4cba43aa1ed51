-- What stands behind an expression that was read as far as it goes.
use Rattle.std.specs.Prelude.{ℕ, ◌<◌, List, [], ◌∷◌}
use Rattle.cond_expr.specs.declared.token.Spot.{Spot}
use Rattle.cond_expr.specs.declared.token.Follow.{Follow}
use Rattle.cond_expr.specs.declared.token.Follow.TheVariants.{Joins, Closes, Neither}
use Rattle.cond_expr.specs.Token.{strength, follow_of}

abbrev pub IsWeaker : ℕ → Follow → Type 0
IsWeaker least (Joins op) = strength op < least
IsWeaker least Closes = Unit {0}
IsWeaker least Neither = Unit {0}

-- no operation of this strength or more goes on
abbrev pub Stops : ℕ → List Spot → Type 0
Stops least [] = Unit {0}
Stops least (s ∷ rest) = IsWeaker least (follow_of s.token)
