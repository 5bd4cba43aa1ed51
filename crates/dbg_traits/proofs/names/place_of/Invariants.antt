use Rattle.std.proofs.Common.{◌≡◌, ℕ, ◌<◌, ◌++◌, List, [], get_or}
use Rattle.dbg_traits.proofs.names.place_of.Given as goal

abbrev pub invariant-loop-i : goal.invariant-loop-i
invariant-loop-i l = (k : ℕ) → k < l.i → (front : List ℕ) → get_or l.words k [] ≡ front ++ l.name → ⊥
