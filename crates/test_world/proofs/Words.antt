-- Two words, the second of which ends with a name.
use Rattle.std.proofs.Common.{◌≡◌, ◌++◌, List, [], ◌∷◌, ℕ, lit<, refl, sym, subst}
use Rattle.std.specs.List.{Contains}
use Rattle.dbg_traits.specs.Names.{IsNamed}

pub second_word : (other front name : List ℕ) (words : List (List ℕ)) → words ≡ other ∷ ((front ++ name) ∷ []) → IsNamed words name
second_word other front name words is =
    let P : List (List ℕ) → Type 0 = λ ws. Contains ws (front ++ name) in
    (front, subst P (sym is) (1, lit< tt, refl))
