-- Ends of words.
use Rattle.std.proofs.Common.{◌≡◌, ◌++◌, ◌-◌, List, [], ◌∷◌, ℕ, drop, length, false, nat_eq, None, lit<, refl, sym, subst}
use Rattle.std.specs.List.{Contains}
use Rattle.dbg_traits.specs.Names.{IsNamed}
use Rattle.std.specs.Cmp.Lexicographic.{pointwise}
use Rattle.std.proofs.lemmas.Bool.Decides.{Decides-eqb}
use Rattle.std.proofs.lemmas.Slice.Eq.{strip_suffix_is}

-- a word whose last bytes aren't the name doesn't end with it
pub no_end : (word name : List ℕ) → pointwise nat_eq (drop (length word - length name) word) name ≡ false → (front : List ℕ) → word ≡ front ++ name → ⊥
no_end word name differs = strip_suffix_is {E = nat_eq} Decides-eqb word name None differs

-- a word ends with itself
pub whole_word : (words : List (List ℕ)) (name : List ℕ) → Contains words name → IsNamed words name
whole_word words name among = ([], among)

-- the only word is a name
pub only_word : (words : List (List ℕ)) (name : List ℕ) → words ≡ name ∷ [] → IsNamed words name
only_word words name is =
    let P : List (List ℕ) → Type 0 = λ ws. Contains ws name in
    whole_word words name (subst P (sym is) (0, lit< tt, refl))
