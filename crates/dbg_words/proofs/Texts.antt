-- The texts of the words, one more at a time.
use Rattle.std.proofs.Common.{◌≡◌, ℕ, ◌+◌, ◌<◌, Bool, true, false, List, refl, ◌∙◌, subst, arith, slice_index_or, length}
use Rattle.std.specs.Prelude.{nat_lt}
use Rattle.std.proofs.lemmas.List.{get_or_default}
use Rattle.std.proofs.lemmas.Bool.Decides.{nat_tests}
use Rattle.std.specs.Str.{IsUtf8}
use Rattle.dbg_words.specs.Uses.{Text}

pub one_more : (words : List Text) (i : ℕ) (x : Text) → ((k : ℕ) (d : Text) → k < i → IsUtf8 (slice_index_or words k d))
    → x ≡ slice_index_or words i x → i < length words → IsUtf8 x → (k : ℕ) (d : Text) → k < i + 1 → IsUtf8 (slice_index_or words k d)
one_more words i x before is in_list here k d l = go (nat_lt k i) refl
  where
    go : (b : Bool) → nat_lt k i ≡ b → IsUtf8 (slice_index_or words k d)
    go true e = before k d (grind (arith, nat_tests))
    go false e =
        let same : i ≡ k = grind (arith, nat_tests) in
        let P : Text → Type 0 = λ t. IsUtf8 t in
        let Q : ℕ → Type 0 = λ n. IsUtf8 (slice_index_or words n d) in
        subst Q same (subst P (is ∙ get_or_default words i x d in_list) here)
