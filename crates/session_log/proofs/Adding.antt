-- Words that are put at the end, one by one.
use Rattle.std.proofs.Common.{◌≡◌, ℕ, List, [], ◌∷◌, ◌++◌, refl, ap, sym, ◌∙◌, append_assoc}
use Rattle.session_log.specs.declared.row.LogRow.{LogRow}
use Rattle.session_log.specs.Rows.{row_text, FitsText, AddsLine}

-- a word and a byte, and then more
pub then_word : (o n m w r : List ℕ) (g : ℕ) → n ≡ o ++ (w ++ g ∷ []) → m ≡ n ++ r → m ≡ o ++ (w ++ g ∷ r)
then_word o n m w r g e f =
    f ∙ ap (λ (x : List ℕ). x ++ r) e ∙ append_assoc o (w ++ g ∷ []) r ∙ ap (λ (x : List ℕ). o ++ x) (append_assoc w (g ∷ []) r)

-- a word, a byte, a word and a byte, and then more
pub then_named : (o n m w x r : List ℕ) (g h : ℕ) → n ≡ o ++ (w ++ g ∷ (x ++ h ∷ [])) → m ≡ n ++ r → m ≡ o ++ (w ++ g ∷ (x ++ h ∷ r))
then_named o n m w x r g h e f =
    then_word o n m (w ++ g ∷ x) r h (e ∙ ap (λ (y : List ℕ). o ++ y) (sym (append_assoc w (g ∷ x) (h ∷ [])))) f ∙ ap (λ (y : List ℕ). o ++ y) (append_assoc w (g ∷ x) (h ∷ r))

pub adds_line : (r : LogRow) (old new : List ℕ) → FitsText r → new ≡ old ++ row_text r → AddsLine r old new
adds_line r old new fits e = record { behind = e; spelled = λ stands. record { fits = record { text = fits; stands = stands }; text = refl } }
