-- A C string is read where what is written of the text that was read stands at the front.
use Rattle.std.proofs.Common.{◌≡◌, ℕ, Result, List, [], ◌∷◌, ◌++◌, sym, ap, ◌∙◌}
use Rattle.std.specs.Borrow.{Bor}
use Rattle.std.specs.Global.{Vec}
use Rattle.mi_text.specs.declared.fault.ReadFault.{ReadFault}
use Rattle.mi_text.specs.CString.{AreBytes, escapes, c_string}
use Rattle.mi_text.specs.Text.{GivesText}
use Rattle.mi_text.proofs.Texts.{behind_quote}

-- what a reader of the bytes behind the opening `"` says of each text that was written there
abbrev pub Again : List ℕ → Result (Vec ℕ × Bor (List ℕ)) ReadFault → Type 0
Again inner r = (text rest : List ℕ) → AreBytes text → inner ≡ escapes text ++ 34 ∷ rest → GivesText text rest r

pub behind : (bytes inner text rest : List ℕ) → bytes ≡ 34 ∷ inner → bytes ≡ c_string text ++ rest → inner ≡ escapes text ++ 34 ∷ rest
behind bytes inner text rest e f = let g : 34 ∷ inner ≡ 34 ∷ (escapes text ++ 34 ∷ rest) = sym e ∙ f ∙ behind_quote text rest in cc

-- what was read is written otherwise
pub other_spelling : (bytes inner spelling : List ℕ) (t : Vec ℕ) (end : Bor (List ℕ)) → bytes ≡ 34 ∷ inner → Again inner (Result.Ok (t, end)) → spelling ≡ c_string t.items → ((rest : List ℕ) → bytes ≡ spelling ++ rest → ⊥)
    → (text rest : List ℕ) → AreBytes text → bytes ≡ c_string text ++ rest → ⊥
other_spelling bytes inner spelling t end e again written none text rest h f =
    let same = (again text rest h (behind bytes inner text rest e f)).0 in
    none rest (f ∙ ap (λ (l : List ℕ). l ++ rest) (ap c_string (sym same) ∙ sym written))

-- what was written into an empty buffer
pub spelling_is : (slice into old text items : List ℕ) → slice ≡ into → into ≡ old ++ c_string text → old ≡ [] → text ≡ items → slice ≡ c_string items
spelling_is slice into old text items e written empty same = e ∙ written ∙ ap (λ (l : List ℕ). l ++ c_string text) empty ∙ ap c_string same
