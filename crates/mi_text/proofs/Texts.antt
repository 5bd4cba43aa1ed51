-- Reading a C string byte by byte; what is written of a text is read as this text.
use Rattle.std.proofs.Common.{◌≡◌, ℕ, ◌<◌, Ok, Err, Result, List, [], ◌∷◌, ◌++◌, length, None, refl, sym, ap, subst, ◌∙◌, append_assoc, arith}
use Rattle.std.proofs.lemmas.List.{append-nil}
use Rattle.std.proofs.lemmas.List.Concat.{flat_map-cons}
use Rattle.std.proofs.lemmas.Option.{same_Some}
use Rattle.std.specs.Borrow.{Bor}
use Rattle.std.specs.Global.{Vec}
use Rattle.mi_text.specs.declared.fault.ReadFault.{ReadFault}
use Rattle.mi_text.specs.declared.fault.ReadFault.TheVariants as faults
use Rattle.mi_text.specs.CString.{escaped, escapes, c_string, AreBytes}
use Rattle.mi_text.specs.Escape.{symbol, symbol_at, IsText}
use Rattle.mi_text.specs.Text.{ReadsText, GivesText}
use Rattle.mi_text.proofs.Symbols.{quote_spells_none, symbol_shorter, symbol_again}

-- of bytes some were read as a text, and what is a whole text goes on with the rest
pub record Reading (bytes rest text : List ℕ) : Type 0 where
  pub so_far : (t r : List ℕ) → IsText rest t r → IsText bytes (text ++ t) r
  pub only : (t r : List ℕ) → IsText bytes t r → (u : List ℕ) × (t ≡ text ++ u) × IsText rest u r

pub reading_starts : (bytes text : List ℕ) → text ≡ [] → Reading bytes bytes text
reading_starts bytes text e = subst (λ (t : List ℕ). Reading bytes bytes t) (sym e) (record { so_far = λ t r h. h; only = λ t r h. (t, refl, h) })

later_text : (rest more u r : List ℕ) (b : ℕ) → symbol_at rest ≡ symbol b more → IsText rest u r → (v : List ℕ) × (u ≡ b ∷ v) × IsText more v r
later_text rest more [] r b found h = let e : symbol_at rest ≡ None = ap symbol_at h ∙ quote_spells_none r in absurd cc
later_text rest more (c ∷ u) r b found h =
    let same = same_Some (b, more) (c, h.0) (sym found ∙ h.1) in
    let heads : b ≡ c = ap (λ (p : ℕ × List ℕ). p.0) same in
    let rests : more ≡ h.0 = ap (λ (p : ℕ × List ℕ). p.1) same in
    (u, ap (λ (n : ℕ). n ∷ u) (sym heads), subst (λ (l : List ℕ). IsText l u r) (sym rests) h.2)

pub reading_turns : (bytes rest more text text' : List ℕ) (b : ℕ) → Reading bytes rest text → symbol_at rest ≡ symbol b more → text' ≡ text ++ b ∷ [] → Reading bytes more text'
reading_turns bytes rest more text text' b q found e =
    subst (λ (t : List ℕ). Reading bytes more t) (sym e) (record {
      so_far = λ t r h. subst (λ (l : List ℕ). IsText bytes l r) (sym (append_assoc text (b ∷ []) t)) (q.so_far (b ∷ t) r (more, found, h));
      only = λ t r h.
          let n = q.only t r h in
          let v = later_text rest more n.0 r b found n.2 in
          (v.0, n.1 ∙ ap (λ (l : List ℕ). text ++ l) v.1 ∙ sym (append_assoc text (b ∷ []) v.0), v.2);
    })

pub reading_ends : (bytes rest text end : List ℕ) → Reading bytes rest text → rest ≡ 34 ∷ end → IsText bytes text end
reading_ends bytes rest text end q e = subst (λ (l : List ℕ). IsText bytes l end) (append-nil text) (q.so_far [] end e)

no_more : (rest u r : List ℕ) → ((x : List ℕ) → rest ≡ 34 ∷ x → ⊥) → symbol_at rest ≡ None → IsText rest u r → ⊥
no_more rest [] r no_quote none h = no_quote r h
no_more rest (c ∷ u) r no_quote none h = let e = h.1 in absurd cc

pub reading_fails : (bytes rest text : List ℕ) → Reading bytes rest text → ((x : List ℕ) → rest ≡ 34 ∷ x → ⊥) → symbol_at rest ≡ None → (t r : List ℕ) → IsText bytes t r → ⊥
reading_fails bytes rest text q no_quote none t r h = let n = q.only t r h in no_more rest n.0 r no_quote none n.2

-- bytes spell one text
pub one_text : (t u bytes x y : List ℕ) → IsText bytes t x → IsText bytes u y → (t ≡ u) × (x ≡ y)
one_text [] [] bytes x y h g = (refl, cc)
one_text [] (c ∷ u) bytes x y h g = let e : symbol_at bytes ≡ None = ap symbol_at h ∙ quote_spells_none x in let f = g.1 in absurd cc
one_text (c ∷ t) [] bytes x y h g = let e : symbol_at bytes ≡ None = ap symbol_at g ∙ quote_spells_none y in let f = h.1 in absurd cc
one_text (c ∷ t) (d ∷ u) bytes x y h g =
    let same = same_Some (c, h.0) (d, g.0) (sym h.1 ∙ g.1) in
    let heads : c ≡ d = ap (λ (p : ℕ × List ℕ). p.0) same in
    let rests : h.0 ≡ g.0 = ap (λ (p : ℕ × List ℕ). p.1) same in
    let ih = one_text t u g.0 x y (subst (λ (l : List ℕ). IsText l t x) rests h.2) g.2 in
    let tails : t ≡ u = ih.0 in
    (cc, ih.1)

pub text_shorter : (text bytes rest : List ℕ) → IsText bytes text rest → length rest < length bytes
text_shorter [] bytes rest h = omega (arith, ap length h)
text_shorter (b ∷ text) bytes rest h = omega (arith, symbol_shorter bytes h.0 b h.1, text_shorter text h.0 rest h.2)

escapes-cons : (b : ℕ) (t x : List ℕ) → escapes (b ∷ t) ++ x ≡ escaped b ++ (escapes t ++ x)
escapes-cons b t x = ap (λ (l : List ℕ). l ++ x) (flat_map-cons escaped b t) ∙ append_assoc (escaped b) (escapes t) x

text_again : (text rest : List ℕ) → AreBytes text → IsText (escapes text ++ 34 ∷ rest) text rest
text_again [] rest h = refl
text_again (b ∷ t) rest h =
    (escapes t ++ 34 ∷ rest, ap symbol_at (escapes-cons b t (34 ∷ rest)) ∙ symbol_again b (escapes t ++ 34 ∷ rest) h.0, text_again t rest h.1)

pub is_text : (bytes text rest : List ℕ) → AreBytes text → bytes ≡ escapes text ++ 34 ∷ rest → IsText bytes text rest
is_text bytes text rest h e = subst (λ (l : List ℕ). IsText l text rest) (sym e) (text_again text rest h)

-- by cases on what was read
pub read_again : (bytes : List ℕ) (r : Result (Vec ℕ × Bor (List ℕ)) ReadFault) → ReadsText bytes r → (text rest : List ℕ) → AreBytes text → bytes ≡ escapes text ++ 34 ∷ rest → GivesText text rest r
read_again bytes (Ok p) reads text rest h e = one_text p.0.items text bytes p.1.now rest reads (is_text bytes text rest h e)
read_again bytes (Err faults.NoMemory) reads text rest h e = tt
read_again bytes (Err faults.Text) reads text rest h e = reads text rest (is_text bytes text rest h e)

-- a C string behind its opening `"`
pub behind_quote : (t x : List ℕ) → c_string t ++ x ≡ 34 ∷ (escapes t ++ 34 ∷ x)
behind_quote t x = ap (λ (l : List ℕ). 34 ∷ l) (append_assoc (escapes t) (34 ∷ []) x)

-- no C string begins another
pub one_c_string : (t u x y : List ℕ) → AreBytes t → AreBytes u → c_string t ++ x ≡ c_string u ++ y → (t ≡ u) × (x ≡ y)
one_c_string t u x y ht hu e =
    let f : 34 ∷ (escapes t ++ 34 ∷ x) ≡ 34 ∷ (escapes u ++ 34 ∷ y) = sym (behind_quote t x) ∙ e ∙ behind_quote u y in
    one_text t u (escapes t ++ 34 ∷ x) x y (text_again t x ht) (is_text (escapes t ++ 34 ∷ x) u y hu cc)
