-- Reading the words of a line one after the other.
use Rattle.std.proofs.Common.{◌≡◌, ℕ, suc, ◌+◌, ◌-◌, ◌<◌, List, [], ◌∷◌, ◌++◌, length, take, drop, Bool, true, false, cond, not, ◌&&◌, eqb, Err, refl, sym, ap, subst, ◌∙◌, arith}
use Rattle.std.specs.Prelude.{take_while}
use Rattle.std.specs.List.{list_all, prefix_len}
use Rattle.std.proofs.lemmas.List.{append-nil, take-append-drop, length-append, length-drop}
use Rattle.std.proofs.lemmas.Bool.{ne_eqb, eqb-true}
use Rattle.std.proofs.Math.Seq.{take-length}
use Rattle.std.proofs.lemmas.List.Folds.{length-prefix_len}
use Rattle.mi_input.specs.declared.parts.Word.{Word}
use Rattle.mi_text.specs.declared.fault.ReadFault.{ReadFault}
use Rattle.mi_text.specs.declared.fault.ReadFault.TheVariants as reading
use Rattle.mi_text.specs.Escape.{IsText}
use Rattle.mi_text.proofs.Texts.{one_text, text_shorter}
use Rattle.mi_input.specs.Parts.{is_blank, is_word_byte, is_plain, is_parted, after_blanks, WordView, IsWordOf, IsWord, IsWords}
use Rattle.mi_input.specs.Split.{word_view, words_view, ReadsWord, ReadsWords}

-- ---- runs of bytes that pass a test

pub both : (a b : Bool) → (a && b) ≡ true → (a ≡ true) × (b ≡ true)
both true b e = (refl, e)
both false b e = absurd cc

-- no byte that passes stands first
unfoldable pub Stops : (ℕ → Bool) → List ℕ → Type 0
Stops p xs = (b : ℕ) (rest : List ℕ) → xs ≡ b ∷ rest → p b ≡ false

pub one_run : (p : ℕ → Bool) (a b x y : List ℕ) → list_all p a ≡ true → list_all p b ≡ true → Stops p x → Stops p y → a ++ x ≡ b ++ y → (a ≡ b) × (x ≡ y)
unfolding Stops
one_run p [] [] x y ha hb sx sy e = (refl, e)
one_run p [] (c ∷ b) x y ha hb sx sy e = let h = both (p c) (list_all p b) hb in let f = sx c (b ++ y) e in absurd cc
one_run p (c ∷ a) [] x y ha hb sx sy e = let h = both (p c) (list_all p a) ha in let f = sy c (a ++ x) (sym e) in absurd cc
one_run p (c ∷ a) (d ∷ b) x y ha hb sx sy e =
    let h = both (p c) (list_all p a) ha in
    let g = both (p d) (list_all p b) hb in
    let ih = one_run p a b x y h.1 g.1 sx sy cc in
    let heads : c ≡ d = cc in let tails : a ≡ b = ih.0 in (cc, ih.1)

all_by : (p : ℕ → Bool) (x : ℕ) (xs : List ℕ) (t : Bool) → p x ≡ t → list_all p (take (prefix_len p xs) xs) ≡ true → list_all p (take (cond t (1 + prefix_len p xs) 0) (x ∷ xs)) ≡ true
all_by p x xs true e ih = let at : 1 + prefix_len p xs ≡ suc (prefix_len p xs) = omega arith in rw (at, e) ih
all_by p x xs false e ih = refl

pub run_passes : (p : ℕ → Bool) (xs : List ℕ) → list_all p (take (prefix_len p xs) xs) ≡ true
run_passes p [] = refl
run_passes p (x ∷ xs) = all_by p x xs (p x) refl (run_passes p xs)

stops_by : (p : ℕ → Bool) (x : ℕ) (xs : List ℕ) (t : Bool) → p x ≡ t → Stops p (drop (prefix_len p xs) xs) → Stops p (drop (cond t (1 + prefix_len p xs) 0) (x ∷ xs))
unfolding Stops
stops_by p x xs true e ih = let at : 1 + prefix_len p xs ≡ suc (prefix_len p xs) = omega arith in rw at ih
stops_by p x xs false e ih = λ b rest f. let heads : x ≡ b = cc in ap p (sym heads) ∙ e

pub run_stops : (p : ℕ → Bool) (xs : List ℕ) → Stops p (drop (prefix_len p xs) xs)
unfolding Stops
run_stops p [] = λ b rest f. absurd cc
run_stops p (x ∷ xs) = stops_by p x xs (p x) refl (run_stops p xs)

-- the length of a run, as it is counted
pub run_length : (p : ℕ → Bool) (xs : List ℕ) (n : ℕ) → n ≡ length (take_while p xs) → n ≡ prefix_len p xs
run_length p xs n e = e ∙ length-prefix_len p xs

pub cut_back : (xs : List ℕ) (n : ℕ) → take (length xs - n) (drop n xs) ≡ drop n xs
cut_back xs n = ap (λ (k : ℕ). take k (drop n xs)) (sym (length-drop n xs)) ∙ take-length (drop n xs)

-- ---- words

abbrev pub view_of : List ℕ → Bool → WordView
view_of t q = (t, q)

empty : (xs : List ℕ) → length xs ≡ 0 → xs ≡ []
empty [] e = refl
empty (b ∷ bs) e = absurd (omega arith)

both_true : (a b : Bool) → a ≡ true → b ≡ true → (a && b) ≡ true
both_true true b e f = f
both_true false b e f = absurd cc

not_false : (t : Bool) → not t ≡ false → t ≡ true
not_false true e = refl
not_false false e = absurd cc

pub stops_parted : (xs : List ℕ) → Stops is_word_byte xs → is_parted xs ≡ true
unfolding Stops
stops_parted [] h = refl
stops_parted (b ∷ bs) h = not_false (is_blank b) (h b bs refl)

pub parted_stops : (xs : List ℕ) → is_parted xs ≡ true → Stops is_word_byte xs
unfolding Stops
parted_stops xs h = λ b rest e. let f : is_parted xs ≡ is_blank b = ap is_parted e in ap not (sym f ∙ h)

plain_by : (b : ℕ) (bs : List ℕ) (t : Bool) → is_word_byte b ≡ t → t ≡ true → (b ≡ 34 → ⊥) → is_plain (take (cond t (1 + prefix_len is_word_byte bs) 0) (b ∷ bs)) ≡ true
plain_by b bs true e _ n =
    let at : 1 + prefix_len is_word_byte bs ≡ suc (prefix_len is_word_byte bs) = omega arith in
    rw at (both_true (not (eqb b 34)) _ (ap not (ne_eqb b 34 n)) (both_true (is_word_byte b) _ e (run_passes is_word_byte bs)))
plain_by b bs false e f n = absurd cc

plain_run : (bytes : List ℕ) → is_parted bytes ≡ false → ((x : List ℕ) → bytes ≡ 34 ∷ x → ⊥) → is_plain (take (prefix_len is_word_byte bytes) bytes) ≡ true
plain_run [] h none = absurd cc
plain_run (b ∷ bs) h none = plain_by b bs (is_word_byte b) refl (ap not h) (λ e. none bs (ap (λ (n : ℕ). n ∷ bs) e))

pub plain_read : (bytes text : List ℕ) (end : ℕ) → end ≡ length (take_while is_word_byte bytes) → text ≡ take end bytes → is_parted bytes ≡ false → ((x : List ℕ) → bytes ≡ 34 ∷ x → ⊥)
    → IsWord bytes (text, false) (take (length bytes - end) (drop end bytes))
plain_read bytes text end counted taken h none =
    let n = run_length is_word_byte bytes end counted in
    let P : ℕ → Type 0 = λ k. (is_plain (take k bytes) ≡ true) × (is_parted (drop k bytes) ≡ true) in
    let run : P end = subst P (sym n) (plain_run bytes h none, stops_parted _ (run_stops is_word_byte bytes)) in
    let back = cut_back bytes end in
    ((sym (take-append-drop end bytes) ∙ ap (λ (l : List ℕ). l ++ drop end bytes) (sym taken) ∙ ap (λ (l : List ℕ). text ++ l) (sym back), ap is_plain taken ∙ run.0), ap is_parted back ∙ run.1)

plain_not_quote : (bytes inner text rest : List ℕ) → bytes ≡ 34 ∷ inner → bytes ≡ text ++ rest → is_plain text ≡ true → ⊥
plain_not_quote bytes inner [] rest e f h = cc
plain_not_quote bytes inner (b ∷ t) rest e f h =
    let g : 34 ∷ inner ≡ b ∷ (t ++ rest) = sym e ∙ f in
    let heads : b ≡ 34 = cc in
    let p = both (not (eqb b 34)) (list_all is_word_byte (b ∷ t)) h in
    let q : not (eqb b 34) ≡ false = ap (λ (n : ℕ). not (eqb n 34)) heads in absurd cc

quoted_only : (bytes inner : List ℕ) → bytes ≡ 34 ∷ inner → (q : Bool) (text rest : List ℕ) → IsWordOf q bytes text rest → IsText inner text rest
quoted_only bytes inner e true text rest h =
    let same : h.0 ≡ inner = (let f : 34 ∷ h.0 ≡ 34 ∷ inner = sym h.1 ∙ e in cc) in subst (λ (l : List ℕ). IsText l text rest) same h.2
quoted_only bytes inner e false text rest h = absurd (plain_not_quote bytes inner text rest e h.0 h.1)

pub word_not_parted : (bytes inner text rest : List ℕ) → bytes ≡ 34 ∷ inner → IsText inner text rest → is_parted rest ≡ false → (w : WordView) (r : List ℕ) → IsWord bytes w r → ⊥
word_not_parted bytes inner text rest e h fails w r is =
    let same = one_text text w.0 inner rest r h (quoted_only bytes inner e w.1 w.0 r is.0) in
    let parted : is_parted rest ≡ true = ap is_parted same.1 ∙ is.1 in absurd cc

plain_all : (t : List ℕ) → is_plain t ≡ true → list_all is_word_byte t ≡ true
plain_all [] h = refl
plain_all (b ∷ bs) h = (both (not (eqb b 34)) (list_all is_word_byte (b ∷ bs)) h).1

view_same : (t u : List ℕ) (q r : Bool) → t ≡ u → q ≡ r → view_of t q ≡ view_of u r
view_same t u q r e f = ap (λ (l : List ℕ). view_of l q) e ∙ ap (view_of u) f

one_kind : (bytes : List ℕ) (q r : Bool) (t u x y : List ℕ) → IsWordOf q bytes t x → IsWordOf r bytes u y → is_parted x ≡ true → is_parted y ≡ true → (t ≡ u) × (q ≡ r) × (x ≡ y)
one_kind bytes true r t u x y h g px py = by_other r g
  where
    by_other : (r : Bool) → IsWordOf r bytes u y → (t ≡ u) × (true ≡ r) × (x ≡ y)
    by_other true g = let p = one_text t u h.0 x y h.2 (quoted_only bytes h.0 h.1 true u y g) in (p.0, refl, p.1)
    by_other false g = absurd (plain_not_quote bytes h.0 u y h.1 g.0 g.1)
one_kind bytes false r t u x y h g px py = by_other r g
  where
    by_other : (r : Bool) → IsWordOf r bytes u y → (t ≡ u) × (false ≡ r) × (x ≡ y)
    by_other true g = absurd (plain_not_quote bytes g.0 t x g.1 h.0 h.1)
    by_other false g = let p = one_run is_word_byte t u x y (plain_all t h.1) (plain_all u g.1) (parted_stops x px) (parted_stops y py) (sym h.0 ∙ g.0) in (p.0, refl, p.1)

pub one_word : (bytes : List ℕ) (w v : WordView) (x y : List ℕ) → IsWord bytes w x → IsWord bytes v y → (w ≡ v) × (x ≡ y)
one_word bytes w v x y h g =
    let p = one_kind bytes w.1 v.1 w.0 v.0 x y h.0 g.0 h.1 g.1 in (view_same w.0 v.0 w.1 v.1 p.0 p.1, p.2)

-- ---- the words of a line

pub kind_shorter : (q : Bool) (bytes text rest : List ℕ) → IsWordOf q bytes text rest → length rest < length bytes
kind_shorter true bytes text rest h = omega (arith, text_shorter text h.0 rest h.2, ap length h.1)
kind_shorter false bytes [] rest h = let f = h.1 in absurd cc
kind_shorter false bytes (b ∷ text) rest h = omega (arith, ap length h.0, length-append text rest)

pub word_shorter : (start rest more : List ℕ) (w : WordView) → start ≡ after_blanks rest → IsWord start w more → length more < length rest
word_shorter start rest more w e h = omega (arith, kind_shorter w.1 start w.0 more h.0, ap length e, length-drop (length (take_while is_blank rest)) rest)

-- of bytes these words were read, and what are the words of the whole goes on with the rest
pub record Wording (bytes rest : List ℕ) (words : List Word) : Type 0 where
  pub so_far : (ws : List WordView) → IsWords rest ws → IsWords bytes (words_view words ++ ws)
  pub only : (ws : List WordView) → IsWords bytes ws → (vs : List WordView) × (ws ≡ words_view words ++ vs) × IsWords rest vs

pub wording_starts : (bytes : List ℕ) (words : List Word) → words ≡ [] → Wording bytes bytes words
wording_starts bytes words e = subst (λ (l : List Word). Wording bytes bytes l) (sym e) (record { so_far = λ ws h. h; only = λ ws h. (ws, refl, h) })

views-push : (words : List Word) (w : Word) (ws : List WordView) → words_view (words ++ w ∷ []) ++ ws ≡ words_view words ++ (word_view w ∷ ws)
views-push [] w ws = refl
views-push (v ∷ words) w ws = ap (λ (l : List WordView). word_view v ∷ l) (views-push words w ws)

later_words : (rest start more : List ℕ) (w : WordView) (ws : List WordView) → start ≡ after_blanks rest → false ≡ eqb (length start) 0 → IsWord start w more → IsWords rest ws → (vs : List WordView) × (ws ≡ w ∷ vs) × IsWords more vs
later_words rest start more w [] e some h g = let f : length start ≡ 0 = ap length (e ∙ g) in let t : eqb (length start) 0 ≡ true = ap (λ (n : ℕ). eqb n 0) f in absurd cc
later_words rest start more w (v ∷ vs) e some h g =
    let p = one_word start v w g.0 more (subst (λ (l : List ℕ). IsWord l v g.0) (sym e) g.1) h in
    (vs, ap (λ (x : WordView). x ∷ vs) p.0, subst (λ (l : List ℕ). IsWords l vs) p.1 g.2)

pub wording_turns : (bytes rest start more : List ℕ) (words words' : List Word) (w : Word) → Wording bytes rest words → start ≡ after_blanks rest
    → false ≡ eqb (length start) 0 → IsWord start (word_view w) more → words' ≡ words ++ w ∷ [] → Wording bytes more words'
wording_turns bytes rest start more words words' w q e some h pushed =
    subst (λ (l : List Word). Wording bytes more l) (sym pushed) (record {
      so_far = λ ws g. subst (λ (l : List WordView). IsWords bytes l) (sym (views-push words w ws)) (q.so_far (word_view w ∷ ws) (more, subst (λ (l : List ℕ). IsWord l (word_view w) more) e h, g));
      only = λ ws g.
          let n = q.only ws g in
          let v = later_words rest start more (word_view w) n.0 e some h n.2 in
          (v.0, n.1 ∙ ap (λ (l : List WordView). words_view words ++ l) v.1 ∙ sym (views-push words w v.0), v.2);
    })

pub wording_ends : (bytes rest start : List ℕ) (words : List Word) → Wording bytes rest words → start ≡ after_blanks rest → true ≡ eqb (length start) 0 → IsWords bytes (words_view words)
wording_ends bytes rest start words q e none =
    subst (λ (l : List WordView). IsWords bytes l) (append-nil (words_view words)) (q.so_far [] (sym e ∙ empty start (eqb-true (length start) 0 (sym none))))

no_word_there : (rest start : List ℕ) (ws : List WordView) → start ≡ after_blanks rest → false ≡ eqb (length start) 0 → ((w : WordView) (r : List ℕ) → IsWord start w r → ⊥) → IsWords rest ws → ⊥
no_word_there rest start [] e some none g = let f : length start ≡ 0 = ap length (e ∙ g) in let t : eqb (length start) 0 ≡ true = ap (λ (n : ℕ). eqb n 0) f in absurd cc
no_word_there rest start (v ∷ vs) e some none g = none v g.0 (subst (λ (l : List ℕ). IsWord l v g.0) (sym e) g.1)

pub wording_fails : (bytes rest start : List ℕ) (words : List Word) (f : ReadFault) → Wording bytes rest words → start ≡ after_blanks rest → false ≡ eqb (length start) 0 → ReadsWord start (Err f) → ReadsWords bytes (Err f)
wording_fails bytes rest start words reading.NoMemory q e some h = tt
wording_fails bytes rest start words reading.Text q e some h = λ ws g. let n = q.only ws g in no_word_there rest start n.0 e some h n.2

unparted : (start : List ℕ) → Stops is_blank start → false ≡ eqb (length start) 0 → is_parted start ≡ false
unfolding Stops
unparted [] h some = absurd cc
unparted (b ∷ bs) h some = h b bs refl

pub blanks_end : (rest start : List ℕ) → start ≡ after_blanks rest → false ≡ eqb (length start) 0 → is_parted start ≡ false
blanks_end rest start e some =
    let at : start ≡ drop (prefix_len is_blank rest) rest = e ∙ ap (λ (n : ℕ). drop n rest) (length-prefix_len is_blank rest) in
    unparted start (subst (λ (l : List ℕ). Stops is_blank l) (sym at) (run_stops is_blank rest)) some
