-- Ranges in the order of their addresses: where each begins before the next, one list has them.
use Rattle.std.proofs.Common.{◌≡◌, ◌≢◌, ℕ, zero, suc, ◌+◌, ◌*◌, ◌<◌, ◌≤◌, Bool, true, false, List, [], ◌∷◌, length, get_or, map, refl, sym, ◌∙◌, ap, arith, inl, inr}
use Rattle.std.specs.Prelude.{◌⊎◌, ◌||◌, nat_lt, All, AllPairs, Contains, if◌then◌else◌}
use Rattle.std.specs.List.{list_any}
use Rattle.std.specs.List.Sorted.{IsPermutation}
use Rattle.std.proofs.lemmas.Bool.Decides.{nat_tests}
use Rattle.std.proofs.lemmas.List.Elements.{All-head, All-tail}
use Rattle.std.proofs.lemmas.List.Sorted.{IsPermutation-sym, All-permutation, Contains-permutation}
use Rattle.elf32_read.specs.Program.{Program, Text, in_text, in_words}
use Rattle.elf32_read.specs.Headers.{loaded, text_headers, text_of, program_of}
use Rattle.elf32_read.specs.Ranges.{IsWithin, text_fits, text_range}
use Rattle.elf32_read.specs.Spans.{Apart, AreTexts, Rise, covers, numbered}
use Rattle.elf32_read.specs.TextSpans.{in_order, placed, text_spans}
use Rattle.elf32_read.specs.declared.header.SectionHeader.{SectionHeader}
use Rattle.elf32_read.specs.declared.spans.Span.{Span}
use Rattle.elf32_read.specs.declared.tables.TextRange.{TextRange}
use Rattle.elf32_read.proofs.Found.{some_texts}
use Rattle.elf32_read.proofs.Numbered.{span}
use Rattle.elf32_read.proofs.Rising.{pairs-permutation, pairs_from, rise_later}
use Rattle.elf32_read.proofs.Texts.{meets}

-- a range is one of some
abbrev Has : Span → List Span → Type 0
Has s [] = ⊥
Has s (t ∷ ts) = (s ≡ t) ⊎ Has s ts

-- each begins behind an address
abbrev Behind : ℕ → List Span → Type 0
Behind n [] = Unit {0}
Behind n (t ∷ ts) = (n < t.start) × Behind n ts

-- each begins behind the start of the one before it
abbrev Starts : List Span → Type 0
Starts [] = Unit {0}
Starts (s ∷ ss) = Behind s.start ss × Starts ss

has_behind : (n : ℕ) (ss : List Span) (s : Span) → Behind n ss → Has s ss → n < s.start
has_behind n [] s b h = absurd h
has_behind n (t ∷ ts) s b h = elim h [ inl e ↦ rw e b.0 | inr later ↦ has_behind n ts s b.1 later ]

first_same : (x y : Span) (xs ys : List Span) → Behind x.start xs → Behind y.start ys → Has x (y ∷ ys) → Has y (x ∷ xs) → x ≡ y
first_same x y xs ys a b f g =
    elim f [
      | inl e ↦ e
      | inr h ↦ elim g [
        | inl e ↦ sym e
        | inr k ↦ (let up = has_behind y.start ys x b h in let down = has_behind x.start xs y a k in absurd (omega arith))
      ]
    ]

rest_has : (x y s : Span) (xs ys : List Span) → x ≡ y → Behind x.start xs → Has s xs → Has s (y ∷ ys) → Has s ys
rest_has x y s xs ys same a h f =
    elim f [
      | inl e ↦ (
          let up = has_behind x.start xs s a h in
          let is : s.start ≡ x.start = ap (λ (t : Span). t.start) (e ∙ sym same) in
          absurd (omega arith))
      | inr k ↦ k
    ]

cons_same : (x y : Span) (xs ys : List Span) → x ≡ y → xs ≡ ys → x ∷ xs ≡ y ∷ ys
cons_same x y xs ys e h = cc

one_list : (xs ys : List Span) → Starts xs → Starts ys → ((s : Span) → Has s xs → Has s ys) → ((s : Span) → Has s ys → Has s xs) → xs ≡ ys
one_list [] [] a b f g = refl
one_list [] (y ∷ ys) a b f g = absurd (g y (inl refl))
one_list (x ∷ xs) [] a b f g = absurd (f x (inl refl))
one_list (x ∷ xs) (y ∷ ys) a b f g =
    let same = first_same x y xs ys a.0 b.0 (f x (inl refl)) (g y (inl refl)) in
    cons_same x y xs ys same
    (one_list xs ys a.1 b.1 (λ s h. rest_has x y s xs ys same a.0 h (f s (inr h))) (λ s h. rest_has y x s ys xs (sym same) b.0 h (g s (inr h))))

has_contains : (ss : List Span) (s : Span) → Has s ss → Contains ss s
has_contains [] s h = absurd h
has_contains (t ∷ ts) s h =
    elim h [
      | inl e ↦ (0, omega arith, sym e)
      | inr later ↦ (let c = has_contains ts s later in (suc c.0, omega (arith, c.1), c.2))
    ]

contains_has : (ss : List Span) (s : Span) (k : ℕ) → k < length ss → get_or ss k s ≡ s → Has s ss
contains_has [] s k lt e = absurd (omega arith)
contains_has (t ∷ ts) s zero lt e = inl (sym e)
contains_has (t ∷ ts) s (suc k) lt e = inr (contains_has ts s k (omega arith) e)

has_permuted : (ss ts : List Span) (s : Span) → IsPermutation ss ts → Has s ss → Has s ts
has_permuted ss ts s p h =
    let c = Contains-permutation ss ts s p (has_contains ss s h) in contains_has ts s c.0 c.1 c.2

-- the ranges of a list in order are those of the list

placed_has_by : (b : Bool) (s t u : Span) (ps us : List Span) → (Has s ps → (s ≡ t) ⊎ Has s us) → Has s (if b then u ∷ ps else t ∷ u ∷ us) → (s ≡ t) ⊎ Has s (u ∷ us)
placed_has_by true s t u ps us rest h =
    elim h [
      | inl e ↦ inr (inl e)
      | inr later ↦ elim (rest later) [ inl e ↦ inl e | inr k ↦ inr (inr k) ]
    ]
placed_has_by false s t u ps us rest h = h

placed_has : (s t : Span) (us : List Span) → Has s (placed t us) → (s ≡ t) ⊎ Has s us
placed_has s t [] h = h
placed_has s t (u ∷ us) h = placed_has_by (nat_lt u.start t.start) s t u (placed t us) us (placed_has s t us) h

has_placed_by : (b : Bool) (s t u : Span) (ps us : List Span) → ((s ≡ t) ⊎ Has s us → Has s ps) → (s ≡ t) ⊎ Has s (u ∷ us) → Has s (if b then u ∷ ps else t ∷ u ∷ us)
has_placed_by true s t u ps us rest h =
    elim h [
      | inl e ↦ inr (rest (inl e))
      | inr k ↦ elim k [ inl e ↦ inl e | inr later ↦ inr (rest (inr later)) ]
    ]
has_placed_by false s t u ps us rest h = h

has_placed : (s t : Span) (us : List Span) → (s ≡ t) ⊎ Has s us → Has s (placed t us)
has_placed s t [] h = h
has_placed s t (u ∷ us) h = has_placed_by (nat_lt u.start t.start) s t u (placed t us) us (has_placed s t us) h

ordered_has : (ss : List Span) (s : Span) → Has s (in_order ss) → Has s ss
ordered_has [] s h = h
ordered_has (t ∷ ts) s h = elim (placed_has s t (in_order ts) h) [ inl e ↦ inl e | inr k ↦ inr (ordered_has ts s k) ]

has_ordered : (ss : List Span) (s : Span) → Has s ss → Has s (in_order ss)
has_ordered [] s h = h
has_ordered (t ∷ ts) s h = has_placed s t (in_order ts) (elim h [ inl e ↦ inl e | inr k ↦ inr (has_ordered ts s k) ])

-- of ranges that begin at different addresses

-- none begins at an address
abbrev Elsewhere : ℕ → List Span → Type 0
Elsewhere n [] = Unit {0}
Elsewhere n (t ∷ ts) = (t.start ≢ n) × Elsewhere n ts

abbrev Distinct : List Span → Type 0
Distinct [] = Unit {0}
Distinct (s ∷ ss) = Elsewhere s.start ss × Distinct ss

behind_lower : (n m : ℕ) (ss : List Span) → n ≤ m → Behind m ss → Behind n ss
behind_lower n m [] le b = tt
behind_lower n m (t ∷ ts) le b = (omega (arith, b.0), behind_lower n m ts le b.1)

behind_placed_by : (b : Bool) (n : ℕ) (t u : Span) (ps us : List Span) → n < t.start → Behind n (u ∷ us) → Behind n ps → Behind n (if b then u ∷ ps else t ∷ u ∷ us)
behind_placed_by true n t u ps us lt a rest = (a.0, rest)
behind_placed_by false n t u ps us lt a rest = (lt, a)

behind_placed : (n : ℕ) (t : Span) (us : List Span) → n < t.start → Behind n us → Behind n (placed t us)
behind_placed n t [] lt a = (lt, tt)
behind_placed n t (u ∷ us) lt a = behind_placed_by (nat_lt u.start t.start) n t u (placed t us) us lt a (behind_placed n t us lt a.1)

starts_placed_by : (b : Bool) (t u : Span) (us : List Span) → nat_lt u.start t.start ≡ b → u.start ≢ t.start → Starts (u ∷ us) → Starts (placed t us)
    → Starts (if b then u ∷ placed t us else t ∷ u ∷ us)
starts_placed_by true t u us e apart s rest =
    let lt : u.start < t.start = grind (arith, nat_tests) in (behind_placed u.start t us lt s.0, rest)
starts_placed_by false t u us e apart s rest =
    let le : t.start ≤ u.start = grind (arith, nat_tests) in
    let lt : t.start < u.start = omega (arith, le, apart) in
    ((lt, behind_lower t.start u.start us le s.0), s)

starts_placed : (t : Span) (us : List Span) → Elsewhere t.start us → Starts us → Starts (placed t us)
starts_placed t [] d s = (tt, tt)
starts_placed t (u ∷ us) d s = starts_placed_by (nat_lt u.start t.start) t u us refl d.0 s (starts_placed t us d.1 s.1)

elsewhere_placed_by : (b : Bool) (n : ℕ) (t u : Span) (ps us : List Span) → t.start ≢ n → Elsewhere n (u ∷ us) → Elsewhere n ps → Elsewhere n (if b then u ∷ ps else t ∷ u ∷ us)
elsewhere_placed_by true n t u ps us ne a rest = (a.0, rest)
elsewhere_placed_by false n t u ps us ne a rest = (ne, a)

elsewhere_placed : (n : ℕ) (t : Span) (us : List Span) → t.start ≢ n → Elsewhere n us → Elsewhere n (placed t us)
elsewhere_placed n t [] ne a = (ne, tt)
elsewhere_placed n t (u ∷ us) ne a = elsewhere_placed_by (nat_lt u.start t.start) n t u (placed t us) us ne a (elsewhere_placed n t us ne a.1)

elsewhere_ordered : (n : ℕ) (ss : List Span) → Elsewhere n ss → Elsewhere n (in_order ss)
elsewhere_ordered n [] a = tt
elsewhere_ordered n (t ∷ ts) a = elsewhere_placed n t (in_order ts) a.0 (elsewhere_ordered n ts a.1)

starts_ordered : (ss : List Span) → Distinct ss → Starts (in_order ss)
starts_ordered [] d = tt
starts_ordered (s ∷ ss) d = starts_placed s (in_order ss) (elsewhere_ordered s.start ss d.0) (starts_ordered ss d.1)

-- ranges that are apart and not empty

abbrev AreFull : List Span → Type 0
AreFull ss = All (λ s. 0 < s.size) ss

other_start : (a b : Span) → Apart a b → 0 < a.size → 0 < b.size → b.start ≢ a.start
other_start a b e m n same = grind (arith, nat_tests)

elsewhere_from : (n : ℕ) (ss : List Span) → ((k : ℕ) (d : Span) → k < length ss → (get_or ss k d).start ≢ n) → Elsewhere n ss
elsewhere_from n [] h = tt
elsewhere_from n (t ∷ ts) h = (h 0 t (omega arith), elsewhere_from n ts (λ k d lt. h (suc k) d (omega arith)))

distinct_from : (ss : List Span) → AllPairs Apart ss → AreFull ss → Distinct ss
distinct_from [] pairs full = tt
distinct_from (s ∷ ss) pairs full = (
  elsewhere_from s.start ss
      (λ k d lt. other_start s (get_or ss k d) (pairs 0 (suc k) d (omega arith) (omega arith)) (full 0 d (omega arith)) (full (suc k) d (omega arith))),
  distinct_from ss (λ i j d lt within. pairs (suc i) (suc j) d (omega arith) (omega arith)) (All-tail (λ t. 0 < t.size) s ss full),
)

behind_from : (n : ℕ) (ss : List Span) → ((k : ℕ) (d : Span) → k < length ss → n < (get_or ss k d).start) → Behind n ss
behind_from n [] h = tt
behind_from n (t ∷ ts) h = (h 0 t (omega arith), behind_from n ts (λ k d lt. h (suc k) d (omega arith)))

-- the start of each is below that of a later one
abbrev Lower : List Span → Type 0
Lower ss = (i j : ℕ) (d : Span) → i < j → j < length ss → (get_or ss i d).start < (get_or ss j d).start

starts_from : (ss : List Span) → Lower ss → Starts ss
starts_from [] low = tt
starts_from (s ∷ ss) low = (
  behind_from s.start ss (λ k d lt. low 0 (suc k) d (omega arith) (omega arith)),
  starts_from ss (λ i j d lt within. low (suc i) (suc j) d (omega arith) (omega arith)),
)

lower : (ss : List Span) → Rise ss → AreFull ss → Lower ss
lower ss up full i j d lt within =
    let far = rise_later ss up i j d lt within in
    let some = full i d (omega arith) in
    omega arith

-- a list in another order that rises is the list in order
pub is_in_order : (xs ss : List Span) → IsPermutation xs ss → Rise ss → AreFull xs → ss ≡ in_order xs
is_in_order xs ss p up full =
    let back = IsPermutation-sym xs ss p in
    let pairs = pairs-permutation ss xs back (pairs_from ss up) in
    one_list ss (in_order xs) (starts_from ss (lower ss up (All-permutation (λ s. 0 < s.size) xs ss p full))) (starts_ordered xs (distinct_from xs pairs full))
    (λ s h. has_ordered xs s (has_permuted ss xs s back h)) (λ s h. has_permuted xs ss s p (ordered_has xs s h))

-- the text of a program

same_spans : (a n b m k : ℕ) → a ≡ b → n ≡ m → span a n k ≡ span b m k
same_spans a n b m k e f = rw (e, f) refl

numbered-texts : (file : List ℕ) (k : ℕ) (hs : List SectionHeader) → All (λ h. text_fits (loaded file) h ≡ true) hs → All (IsWithin file) (loaded file)
    → numbered (λ (t : Text). t.address) (λ (t : Text). 4 * length t.words) k (map (text_of file) hs)
    ≡ numbered (λ (r : TextRange). r.address) (λ (r : TextRange). r.size) k (map (text_range file) hs)
numbered-texts file k [] fit all = refl
numbered-texts file k (h ∷ hs) fit all =
    let m = meets file h (All-head (λ h. text_fits (loaded file) h ≡ true) h hs fit) all in
    cons_same _ _ _ _ (same_spans _ _ _ _ k m.address m.size)
    (numbered-texts file (k + 1) hs (All-tail (λ h. text_fits (loaded file) h ≡ true) h hs fit) all)

full_texts : (file : List ℕ) (k : ℕ) (hs : List SectionHeader) → All (λ h. 0 < h.size) hs
    → AreFull (numbered (λ (r : TextRange). r.address) (λ (r : TextRange). r.size) k (map (text_range file) hs))
full_texts file k [] some = λ i d lt. absurd (omega (arith, lt))
full_texts file k (h ∷ hs) some = full_cons (span h.address h.size k) _ (All-head (λ h. 0 < h.size) h hs some) (full_texts file (k + 1) hs (All-tail (λ h. 0 < h.size) h hs some))
  where
    full_cons : (s : Span) (ss : List Span) → 0 < s.size → AreFull ss → AreFull (s ∷ ss)
    full_cons s ss some rest zero d lt = some
    full_cons s ss some rest (suc i) d lt = rest i d (omega (arith, lt))

pub are_text_spans : (file : List ℕ) (text : List TextRange) (ss : List Span) → All (λ h. text_fits (loaded file) h ≡ true) (text_headers file)
    → All (IsWithin file) (loaded file) → text ≡ map (text_range file) (text_headers file) → AreTexts text ss
    → ss ≡ text_spans (program_of file)
unfolding text_spans program_of
are_text_spans file text ss fit all is r =
    let hs = text_headers file in
    let same = numbered-texts file 0 hs fit all in
    let permuted = rw is at r.same in
    is_in_order _ ss permuted r.rise (full_texts file 0 hs (some_texts file)) ∙ sym (ap in_order same)

-- whether an address is text, by the ranges in order

any_placed_by : (b p q : Bool) (any rest : Bool) → rest ≡ (p || any) → (if b then q || rest else p || (q || any)) ≡ (p || (q || any))
any_placed_by true true true any rest e = refl
any_placed_by true true false any rest e = e
any_placed_by true false true any rest e = refl
any_placed_by true false false any rest e = e
any_placed_by false p q any rest e = refl

any_if : (b : Bool) (test : Span → Bool) (xs ys : List Span) → list_any test (if b then xs else ys) ≡ (if b then list_any test xs else list_any test ys)
any_if true test xs ys = refl
any_if false test xs ys = refl

any_placed : (test : Span → Bool) (t : Span) (us : List Span) → list_any test (placed t us) ≡ (test t || list_any test us)
any_placed test t [] = refl
any_placed test t (u ∷ us) =
    any_if (nat_lt u.start t.start) test (u ∷ placed t us) (t ∷ u ∷ us)
    ∙ any_placed_by (nat_lt u.start t.start) (test t) (test u) (list_any test us) (list_any test (placed t us)) (any_placed test t us)

any_ordered : (test : Span → Bool) (ss : List Span) → list_any test (in_order ss) ≡ list_any test ss
any_ordered test [] = refl
any_ordered test (s ∷ ss) = any_placed test s (in_order ss) ∙ ap (λ (any : Bool). test s || any) (any_ordered test ss)

any_numbered : (addr k : ℕ) (ts : List Text) → list_any (covers addr) (numbered (λ (t : Text). t.address) (λ (t : Text). 4 * length t.words) k ts) ≡ list_any (in_words addr) ts
any_numbered addr k [] = refl
any_numbered addr k (t ∷ ts) = ap (λ (any : Bool). in_words addr t || any) (any_numbered addr (k + 1) ts)

pub any_text_span : (p : Program) (addr : ℕ) → list_any (covers addr) (text_spans p) ≡ in_text p addr
unfolding text_spans
any_text_span p addr =
    any_ordered (covers addr) (numbered (λ (t : Text). t.address) (λ (t : Text). 4 * length t.words) 0 p.text) ∙ any_numbered addr 0 p.text
