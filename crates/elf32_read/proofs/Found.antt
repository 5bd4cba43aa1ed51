-- The entry of a table that an address is in, by the ranges in order.
use Rattle.std.proofs.Common.{◌≡◌, ℕ, suc, ◌+◌, ◌<◌, Bool, true, false, List, [], ◌∷◌, length, get_or, ltb-true, find, Option, None, Some, refl, sym, ◌∙◌, ap, subst, arith}
use Rattle.std.specs.Prelude.{◌==◌, nat_lt, bit_and, ◌||◌, All, is_some, if◌then◌else◌}
use Rattle.std.specs.List.{list_any}
use Rattle.std.specs.Option.{option_map}
use Rattle.std.proofs.lemmas.Bool.Decides.{nat_tests}
use Rattle.std.proofs.lemmas.List.{get_or_default}
use Rattle.std.proofs.lemmas.List.Elements.{All-nil, All-cons, All-weaker, filter_passes}
use Rattle.std.proofs.lemmas.List.Sorted.{IsPermutation-sym, All-permutation, Contains-permutation}
use Rattle.std.proofs.lemmas.Bool.{and_parts}
use Rattle.elf32_read.specs.Fields.{spans, overlap}
use Rattle.elf32_read.specs.Headers.{is_text, text_headers, section_headers}
use Rattle.elf32_read.specs.Spans.{IsRising, covers, numbered}
use Rattle.elf32_read.specs.declared.header.SectionHeader.{SectionHeader}
use Rattle.elf32_read.specs.declared.spans.Span.{Span}
use Rattle.elf32_read.proofs.Rising.{find_none, find_first, pairs_from, pairs-permutation}
use Rattle.elf32_read.proofs.Numbered.{span, length-numbered, get-numbered}

-- where what is found stands
pub record IsAt {X : Type 0} (p : X → Bool) (xs : List X) (x : X) : Type 0 where
  pub place : ℕ
  pub within : place < length xs
  pub is : get_or xs place x ≡ x
  pub passes : p x ≡ true

at_step : {X : Type 0} (p : X → Bool) (y : X) (ys : List X) (x : X) (b : Bool) → p y ≡ b → (if b then Some y else find p ys) ≡ Some x
    → (find p ys ≡ Some x → IsAt p ys x) → IsAt p (y ∷ ys) x
at_step p y ys x true e h rest = let same : y ≡ x = cc in record { place = 0; within = omega arith; is = same; passes = rw (← same) e }
at_step p y ys x false e h rest =
    let r = rest h in
    let w = r.within in
    record { place = suc r.place; within = omega arith; is = r.is; passes = r.passes }

pub found_at : {X : Type 0} (p : X → Bool) (xs : List X) (x : X) → find p xs ≡ Some x → IsAt p xs x
found_at p [] x h = absurd (cc)
found_at p (y ∷ ys) x h = at_step p y ys x (p y) refl h (λ (e : find p ys ≡ Some x). found_at p ys x e)

none_step : {X : Type 0} (p : X → Bool) (y : X) (ys : List X) (b : Bool) → p y ≡ b → (if b then Some y else find p ys) ≡ None
    → (find p ys ≡ None → All (λ z. p z ≡ false) ys) → All (λ z. p z ≡ false) (y ∷ ys)
none_step p y ys true e h rest = cc
none_step p y ys false e h rest = All-cons (λ z. p z ≡ false) y ys e (rest h)

pub none_at : {X : Type 0} (p : X → Bool) (xs : List X) → find p xs ≡ None → All (λ x. p x ≡ false) xs
none_at p [] h = All-nil (λ x. p x ≡ false)
none_at p (y ∷ ys) h = none_step p y ys (p y) refl h (λ (e : find p ys ≡ None). none_at p ys e)

pub any_found : {X : Type 0} (p : X → Bool) (xs : List X) → list_any p xs ≡ is_some (find p xs)
any_found p [] = refl
any_found p (x ∷ xs) = any_step (p x) x (list_any p xs) (find p xs) (any_found p xs)
  where
    any_step : {X : Type 0} (b : Bool) (x : X) (any : Bool) (o : Option X) → any ≡ is_some o → (b || any) ≡ is_some (if b then Some x else o)
    any_step true x any o e = refl
    any_step false x any o e = e

-- whether an entry has an address
abbrev pub has : {X : Type 0} → (X → ℕ) → (X → ℕ) → ℕ → X → Bool
has start size addr x = spans (start x) (size x) addr

pub missing : {X : Type 0} (start size : X → ℕ) (xs : List X) (ss : List Span) (addr : ℕ) → IsRising start size xs ss → find (covers addr) ss ≡ None
    → find (has start size addr) xs ≡ None
missing start size xs ss addr r h =
    let none = All-permutation (λ s. covers addr s ≡ false) ss (numbered start size 0 xs) (IsPermutation-sym (numbered start size 0 xs) ss r.same) (none_at (covers addr) ss h) in
    let len = length-numbered start size 0 xs in
    find_none (has start size addr) xs
    (λ k d lt. rw (get-numbered start size 0 xs k (span 0 0 0) d lt) at (none k (span 0 0 0) (omega arith)))

pub both_have : (a n b m addr : ℕ) → overlap a n b m ≡ false → spans b m addr ≡ true → spans a n addr ≡ false
both_have a n b m addr e h = grind (arith, nat_tests)

-- the entry of that number is the one that has the address
pub record IsFound {X : Type 0} (p : X → Bool) (xs : List X) (k : ℕ) : Type 0 where
  pub within : k < length xs
  pub is : (d : X) → find p xs ≡ Some (get_or xs k d)

found_by : {X : Type 0} (start size : X → ℕ) (xs : List X) (ss : List Span) (addr : ℕ) (s : Span) (j : ℕ) (d : X) → IsRising start size xs ss → covers addr s ≡ true
    → j < length xs → get_or (numbered start size 0 xs) j s ≡ s → IsFound (has start size addr) xs s.number
found_by start size xs ss addr s j d r here lt at =
    let len = length-numbered start size 0 xs in
    let is : s ≡ span (start (get_or xs j d)) (size (get_or xs j d)) (0 + j) = sym at ∙ get-numbered start size 0 xs j s d lt in
    let number : s.number ≡ j = ap (λ (t : Span). t.number) is ∙ omega arith in
    let inside : has start size addr (get_or xs j d) ≡ true = rw is at here in
    let pairs = pairs-permutation ss (numbered start size 0 xs) (IsPermutation-sym (numbered start size 0 xs) ss r.same) (pairs_from ss r.rise) in
    let before = λ (i : ℕ) (low : i < j). both_have (start (get_or xs i d)) (size (get_or xs i d)) (start (get_or xs j d)) (size (get_or xs j d)) addr
    (rw (get-numbered start size 0 xs i s d (omega arith), get-numbered start size 0 xs j s d lt) at (pairs i j s low (omega arith))) inside in
    record {
      within = omega arith;
      is = λ e. rw (number, get_or_default xs j e d lt) (find_first (has start size addr) xs j d lt inside before);
    }

pub found : {X : Type 0} (start size : X → ℕ) (xs : List X) (ss : List Span) (addr : ℕ) (s : Span) → IsRising start size xs ss → find (covers addr) ss ≡ Some s
    → IsFound (has start size addr) xs s.number
found start size [] ss addr s r h =
    let a = found_at (covers addr) ss s h in
    let c = Contains-permutation ss [] s (IsPermutation-sym [] ss r.same) (a.place, a.within, a.is) in
    let lt = c.1 in
    absurd (omega arith)
found start size (x ∷ xs) ss addr s r h =
    let all = numbered start size 0 (x ∷ xs) in
    let a = found_at (covers addr) ss s h in
    let c = Contains-permutation ss all s (IsPermutation-sym all ss r.same) (a.place, a.within, a.is) in
    let len = length-numbered start size 0 (x ∷ xs) in
    let lt : c.0 < length (x ∷ xs) = omega (arith, c.1) in
    found_by start size (x ∷ xs) ss addr s c.0 x r a.passes lt c.2

number_some : {X : Type 0} (start size : X → ℕ) (xs : List X) (ss : List Span) (addr k : ℕ) (o : Option Span) → IsRising start size xs ss → find (covers addr) ss ≡ o
    → Some k ≡ option_map (λ s. s.number) o → IsFound (has start size addr) xs k
number_some start size xs ss addr k None r e h = cc
number_some start size xs ss addr k (Some s) r e h =
    let same : s.number ≡ k = cc in
    let P : ℕ → Type 0 = λ n. IsFound (has start size addr) xs n in
    subst P same (found start size xs ss addr s r e)

number_none : {X : Type 0} (start size : X → ℕ) (xs : List X) (ss : List Span) (addr : ℕ) (o : Option Span) → IsRising start size xs ss → find (covers addr) ss ≡ o
    → None ≡ option_map (λ s. s.number) o → find (has start size addr) xs ≡ None
number_none start size xs ss addr None r e h = missing start size xs ss addr r e
number_none start size xs ss addr (Some s) r e h = cc

-- what `number_at` answers
pub numbered_some : {X : Type 0} (start size : X → ℕ) (xs : List X) (ss : List Span) (addr k : ℕ) → IsRising start size xs ss
    → Some k ≡ option_map (λ s. s.number) (find (covers addr) ss) → IsFound (has start size addr) xs k
numbered_some start size xs ss addr k r h = number_some start size xs ss addr k (find (covers addr) ss) r refl h

pub numbered_none : {X : Type 0} (start size : X → ℕ) (xs : List X) (ss : List Span) (addr : ℕ) → IsRising start size xs ss
    → None ≡ option_map (λ s. s.number) (find (covers addr) ss) → find (has start size addr) xs ≡ None
numbered_none start size xs ss addr r h = number_none start size xs ss addr (find (covers addr) ss) r refl h

-- what is found, of a list whose elements all have something
pub found_has : {X : Type 0} (p : X → Bool) (P : X → Type 0) (xs : List X) (x : X) → find p xs ≡ Some x → All P xs → P x
found_has p P xs x h all =
    let a = found_at p xs x h in
    subst P a.is (all a.place x a.within)

pub found_passes : {X : Type 0} (p : X → Bool) (xs : List X) (x : X) → find p xs ≡ Some x → p x ≡ true
found_passes p xs x h = (found_at p xs x h).passes

-- text sections are not empty
some_text : (h : SectionHeader) → is_text h ≡ true → 0 < h.size
some_text h e = ltb-true _ _ (and_parts (bit_and h.flags 6 == 6) (nat_lt 0 h.size) e).1

pub some_texts : (bytes : List ℕ) → All (λ h. 0 < h.size) (text_headers bytes)
some_texts bytes = All-weaker (λ h. is_text h ≡ true) (λ h. 0 < h.size) some_text (text_headers bytes) (filter_passes is_text (section_headers bytes))
