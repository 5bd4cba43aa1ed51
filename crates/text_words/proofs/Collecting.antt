-- The regions of a program's text, one text section after another.
use Rattle.std.proofs.Common.{◌≡◌, ℕ, suc, zero, ◌+◌, ◌-◌, ◌*◌, ◌/◌, ◌%◌, ◌^◌, ◌<◌, ◌≤◌, inl, inr, List, [], ◌∷◌, ◌++◌, length, take, drop, refl, ap, sym, ◌∙◌, subst, arith, Bool, true, false, cond, Some, None, Option, length-append}
use Rattle.std.specs.Prelude.{◌⊎◌, IfSome, All, slice_get, slice_index, slice_index_or, find, nat_lt, ◌==◌, if◌then◌else◌}
use Rattle.std.specs.Option.{option_and_then, option_map, option_or}
use Rattle.std.specs.List.Sorted.{IsPermutation}
use Rattle.std.proofs.lemmas.Bool.{cases_Bool, cases_lt}
use Rattle.std.proofs.lemmas.Bool.Decides.{nat_tests}
use Rattle.std.proofs.lemmas.List.{get_or_append_left, get_or-append_right, get_or_default}
use Rattle.std.proofs.lemmas.List.Sorted.{All-permutation, IsPermutation-cons, IsPermutation-middle, IsPermutation-refl, IsPermutation-sym, IsPermutation-trans}
use Rattle.std.proofs.Math.Seq.{take-suc}
use Rattle.elf32_read.specs.Fields.{spans}
use Rattle.elf32_read.specs.Program.{Program, Text, in_words}
use Rattle.elf32_read.specs.Spans.{IsRising, Rise, covers, numbered}
use Rattle.elf32_read.specs.TextSpans.{in_order, placed, text_spans}
use Rattle.elf32_read.specs.declared.spans.Span.{Span}
use Rattle.elf32_read.proofs.Found.{found, found_has, found_passes, missing}
use Rattle.elf32_read.proofs.Numbered.{get-numbered, length-numbered, span}
use Rattle.text_words.specs.declared.region.Region.{Region}
use Rattle.text_words.specs.Layout.{AreApart, AreWhole, IsLayout, IsLayoutOf, Laid, has, index, place}
use Rattle.text_words.proofs.Places.{place_range, spanned}

-- ---- the spans of a program's text, and its sections

placed_by : (b : Bool) (s u : Span) (us ps : List Span) → IsPermutation (s ∷ us) ps → IsPermutation (s ∷ u ∷ us) (if b then u ∷ ps else s ∷ u ∷ us)
placed_by true s u us ps p =
    IsPermutation-trans (s ∷ u ∷ us) (u ∷ s ∷ us) (u ∷ ps) (IsPermutation-sym (u ∷ s ∷ us) (s ∷ u ∷ us) (IsPermutation-middle (u ∷ []) s us)) (IsPermutation-cons u (s ∷ us) ps p)
placed_by false s u us ps p = IsPermutation-refl (s ∷ u ∷ us)

placed_permuted : (s : Span) (us : List Span) → IsPermutation (s ∷ us) (placed s us)
placed_permuted s [] = IsPermutation-refl (s ∷ [])
placed_permuted s (u ∷ us) = placed_by (nat_lt u.start s.start) s u us (placed s us) (placed_permuted s us)

ordered_permuted : (ss : List Span) → IsPermutation ss (in_order ss)
ordered_permuted [] = IsPermutation-refl []
ordered_permuted (s ∷ ss) =
    IsPermutation-trans (s ∷ ss) (s ∷ in_order ss) (placed s (in_order ss)) (IsPermutation-cons s ss (in_order ss) (ordered_permuted ss)) (placed_permuted s (in_order ss))

abbrev start_of : Text → ℕ
start_of t = t.address

abbrev size_of : Text → ℕ
size_of t = 4 * length t.words

pub texts_rise : (p : Program) (ss : List Span) → ss ≡ text_spans p → Rise ss → IsRising start_of size_of p.text ss
unfolding text_spans
texts_rise p ss e up = record { same = subst (IsPermutation (numbered start_of size_of 0 p.text)) (sym e) (ordered_permuted (numbered start_of size_of 0 p.text)); rise = up }

abbrev pub no_text : Text
no_text = record { address = 0; words = [] }

-- a span is that of the section of its number
pub record IsSpanOf (ts : List Text) (s : Span) : Type 0 where
  pub within : s.number < length ts
  pub start : s.start ≡ (slice_index_or ts s.number no_text).address
  pub size : s.size ≡ 4 * length (slice_index_or ts s.number no_text).words

all_numbered : (ts : List Text) → All (IsSpanOf ts) (numbered start_of size_of 0 ts)
all_numbered ts k d lt =
    let low : k < length ts = omega (arith, lt, length-numbered start_of size_of 0 ts) in
    let zero_more : k ≡ 0 + k = omega arith in
    subst (IsSpanOf ts) (sym (get-numbered start_of size_of 0 ts k d no_text low))
    (record {
      within = omega (arith, low);
      start = ap (λ n. (slice_index_or ts n no_text).address) zero_more;
      size = ap (λ n. 4 * length (slice_index_or ts n no_text).words) zero_more;
    })

pub spans_are : (ts : List Text) (ss : List Span) → IsRising start_of size_of ts ss → All (IsSpanOf ts) ss
spans_are ts ss r = All-permutation (IsSpanOf ts) (numbered start_of size_of 0 ts) ss r.same (all_numbered ts)

pub own_words : (ts : List Text) (k : ℕ) (t : Text) → slice_get ts k ≡ Some t → t.words ≡ (slice_index_or ts k no_text).words
own_words [] k t e = absurd (cc)
own_words (u ∷ us) zero t e = let same : u ≡ t = cc in sym (ap (λ (v : Text). v.words) same)
own_words (u ∷ us) (suc k) t e = own_words us k t e

-- the word at an address, by the spans
abbrev word_of : List Text → ℕ → Span → ℕ
word_of ts addr s = slice_index (slice_index_or ts s.number no_text).words ((addr - s.start) / 4)

abbrev pub word_by : List Text → List Span → ℕ → Option ℕ
word_by ts ss addr = option_map (word_of ts addr) (find (covers addr) ss)

got : (xs : List ℕ) (i : ℕ) → i < length xs → slice_get xs i ≡ Some (slice_index xs i)
got [] i l = absurd (omega arith)
got (x ∷ xs) zero l = refl
got (x ∷ xs) (suc i) l = got xs i (omega arith)

by_test : (b : Bool) (o r : Option ℕ) → o ≡ r → cond b o None ≡ cond b r None
by_test b o r e = ap (λ v. cond b v None) e

words_in : (ts : List Text) (ss : List Span) (addr : ℕ) (o : Option Span) → IsRising start_of size_of ts ss → find (covers addr) ss ≡ o
    → option_map (word_of ts addr) o ≡ option_and_then (λ t. slice_get t.words ((addr - t.address) / 4)) (find (in_words addr) ts)
words_in ts ss addr None r e = sym (ap (option_and_then (λ t. slice_get t.words ((addr - t.address) / 4))) (missing start_of size_of ts ss addr r e))
words_in ts ss addr (Some s) r e =
    let at = found start_of size_of ts ss addr s r e in
    let t : Text = slice_index_or ts s.number no_text in
    let is = span_here ts ss addr s r e in
    let range = spanned s.start s.size addr (found_passes (covers addr) ss s e) in
    ap (λ a. Some (slice_index t.words ((addr - a) / 4))) is.start
    ∙ sym (got t.words ((addr - t.address) / 4) (omega (arith, range.0, range.1, is.start, is.size)))
    ∙ sym (ap (option_and_then (λ u. slice_get u.words ((addr - u.address) / 4))) (at.is no_text))
  where
    span_here : (ts : List Text) (ss : List Span) (addr : ℕ) (s : Span) → IsRising start_of size_of ts ss → find (covers addr) ss ≡ Some s → IsSpanOf ts s
    span_here ts ss addr s r e = found_has (covers addr) (IsSpanOf ts) ss s e (spans_are ts ss r)

-- ---- one more region

pub laid_front : (rs : List Region) (l : Region) (from end : ℕ) → Laid from (rs ++ l ∷ []) end → Laid from rs l.first × (l.first + l.count ≡ end)
laid_front [] l from end h = (sym h.0, omega (arith, h.0, h.1))
laid_front (r ∷ rs) l from end h = let rest = laid_front rs l (from + r.count) end h.1 in ((h.0, rest.0), rest.1)

laid_more : (rs : List Region) (r : Region) (from mid end : ℕ) → Laid from rs mid → r.first ≡ mid → mid + r.count ≡ end → Laid from (rs ++ r ∷ []) end
laid_more [] r from mid end h e f = (e ∙ sym h, omega (arith, h, f))
laid_more (s ∷ rs) r from mid end h e f = (h.0, laid_more rs r (from + s.count) mid end h.1 e f)

-- the last of some regions, if there is one, ends before an address
abbrev pub EndsBefore : List Region → ℕ → Type 0
EndsBefore rs a = (d : Region) → 0 < length rs → (slice_index_or rs (length rs - 1) d).address + 4 * (slice_index_or rs (length rs - 1) d).count < a

-- it ends at an address
abbrev pub LastEnds : List Region → ℕ → Type 0
LastEnds rs a = (d : Region) → 0 < length rs → (slice_index_or rs (length rs - 1) d).address + 4 * (slice_index_or rs (length rs - 1) d).count ≡ a

pub at_last : (rs : List Region) (r d : Region) → slice_index_or (rs ++ r ∷ []) (length rs) d ≡ r
at_last rs r d = get_or-append_right rs (r ∷ []) (length rs) (length rs) d refl (omega arith) ∙ (let z : length rs - length rs ≡ 0 = omega arith in ap (λ k. slice_index_or (r ∷ []) k d) z)

at_front : (rs : List Region) (r d : Region) (k : ℕ) → k < length rs → slice_index_or (rs ++ r ∷ []) k d ≡ slice_index_or rs k d
at_front rs r d k lt = get_or_append_left rs (r ∷ []) d k lt

apart_front : (rs : List Region) (l : Region) → AreApart (rs ++ l ∷ []) → AreApart rs
apart_front rs l up k d lt =
    let far = up k d (omega (arith, lt, length-append rs (l ∷ []))) in
    rw (at_front rs l d k (omega (arith, lt)), at_front rs l d (k + 1) lt) at far

apart_last : (rs : List Region) (l : Region) → AreApart (rs ++ l ∷ []) → EndsBefore rs l.address
apart_last rs l up d some =
    let far = up (length rs - 1) d (omega (arith, some, length-append rs (l ∷ []))) in
    let e : length rs - 1 + 1 ≡ length rs = omega (arith, some) in
    rw (at_front rs l d (length rs - 1) (omega (arith, some)), e, at_last rs l d) at far

apart_more : (rs : List Region) (r : Region) → AreApart rs → EndsBefore rs r.address → AreApart (rs ++ r ∷ [])
apart_more rs r up before k d lt =
    let many = length-append rs (r ∷ []) in
    elim (cases_lt (k + 1) (length rs)) [
      | inl early ↦ rw (at_front rs r d k (omega (arith, early)), at_front rs r d (k + 1) early) (up k d early)
      | inr late ↦
          let last : k ≡ length rs - 1 = omega (arith, lt, many, late) in
          let some : 0 < length rs = omega (arith, lt, many, late) in
          let e : k + 1 ≡ length rs = omega (arith, last, some) in
          rw (e, at_last rs r d, at_front rs r d k (omega (arith, e)), last) (before d some)
    ]

whole_front : (rs : List Region) (l : Region) → AreWhole (rs ++ l ∷ []) → AreWhole rs
whole_front rs l all k d lt = let one = all k d (omega (arith, lt, length-append rs (l ∷ []))) in rw (at_front rs l d k lt) at one

whole_last : (rs : List Region) (l : Region) → AreWhole (rs ++ l ∷ []) → l.address % 4 ≡ 0
whole_last rs l all = let one = all (length rs) l (omega (arith, length-append rs (l ∷ []))) in rw (at_last rs l l) at one

whole_more : (rs : List Region) (r : Region) → AreWhole rs → r.address % 4 ≡ 0 → AreWhole (rs ++ r ∷ [])
whole_more rs r all a k d lt =
    elim (cases_lt k (length rs)) [
      | inl early ↦ rw (at_front rs r d k early) (all k d early)
      | inr late ↦ (let e : k ≡ length rs = omega (arith, lt, late, length-append rs (r ∷ [])) in rw (e, at_last rs r d) a)
    ]

-- a region behind a gap
pub pushed : (rs : List Region) (r : Region) (len end : ℕ) → IsLayout rs len → EndsBefore rs r.address → r.address % 4 ≡ 0 → r.first ≡ len → len + r.count ≡ end → IsLayout (rs ++ r ∷ []) end
pushed rs r len end h before a e f = record { laid = laid_more rs r 0 len end h.laid e f; apart = apart_more rs r h.apart before; whole = whole_more rs r h.whole a }

-- the last region goes on
pub joined : (rs : List Region) (l r : Region) (len end : ℕ) → IsLayout (rs ++ l ∷ []) len → r.address ≡ l.address → r.first ≡ l.first → l.first + r.count ≡ end → IsLayout (rs ++ r ∷ []) end
joined rs l r len end h a e f =
    record {
      laid = laid_more rs r 0 l.first end (laid_front rs l 0 len h.laid).0 e f;
      apart = apart_more rs r (apart_front rs l h.apart) (λ d some. rw a (apart_last rs l h.apart d some));
      whole = whole_more rs r (whole_front rs l h.whole) (rw a (whole_last rs l h.whole));
    }

-- ---- the places of one more region

or_by : (b : Bool) (v : ℕ) (o q : Option ℕ) → option_or (if b then Some v else o) q ≡ (if b then Some v else option_or o q)
or_by true v o q = refl
or_by false v o q = refl

place_more : (rs : List Region) (r : Region) (addr : ℕ) → place (rs ++ r ∷ []) addr ≡ option_or (place rs addr) (place (r ∷ []) addr)
place_more [] r addr = refl
place_more (s ∷ rs) r addr =
    ap (λ o. if has addr s then Some (s.first + (addr - s.address) / 4) else o) (place_more rs r addr)
    ∙ sym (or_by (has addr s) (s.first + (addr - s.address) / 4) (place rs addr) (place (r ∷ []) addr))

-- what the last region has when it goes on
goes_on : (b c e : Bool) (v w : ℕ) → (b ≡ true → (c ≡ true) × (e ≡ false)) → (b ≡ false → c ≡ e) → (e ≡ true → v ≡ w)
    → (if c then Some v else None) ≡ option_or (if b then Some v else None) (if e then Some w else None)
goes_on true c e v w f g h = ap (λ t. if t then Some v else None) (f refl).0
goes_on false c true v w f g h = ap (λ t. if t then Some v else None) (g refl) ∙ ap Some (h refl)
goes_on false c false v w f g h = ap (λ t. if t then Some v else None) (g refl)

or_assoc : (o p q : Option ℕ) → option_or o (option_or p q) ≡ option_or (option_or o p) q
or_assoc None p q = refl
or_assoc (Some v) p q = refl

both_parts : (a m n addr : ℕ) → spans a (4 * m) addr ≡ true → (spans a (4 * (m + n)) addr ≡ true) × (spans (a + 4 * m) (4 * n) addr ≡ false)
both_parts a m n addr e = (grind (arith, nat_tests), grind (arith, nat_tests))

other_part : (a m n addr : ℕ) → spans a (4 * m) addr ≡ false → spans a (4 * (m + n)) addr ≡ spans (a + 4 * m) (4 * n) addr
other_part a m n addr e = grind (arith, nat_tests)

-- so many words from an address on, from a place on
abbrev part : ℕ → ℕ → ℕ → ℕ → Option ℕ
part a n first addr = if spans a (4 * n) addr then Some (first + (addr - a) / 4) else None

part_more : (a m n first addr : ℕ) → part a (m + n) first addr ≡ option_or (part a m first addr) (part (a + 4 * m) n (first + m) addr)
part_more a m n first addr =
    goes_on (spans a (4 * m) addr) (spans a (4 * (m + n)) addr) (spans (a + 4 * m) (4 * n) addr) (first + (addr - a) / 4) (first + m + (addr - (a + 4 * m)) / 4)
    (both_parts a m n addr) (other_part a m n addr) (λ e. let range = spanned (a + 4 * m) (4 * n) addr e in omega (arith, range.0))

-- the places of a region that goes on are those that were, and those of the words behind them
pub place_joined : (rs : List Region) (l r : Region) (a n len addr : ℕ) → r.address ≡ l.address → r.first ≡ l.first → r.count ≡ l.count + n → a ≡ l.address + 4 * l.count → l.first + l.count ≡ len
    → place (rs ++ r ∷ []) addr ≡ option_or (place (rs ++ l ∷ []) addr) (part a n len addr)
place_joined rs l r a n len addr ea ef ec at end =
    place_more rs r addr
    ∙ ap (option_or (place rs addr)) (rw (ea, ef, ec, at, ← end) (part_more l.address l.count n l.first addr))
    ∙ or_assoc (place rs addr) (place (l ∷ []) addr) (part a n len addr)
    ∙ ap (λ o. option_or o (part a n len addr)) (sym (place_more rs l addr))

pub place_pushed : (rs : List Region) (r : Region) (a n len addr : ℕ) → r.address ≡ a → r.first ≡ len → r.count ≡ n → place (rs ++ r ∷ []) addr ≡ option_or (place rs addr) (part a n len addr)
place_pushed rs r a n len addr ea ef ec = rw (← ea, ← ef, ← ec) (place_more rs r addr)

-- ---- the words of one more section

find_step : (b : Bool) (s t : Span) (c : Bool) (f : Option Span) → (if b then Some s else option_or f (if c then Some t else None)) ≡ option_or (if b then Some s else f) (if c then Some t else None)
find_step true s t c f = refl
find_step false s t c f = refl

find_more : (addr : ℕ) (ss : List Span) (t : Span) → find (covers addr) (ss ++ t ∷ []) ≡ option_or (find (covers addr) ss) (if covers addr t then Some t else None)
find_more addr [] t = refl
find_more addr (s ∷ ss) t = ap (λ f. if covers addr s then Some s else f) (find_more addr ss t) ∙ find_step (covers addr s) s t (covers addr t) (find (covers addr) ss)

map_or : (f : Span → ℕ) (o : Option Span) (t : Span) (b : Bool) → option_map f (option_or o (if b then Some t else None)) ≡ option_or (option_map f o) (if b then Some (f t) else None)
map_or f None t true = refl
map_or f None t false = refl
map_or f (Some s) t b = refl

word_more : (ts : List Text) (ss : List Span) (t : Span) (addr : ℕ) → word_by ts (ss ++ t ∷ []) addr ≡ option_or (word_by ts ss addr) (if covers addr t then Some (word_of ts addr t) else None)
word_more ts ss t addr = ap (option_map (word_of ts addr)) (find_more addr ss t) ∙ map_or (word_of ts addr) (find (covers addr) ss) t (covers addr t)

words_step : (words ws : List ℕ) (o r : Option ℕ) (b : Bool) (j : ℕ) → IfSome o (λ i. i < length words) → option_map (slice_index words) o ≡ r → (b ≡ true → j < length ws)
    → option_map (slice_index (words ++ ws)) (option_or o (if b then Some (length words + j) else None)) ≡ option_or r (if b then Some (slice_index ws j) else None)
words_step words ws (Some i) r b j low is less = ap Some (get_or_append_left words ws 0 i low) ∙ (is ∙ some_first r (slice_index words i) (if b then Some (slice_index ws j) else None) (sym is))
  where
    some_first : (r : Option ℕ) (v : ℕ) (q : Option ℕ) → r ≡ Some v → r ≡ option_or r q
    some_first None v q e = cc
    some_first (Some w) v q e = refl
words_step words ws None r true j low is less =
    let z : length words + j - length words ≡ j = omega arith in
    ap Some (get_or-append_right words ws (length words) (length words + j) 0 refl (omega arith) ∙ ap (slice_index ws) z) ∙ ap (λ q. option_or q (Some (slice_index ws j))) is
words_step words ws None r false j low is less = ap (λ q. option_or q None) is

range_if : (rs : List Region) (end addr : ℕ) (o : Option ℕ) → Laid 0 rs end → place rs addr ≡ o → IfSome o (λ i. i < end)
range_if rs end addr None h e = tt
range_if rs end addr (Some i) h e = (place_range rs 0 end addr i h e).1

-- the words at the places of the regions are those of the sections so far
abbrev pub AreFound : Program → List Span → List Region → List ℕ → Type 0
AreFound p ss rs words = (addr : ℕ) → option_map (slice_index words) (place rs addr) ≡ word_by p.text ss addr

-- one section more
pub found_more : (p : Program) (ss : List Span) (k : ℕ) (d : Span) (rs new : List Region) (words ws more : List ℕ) → k < length ss → IsSpanOf p.text (slice_index_or ss k d) → ws ≡ (slice_index_or p.text (slice_index_or ss k d).number no_text).words
    → more ≡ words ++ ws → Laid 0 rs (length words) → ((addr : ℕ) → place new addr ≡ option_or (place rs addr) (part (slice_index_or ss k d).start (length ws) (length words) addr)) → AreFound p (take k ss) rs words → AreFound p (take (k + 1) ss) new more
found_more p ss k d rs new words ws more low is own all laid places so_far addr =
    let s : Span = slice_index_or ss k d in
    let size : s.size ≡ 4 * length ws = is.size ∙ ap (λ xs. 4 * length xs) (sym own) in
    ap (λ xs. option_map (slice_index xs) (place new addr)) all
    ∙ ap (option_map (slice_index (words ++ ws))) (places addr)
    ∙ words_step words ws (place rs addr) (word_by p.text (take k ss) addr) (spans s.start (4 * length ws) addr) ((addr - s.start) / 4) (range_if rs (length words) addr (place rs addr) laid refl) (so_far addr)
    (λ e. let range = spanned s.start (4 * length ws) addr e in omega (arith, range.0, range.1))
    ∙ ap (λ n. option_or (word_by p.text (take k ss) addr) (if spans s.start n addr then Some (slice_index ws ((addr - s.start) / 4)) else None)) (sym size)
    ∙ ap (λ xs. option_or (word_by p.text (take k ss) addr) (if covers addr s then Some (slice_index xs ((addr - s.start) / 4)) else None)) own
    ∙ sym (word_more p.text (take k ss) s addr)
    ∙ ap (λ xs. word_by p.text xs addr) (sym (take-suc-at ss k d low))
  where
    take-suc-at : (ss : List Span) (k : ℕ) (d : Span) → k < length ss → take (k + 1) ss ≡ take k ss ++ slice_index_or ss k d ∷ []
    take-suc-at ss k d low = let e : k + 1 ≡ suc k = omega arith in ap (λ n. take n ss) e ∙ take-suc ss k d low

-- and when all are taken, those of the program
pub all_found : (p : Program) (ss : List Span) (n : ℕ) (rs : List Region) (words : List ℕ) → IsRising start_of size_of p.text ss → length ss ≤ n → IsLayout rs (length words) → AreFound p (take n ss) rs words → IsLayoutOf p rs words
unfolding index
all_found p ss n rs words r few layout are =
    record {
      layout = layout;
      words_are = λ addr.
          map_test (addr % 4 == 0) (slice_index words) (place rs addr)
          ∙ by_test (addr % 4 == 0) (option_map (slice_index words) (place rs addr)) (option_and_then (λ t. slice_get t.words ((addr - t.address) / 4)) (find (in_words addr) p.text))
          (are addr ∙ ap (λ xs. word_by p.text xs addr) (take-all n ss few) ∙ words_in p.text ss addr (find (covers addr) ss) r refl);
    }
  where
    map_test : (b : Bool) (f : ℕ → ℕ) (o : Option ℕ) → option_map f (cond b o None) ≡ cond b (option_map f o) None
    map_test true f o = refl
    map_test false f o = refl

    take-all : (n : ℕ) (ss : List Span) → length ss ≤ n → take n ss ≡ ss
    take-all zero [] few = refl
    take-all zero (s ∷ ss) few = absurd (omega arith)
    take-all (suc n) [] few = refl
    take-all (suc n) (s ∷ ss) few = ap (λ xs. s ∷ xs) (take-all n ss (omega arith))
