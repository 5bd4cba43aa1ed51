-- The region that has an address.
use Rattle.std.proofs.Common.{◌≡◌, ℕ, suc, zero, ◌+◌, ◌-◌, ◌*◌, ◌/◌, ◌%◌, ◌^◌, ◌<◌, ◌≤◌, inl, inr, List, [], ◌∷◌, ◌++◌, length, refl, ap, sym, ◌∙◌, subst, arith, Bool, true, false, cond, Some, None, Option, length-append}
use Rattle.std.specs.Prelude.{◌⊎◌, IfSome, slice_index_or, find, nat_le, ◌==◌, if◌then◌else◌}
use Rattle.std.specs.Option.{option_map}
use Rattle.std.specs.List.Sorted.{IsNonDecreasingBy, IsPartitionPoint}
use Rattle.std.proofs.lemmas.Bool.{cases_lt}
use Rattle.std.proofs.lemmas.Bool.Decides.{nat_tests}
use Rattle.std.proofs.lemmas.List.{get_or_append_left, get_or-append_right, get_or_default}
use Rattle.elf32_read.proofs.Found.{found_at, found_passes}
use Rattle.elf32_read.proofs.Rising.{find_first, find_none}
use Rattle.text_words.specs.declared.region.Region.{Region}
use Rattle.text_words.specs.declared.region.Span.{Span}
use Rattle.text_words.specs.Words.{IsAmong}
use Rattle.text_words.specs.Layout.{AreApart, AreSpans, IsLayout, IsSpan, IsWholeSpan, has, index, place}
use Rattle.text_words.proofs.Places.{laid_at, spanned}

outside : (addr : ℕ) (r : Region) → (addr < r.address) ⊎ (r.address + 4 * r.count ≤ addr) → has addr r ≡ false
outside addr r h = grind (arith, nat_tests)

inside : (addr : ℕ) (r : Region) → r.address ≤ addr → addr < r.address + 4 * r.count → has addr r ≡ true
inside addr r h l = grind (arith, nat_tests)

apart_far : (rs : List Region) → AreApart rs → (i n : ℕ) (d : Region) → i + 1 + n < length rs → (slice_index_or rs i d).address + 4 * (slice_index_or rs i d).count < (slice_index_or rs (i + 1 + n) d).address
apart_far rs up i zero d lt = let e : i + 1 + 0 ≡ i + 1 = omega arith in rw e (up i d (omega arith))
apart_far rs up i (suc n) d lt =
    let before = apart_far rs up i n d (omega arith) in
    let step = up (i + 1 + n) d (omega arith) in
    let e : i + 1 + suc n ≡ i + 1 + n + 1 = omega arith in
    rw e (omega (arith, before, step))

-- each ends before each later one
pub apart_later : (rs : List Region) → AreApart rs → (i j : ℕ) (d : Region) → i < j → j < length rs → (slice_index_or rs i d).address + 4 * (slice_index_or rs i d).count < (slice_index_or rs j d).address
apart_later rs up i j d lt within =
    let e : i + 1 + (j - i - 1) ≡ j = omega arith in
    let far = apart_far rs up i (j - i - 1) d (omega (arith, e)) in
    rw e at far

pub starts_rise : (rs : List Region) → AreApart rs → IsNonDecreasingBy (λ r. r.address) rs
starts_rise rs up i j d le within =
    elim (cases_lt i j) [
      | inl lt ↦ (let far = apart_later rs up i j d lt within in omega arith)
      | inr ge ↦ (let same : i ≡ j = omega arith in rw same (omega arith))
    ]

-- where the regions that begin by an address end
abbrev pub EndsAt : ℕ → List Region → ℕ → Type 0
EndsAt addr rs i = IsPartitionPoint (λ r. nat_le r.address addr ≡ true) (λ r. nat_le r.address addr ≡ false) rs i

le_false : (a b : ℕ) → nat_le a b ≡ false → b < a
le_false a b h = grind (arith, nat_tests)

le_true : (a b : ℕ) → nat_le a b ≡ true → a ≤ b
le_true a b h = grind (arith, nat_tests)

pub begins_by : (rs : List Region) (addr i : ℕ) (d : Region) → EndsAt addr rs i → 0 < i → i ≤ length rs → (slice_index_or rs (i - 1) d).address ≤ addr
begins_by rs addr i d e some within = le_true _ _ (e.0 (i - 1) d (omega arith) (omega arith))

-- no region before the last one that begins by the address has it
passed_by : (rs : List Region) (addr i : ℕ) (d : Region) → AreApart rs → EndsAt addr rs i → 0 < i → i ≤ length rs → (j : ℕ) → j < i - 1 → has addr (slice_index_or rs j d) ≡ false
passed_by rs addr i d up e some within j lt =
    let far = apart_later rs up j (i - 1) d lt (omega arith) in
    let low = begins_by rs addr i d e some within in
    outside addr (slice_index_or rs j d) (inr (omega (arith, far, low)))

beyond : (rs : List Region) (addr i : ℕ) (d : Region) → EndsAt addr rs i → (j : ℕ) → i ≤ j → j < length rs → has addr (slice_index_or rs j d) ≡ false
beyond rs addr i d e j le lt = outside addr (slice_index_or rs j d) (inl (le_false _ _ (e.1 j d le lt)))

pub none_begins : (rs : List Region) (addr i : ℕ) → EndsAt addr rs i → i ≡ 0 → find (has addr) rs ≡ None
none_begins rs addr i e z = find_none (has addr) rs (λ j d lt. beyond rs addr i d e j (omega (arith, z)) lt)

pub last_has : (rs : List Region) (addr i : ℕ) (d : Region) → AreApart rs → EndsAt addr rs i → 0 < i → i ≤ length rs
    → (addr - (slice_index_or rs (i - 1) d).address) / 4 < (slice_index_or rs (i - 1) d).count → find (has addr) rs ≡ Some (slice_index_or rs (i - 1) d)
last_has rs addr i d up e some within lt =
    let low = begins_by rs addr i d e some within in
    find_first (has addr) rs (i - 1) d (omega arith) (inside addr (slice_index_or rs (i - 1) d) low (omega (arith, low, lt))) (passed_by rs addr i d up e some within)

pub last_has_not : (rs : List Region) (addr i : ℕ) (b : Region) → AreApart rs → EndsAt addr rs i → 0 < i → i ≤ length rs
    → (slice_index_or rs (i - 1) b).count ≤ (addr - (slice_index_or rs (i - 1) b).address) / 4 → find (has addr) rs ≡ None
last_has_not rs addr i b up e some within le =
    let low = begins_by rs addr i b e some within in
    find_none (has addr) rs
    (λ j d lt. elim (cases_lt j (i - 1)) [
      | inl early ↦ passed_by rs addr i d up e some within j early
      | inr late ↦ elim (cases_lt j i) [
        | inl here ↦ (let same : j ≡ i - 1 = omega arith in rw same (outside addr (slice_index_or rs (i - 1) d) (inr (rw (get_or_default rs (i - 1) d b (omega arith)) (omega (arith, low, le))))))
        | inr out ↦ beyond rs addr i d e j out lt
      ]
    ])

-- a region that has the address is the one
pub guessed : (rs : List Region) (addr k : ℕ) (d : Region) → AreApart rs → k < length rs → (slice_index_or rs k d).address ≤ addr
    → (addr - (slice_index_or rs k d).address) / 4 < (slice_index_or rs k d).count → find (has addr) rs ≡ Some (slice_index_or rs k d)
guessed rs addr k d up within low lt =
    find_first (has addr) rs k d within (inside addr (slice_index_or rs k d) low (omega (arith, low, lt)))
    (λ j less. let far = apart_later rs up j k d less within in outside addr (slice_index_or rs j d) (inr (omega (arith, far, low))))

-- ---- what is found

place_by : (b : Bool) (r : Region) (addr : ℕ) (o : Option ℕ) (f : Option Region) → o ≡ option_map (λ s. s.first + (addr - s.address) / 4) f
    → (if b then Some (r.first + (addr - r.address) / 4) else o) ≡ option_map (λ s. s.first + (addr - s.address) / 4) (if b then Some r else f)
place_by true r addr o f e = refl
place_by false r addr o f e = e

pub place_found : (rs : List Region) (addr : ℕ) → place rs addr ≡ option_map (λ r. r.first + (addr - r.address) / 4) (find (has addr) rs)
place_found [] addr = refl
place_found (r ∷ rs) addr = place_by (has addr r) r addr (place rs addr) (find (has addr) rs) (place_found rs addr)

is_zero : (a : ℕ) → a ≡ 0 → (a == 0) ≡ true
is_zero a e = grind (arith, nat_tests)

no_zero : (a : ℕ) → (a ≡ 0 → ⊥) → (a == 0) ≡ false
no_zero a n = grind (arith, nat_tests)

pub index_found : (rs : List Region) (r : Region) (addr : ℕ) → addr % 4 ≡ 0 → find (has addr) rs ≡ Some r → index rs addr ≡ Some (r.first + (addr - r.address) / 4)
unfolding index
index_found rs r addr a f =
    ap (λ b. cond b (place rs addr) None) (is_zero (addr % 4) a) ∙ place_found rs addr ∙ ap (option_map (λ s. s.first + (addr - s.address) / 4)) f

pub index_unaligned : (rs : List Region) (addr : ℕ) → (addr % 4 ≡ 0 → ⊥) → index rs addr ≡ None
unfolding index
index_unaligned rs addr n = ap (λ b. cond b (place rs addr) None) (no_zero (addr % 4) n)

none_either : (b : Bool) → ◌≡◌ {A = Option ℕ} (cond b None None) None
none_either true = refl
none_either false = refl

pub index_none : (rs : List Region) (addr : ℕ) → find (has addr) rs ≡ None → index rs addr ≡ None
unfolding index
index_none rs addr f =
    ap (λ o. cond (addr % 4 == 0) o None) (place_found rs addr ∙ ap (option_map (λ s. s.first + (addr - s.address) / 4)) f) ∙ none_either (addr % 4 == 0)

-- a region that has an address lies within the words, and begins at a multiple of 4
pub record IsThere (r : Region) (len addr : ℕ) : Type 0 where
  pub low : r.address ≤ addr
  pub high : addr < r.address + 4 * r.count
  pub within : r.first + r.count ≤ len
  pub whole : r.address % 4 ≡ 0

pub is_there : (rs : List Region) (r : Region) (len addr : ℕ) → IsLayout rs len → find (has addr) rs ≡ Some r → IsThere r len addr
is_there rs r len addr h f =
    let at = found_at (has addr) rs r f in
    let span = spanned r.address (4 * r.count) addr (found_passes (has addr) rs r f) in
    let in_words = laid_at rs 0 len at.place r h.laid at.within in
    record {
      low = span.0;
      high = span.1;
      within = rw at.is at in_words;
      whole = rw at.is at (h.whole at.place r at.within);
    }

-- the same region has the other addresses between its ends
pub same_region : (rs : List Region) (r : Region) (addr a : ℕ) → AreApart rs → find (has addr) rs ≡ Some r → r.address ≤ a → a < r.address + 4 * r.count → find (has a) rs ≡ Some r
same_region rs r addr a up f low high =
    let at = found_at (has addr) rs r f in
    let here : has a (slice_index_or rs at.place r) ≡ true = rw at.is (inside a r low high) in
    let before : (j : ℕ) → j < at.place → has a (slice_index_or rs j r) ≡ false =
    λ j lt. (let far = apart_later rs up j at.place r lt at.within in let near = rw at.is at far in outside a (slice_index_or rs j r) (inr (omega (arith, near, low)))) in
    find_first (has a) rs at.place r at.within here before ∙ ap Some at.is

-- and behind it there is a gap
pub gap_behind : (rs : List Region) (r : Region) (addr a : ℕ) → AreApart rs → find (has addr) rs ≡ Some r → a ≡ r.address + 4 * r.count → find (has a) rs ≡ None
gap_behind rs r addr a up f e =
    let at = found_at (has addr) rs r f in
    find_none (has a) rs
    (λ j d lt. rw (get_or_default rs j d r lt)
    (elim (cases_lt j at.place) [
      | inl early ↦ (let far = apart_later rs up j at.place r early at.within in let near = rw at.is at far in outside a (slice_index_or rs j r) (inr (omega (arith, near, e))))
      | inr late ↦ elim (cases_lt at.place j) [
        | inl behind ↦ (let far = apart_later rs up at.place j r behind lt in let near = rw at.is at far in outside a (slice_index_or rs j r) (inl (omega (arith, near, e))))
        | inr here ↦ (let same : j ≡ at.place = omega arith in rw (same, at.is) (outside a r (inr (omega (arith, e)))))
      ]
    ]))

-- ---- the words of a region

some_none : {P : Type 0} (o : Option ℕ) (i : ℕ) → o ≡ Some i → o ≡ None → P
some_none None i e f = absurd (cc)
some_none (Some j) i e f = absurd (cc)

aligned_by : (b : Bool) (o : Option ℕ) (i : ℕ) → cond b o None ≡ Some i → b ≡ true
aligned_by true o i e = refl
aligned_by false o i e = absurd (cc)

zero_test : (a : ℕ) → (a == 0) ≡ true → a ≡ 0
zero_test a e = grind (arith, nat_tests)

index_aligned : (rs : List Region) (addr i : ℕ) → index rs addr ≡ Some i → addr % 4 ≡ 0
unfolding index
index_aligned rs addr i e = zero_test (addr % 4) (aligned_by (addr % 4 == 0) (place rs addr) i e)

-- the words from the beginning of the region that has an address reach beyond it
reached : (rs : List Region) (r : Region) (len addr count : ℕ) → IsLayout rs len → find (has addr) rs ≡ Some r → addr < 2 ^ 32 → addr % 4 ≡ 0 → (r.address + 4 * count < 2 ^ 32 → index rs (r.address + 4 * count) ≡ None)
    → IsAmong addr r.address count
reached rs r len addr count h f small four ends =
    let at = is_there rs r len addr h f in
    let even : (addr - r.address) % 4 ≡ 0 = omega (arith, at.low, at.whole, four) in
    elim (cases_lt addr (r.address + 4 * count)) [
      | inl less ↦ (at.low, even, less)
      | inr past ↦
          let a : ℕ = r.address + 4 * count in
          let here = same_region rs r addr a h.apart f (omega arith) (omega (arith, at.high, past)) in
          some_none (index rs a) (r.first + (a - r.address) / 4) (index_found rs r a (omega (arith, at.whole)) here) (ends (omega (arith, past, small)))
    ]

abbrev pub Reaches : List Region → ℕ → ℕ → ℕ → Type 0
Reaches rs addr a count = (i : ℕ) → addr < 2 ^ 32 → index rs addr ≡ Some i → IsAmong addr a count

pub reaches : (rs : List Region) (r : Region) (len addr a count : ℕ) → IsLayout rs len → find (has addr) rs ≡ Some r → a ≡ r.address → (a + 4 * count < 2 ^ 32 → index rs (a + 4 * count) ≡ None) → Reaches rs addr a count
reaches rs r len addr a count h f e ends i small found =
    let P : ℕ → Type 0 = λ b. (b + 4 * count < 2 ^ 32 → index rs (b + 4 * count) ≡ None) in
    let Q : ℕ → Type 0 = λ b. IsAmong addr b count in
    subst Q (sym e) (reached rs r len addr count h f small (index_aligned rs addr i found) (subst P e ends))

pub reaches_none : (rs : List Region) (addr a count : ℕ) → find (has addr) rs ≡ None → Reaches rs addr a count
reaches_none rs addr a count f i small found = some_none (index rs addr) i found (index_none rs addr f)

pub whole_span : (rs : List Region) (len addr a : ℕ) (s : Span) → s.address ≡ a → s.first + s.count ≤ len → ((k : ℕ) → k < s.count → a + 4 * k < 2 ^ 32) → ((k : ℕ) → k < s.count → index rs (a + 4 * k) ≡ Some (s.first + k))
    → Reaches rs addr a s.count → IsWholeSpan rs len addr s
whole_span rs len addr a s e within low found reach = record { within = within; low = λ k l. rw e (low k l); found = λ k l. rw e (found k l); here = λ i small f. rw e (reach i small f) }

pub zero_more : (a : ℕ) → a + 0 ≡ a
zero_more a = omega arith

-- ---- the words of one region more

at_end : (ss : List Span) (s d : Span) → slice_index_or (ss ++ s ∷ []) (length ss) d ≡ s
at_end ss s d = get_or-append_right ss (s ∷ []) (length ss) (length ss) d refl (omega arith) ∙ (let z : length ss - length ss ≡ 0 = omega arith in ap (λ k. slice_index_or (s ∷ []) k d) z)

pub spans_more : (rs : List Region) (len addr : ℕ) (ss : List Span) (s : Span) → AreSpans rs len ss → IsWholeSpan rs len addr s → AreSpans rs len (ss ++ s ∷ [])
spans_more rs len addr ss s all one k d lt =
    elim (cases_lt k (length ss)) [
      | inl early ↦ rw (get_or_append_left ss (s ∷ []) d k early) (all k d early)
      | inr late ↦ (let e : k ≡ length ss = omega (arith, lt, late, length-append ss (s ∷ [])) in rw (e, at_end ss s d) (record { within = one.within; low = one.low; found = one.found }))
    ]
