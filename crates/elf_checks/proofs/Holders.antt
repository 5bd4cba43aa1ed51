-- The segment that holds a text section, by the ranges in order.
use Rattle.std.proofs.Common.{◌≡◌, ◌≢◌, ℕ, suc, ◌+◌, ◌<◌, ◌≤◌, Bool, true, false, List, [], ◌∷◌, length, take, drop, get_or, map, ne_eqb, ◌%◌, find, None, Some, refl, ◌∙◌, ap, arith}
use Rattle.std.specs.Prelude.{◌&&◌, ◌==◌, All, AllPairs, is_some, option_and_then, if◌then◌else◌}
use Rattle.std.proofs.lemmas.Bool.Decides.{nat_tests}
use Rattle.std.proofs.lemmas.List.{drop_all}
use Rattle.std.proofs.lemmas.List.Elements.{All-head, All-tail}
use Rattle.std.proofs.lemmas.List.Sorted.{IsPermutation-sym}
use Rattle.std.proofs.lemmas.Bool.{false_from_ne_true}
use Rattle.elf32_read.specs.Fields.{spans, overlap}
use Rattle.elf32_read.specs.Headers.{holds_text, loaded, text_headers}
use Rattle.elf32_read.specs.Ranges.{in_loaded, range_in, text_fits, text_range}
use Rattle.elf32_read.specs.Spans.{AreSegments, AreTexts, IsRising, numbered}
use Rattle.elf32_read.specs.declared.header.ProgramHeader.{ProgramHeader}
use Rattle.elf32_read.specs.declared.header.SectionHeader.{SectionHeader}
use Rattle.elf32_read.specs.declared.spans.Span.{Span}
use Rattle.elf32_read.specs.declared.tables.TextRange.{TextRange}
use Rattle.elf32_read.proofs.Found.{any_found, both_have, has}
use Rattle.elf32_read.proofs.Held.{holds_sizes, within_sizes}
use Rattle.elf32_read.proofs.Numbered.{span, length-numbered, get-numbered}
use Rattle.elf32_read.proofs.Rising.{find_none, pairs_from, pairs-permutation}
use Rattle.elf_checks.specs.Checks.{by_earlier, first_fault, segment_check}
use Rattle.elf_checks.specs.Overlaps.{AreFilled}
use Rattle.elf_checks.proofs.Accepted.{fits}
use Rattle.elf_checks.proofs.Earlier.{from}

-- of a test that passes only where another does, which at most one entry passes
narrow_step : {X : Type 0} (p q : X → Bool) (x : X) (xs : List X) (b c : Bool) → p x ≡ b → q x ≡ c → (b ≡ true → c ≡ true)
    → (q x ≡ true → find p xs ≡ None) → find p xs ≡ option_and_then (λ s. if p s then Some s else None) (find q xs)
    → (if b then Some x else find p xs) ≡ option_and_then (λ s. if p s then Some s else None) (if c then Some x else find q xs)
narrow_step p q x xs true true e f imp none rest = rw e refl
narrow_step p q x xs true false e f imp none rest = let wrong : false ≡ true = imp refl in cc
narrow_step p q x xs false true e f imp none rest = rw e (none f)
narrow_step p q x xs false false e f imp none rest = rest

pairs_tail : {X : Type 0} (R : X → X → Type 0) (x : X) (xs : List X) → AllPairs R (x ∷ xs) → AllPairs R xs
pairs_tail R x xs h i j d lt within = h (suc i) (suc j) d (omega arith) (omega arith)

-- that two entries do not both pass
abbrev pub NotBoth : {X : Type 0} → (X → Bool) → X → X → Type 0
NotBoth q x y = q x ≡ true → q y ≡ true → ⊥

none_later : {X : Type 0} (p q : X → Bool) (x : X) (xs : List X) → AllPairs (NotBoth q) (x ∷ xs) → All (λ y. p y ≡ true → q y ≡ true) xs → q x ≡ true → find p xs ≡ None
none_later p q x xs once imp here =
    find_none p xs (λ k d lt. false_from_ne_true (p (get_or xs k d)) (λ (e : p (get_or xs k d) ≡ true). once 0 (suc k) d (omega arith) (omega arith) here (imp k d lt e)))

pub narrow : {X : Type 0} (p q : X → Bool) (xs : List X) → AllPairs (NotBoth q) xs → All (λ x. p x ≡ true → q x ≡ true) xs
    → find p xs ≡ option_and_then (λ s. if p s then Some s else None) (find q xs)
narrow p q [] once imp = refl
narrow p q (x ∷ xs) once imp =
    let rest = All-tail (λ y. p y ≡ true → q y ≡ true) x xs imp in
    narrow_step p q x xs (p x) (q x) refl refl (All-head (λ y. p y ≡ true → q y ≡ true) x xs imp)
    (λ (e : q x ≡ true). none_later p q x xs once rest e) (narrow p q xs (pairs_tail (NotBoth q) x xs once) rest)

both_in : (a n b m addr : ℕ) → overlap a n b m ≡ false → spans a n addr ≡ true → spans b m addr ≡ true → ⊥
both_in a n b m addr e h k = let l : spans a n addr ≡ false = both_have a n b m addr e k in absurd (cc)

-- at most one entry has an address
pub has_once : {X : Type 0} (start size : X → ℕ) (xs : List X) (ss : List Span) (addr : ℕ) → IsRising start size xs ss → AllPairs (NotBoth (has start size addr)) xs
has_once start size xs ss addr r i j d lt within =
    let pairs = pairs-permutation ss (numbered start size 0 xs) (IsPermutation-sym (numbered start size 0 xs) ss r.same) (pairs_from ss r.rise) in
    let len = length-numbered start size 0 xs in
    let z : Span = span 0 0 0 in
    both_in (start (get_or xs i d)) (size (get_or xs i d)) (start (get_or xs j d)) (size (get_or xs j d)) addr
    (rw (get-numbered start size 0 xs i z d (omega arith), get-numbered start size 0 xs j z d within) at (pairs i j z lt (omega arith)))

-- the segment that holds a section has its first byte
holds_first : (h : SectionHeader) (s : ProgramHeader) → 0 < h.size → s.file_size ≤ s.memory_size → holds_text h s ≡ true → in_loaded h.address s ≡ true
holds_first h s some filled e = let z = holds_sizes h s e in spans_from s.address s.memory_size h.address (omega (arith, z.0)) (omega (arith, z.0, z.1))
  where
    spans_from : (a n addr : ℕ) → a ≤ addr → addr < a + n → spans a n addr ≡ true
    spans_from a n addr low high = grind (arith, nat_tests)

-- the segment that holds a section is the one that has its first byte, if that one holds it
pub holder_found : (h : SectionHeader) (segments : List ProgramHeader) (ss : List Span) → 0 < h.size → AreSegments segments ss → AreFilled segments
    → find (holds_text h) segments ≡ option_and_then (λ s. if holds_text h s then Some s else None) (find (in_loaded h.address) segments)
holder_found h segments ss some r filled =
    narrow (holds_text h) (in_loaded h.address) segments (has_once (λ (s : ProgramHeader). s.address) (λ (s : ProgramHeader). s.memory_size) segments ss h.address r)
    (λ k d lt. holds_first h (get_or segments k d) some (filled k d lt))

-- segments that a loop has checked to the end
pub checked_all : (size k : ℕ) (segments : List ProgramHeader) → length segments ≤ k
    → first_fault (by_earlier (segment_check size) segments) ≡ first_fault (from (segment_check size) (take k segments) (drop k segments)) → AreFilled segments
checked_all size k segments past same =
    let none : first_fault (by_earlier (segment_check size) segments) ≡ None = same ∙ rw (drop_all k segments past) refl in
    let all = fits size segments none in
    λ i d lt. (within_sizes size (get_or segments i d) (all i d lt)).0

-- whether a text section that begins and ends at whole words fits
pub fits_by : (segments : List ProgramHeader) (h : SectionHeader) → true ≡ ((h.address % 4 == 0) && (h.size % 4 == 0)) → h.kind ≢ 8
    → text_fits segments h ≡ is_some (find (holds_text h) segments)
fits_by segments h whole kind =
    let k : (h.kind == 8) ≡ false = ne_eqb _ _ kind in
    rw (← whole, k) (any_found (holds_text h) segments)

numbered-ranges : (segments : List ProgramHeader) (k : ℕ) (texts : List SectionHeader)
    → numbered (λ t. t.address) (λ t. t.size) k (map (range_in segments) texts) ≡ numbered (λ h. h.address) (λ h. h.size) k texts
numbered-ranges segments k [] = refl
numbered-ranges segments k (h ∷ hs) = ap (λ (ss : List Span). span h.address h.size k ∷ ss) (numbered-ranges segments (k + 1) hs)

-- the ranges of text sections are where the sections are
pub texts_rise : (segments : List ProgramHeader) (texts : List SectionHeader) (text : List TextRange) (ss : List Span) → text ≡ map (range_in segments) texts
    → IsRising (λ h. h.address) (λ h. h.size) texts ss → AreTexts text ss
texts_rise segments texts text ss e r =
    record { same = rw (e, numbered-ranges segments 0 texts) r.same; rise = r.rise }

pub ranged : (text : List TextRange) (segments : List ProgramHeader) (texts : List SectionHeader) (bytes : List ℕ)
    → text ≡ map (range_in segments) texts → segments ≡ loaded bytes → texts ≡ text_headers bytes
    → text ≡ map (text_range bytes) (text_headers bytes)
ranged text segments texts bytes t s h = rw (← s, ← h) t
