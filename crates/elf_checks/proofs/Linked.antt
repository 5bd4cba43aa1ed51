-- The program of a file that fails no check is linked.
use Rattle.std.proofs.Common.{◌≡◌, ℕ, zero, suc, get_or, ◌+◌, ◌*◌, ◌-◌, ◌/◌, ◌%◌, ◌≤◌, ◌<◌, ◌^◌, Bool, true, false, List, []}
use Rattle.std.proofs.Common.{◌∷◌, ◌++◌, length, take, drop, map, find, Option, None, Some, refl, sym, ◌∙◌, ap, arith, leb-true, ltb-true, eqb-true}
use Rattle.std.specs.Prelude.{◌==◌, ◌||◌, nat_le, nat_lt, All, AllPairs, sum_by}
use Rattle.std.specs.List.{list_any}
use Rattle.std.specs.Option.{option_map_or}
use Rattle.std.proofs.lemmas.Grind.{common_steps}
use Rattle.std.proofs.lemmas.Bool.Decides.{nat_tests}
use Rattle.std.proofs.lemmas.List.Elements.{All-nil, All-cons, All-map, All-append, filter_passes}
use Rattle.std.proofs.lemmas.List.Folds.{list_any-append}
use Rattle.std.proofs.lemmas.List.Kept.{AllPairs-cons}
use Rattle.std.proofs.lemmas.List.Sums.{sum_by-cons}
use Rattle.std.proofs.lemmas.Bool.{and_parts, or_parts, not-true}
use Rattle.std.proofs.lemmas.List.{get_or_default, length-map, get_or-map}
use Rattle.byteorder.specs.Numbers.{little_from-lt}
use Rattle.elf32_read.specs.Fields.{entries, overlap, u32_at}
use Rattle.elf32_read.specs.Program.{Segment, IsSegment, IsText, Apart, TextApart, IsLinked, in_words}
use Rattle.elf32_read.specs.Headers.{file_header, loaded, program_headers, section_headers, text_headers, is_loaded, is_text, segment_of, text_of, holds_text, bytes_from, program_of}
use Rattle.elf_checks.specs.Checks.{Check, check, first_fault, fault_of, by_earlier, segment_check, text_check, entry_checks, segments_overlap, sections_overlap, in_section}
use Rattle.elf32_read.specs.Ranges.{IsWithin, in_range, text_range}
use Rattle.elf_checks.specs.declared.fault.ElfKind.TheVariants as kind
use Rattle.elf32_read.specs.declared.header.ProgramHeader.{ProgramHeader}
use Rattle.elf32_read.specs.declared.header.SectionHeader.{SectionHeader}
use Rattle.elf32_read.proofs.Held.{within_sizes, holds_sizes, text_parts, holder, Holder}
use Rattle.elf_checks.proofs.Accepted.{passed, passed_first, passes_at, texts_fit, are_within}
use Rattle.elf_checks.proofs.Earlier.{from, by_earlier-from, by_earlier-memory, memory_from}
use Rattle.elf32_read.proofs.Texts.{Meets, meets, any_text}

-- each is a byte, also past the end
abbrev pub AreBytes : List ℕ → Type 0
AreBytes xs = (k : ℕ) → get_or xs k 0 < 256

bytes_drop : (n : ℕ) (xs : List ℕ) → AreBytes xs → AreBytes (drop n xs)
bytes_drop zero xs h = h
bytes_drop (suc n) [] h = h
bytes_drop (suc n) (x ∷ xs) h = bytes_drop n xs (λ k. h (suc k))

bytes_take : (n : ℕ) (xs : List ℕ) → AreBytes xs → AreBytes (take n xs)
bytes_take zero xs h k = omega arith
bytes_take (suc n) [] h k = omega arith
bytes_take (suc n) (x ∷ xs) h zero = h zero
bytes_take (suc n) (x ∷ xs) h (suc k) = bytes_take n xs (λ j. h (suc j)) k

all_bytes : (xs : List ℕ) → AreBytes xs → All (λ b. b < 256) xs
all_bytes xs h k d lt = let same = get_or_default xs k d 0 lt in rw same (h k)

word_below : (xs : List ℕ) (at : ℕ) → AreBytes xs → u32_at xs at < 2 ^ 32
unfolding u32_at
word_below xs at h = little_from-lt 0 4 (drop at xs) (bytes_drop at xs h)

all_entries : {A : Type 0} (P : A → Type 0) (at : ℕ → A) (n : ℕ) → ((x : ℕ) → P (at x)) → All P (entries at 0 4 n)
all_entries P at zero h = All-nil P
all_entries P at (suc n) h =
    All-append P (entries at 0 4 n) (at (0 + 4 * n) ∷ []) (all_entries P at n h) (All-cons P (at (0 + 4 * n)) [] (h (0 + 4 * n)) (All-nil P))

-- the segment of a header
segment_linked : (file : List ℕ) (h : ProgramHeader) → AreBytes file → is_loaded h ≡ true → IsWithin file h → IsSegment (segment_of file h)
segment_linked file h bytes some within =
    let sizes = within_sizes (length file) h within in
    let part : length (take h.file_size (drop h.offset file)) ≤ h.file_size = grind (arith, common_steps) in
    record {
      some = ltb-true _ _ (and_parts (h.kind == 1) (nat_lt 0 h.memory_size) some).1;
      filled = omega (arith, part, sizes.0);
      below = sizes.2;
      bytes = all_bytes (take h.file_size (drop h.offset file)) (bytes_take h.file_size (drop h.offset file) (bytes_drop h.offset file bytes));
    }

segments_linked : (file : List ℕ) → AreBytes file → fault_of file ≡ None → All IsSegment (map (segment_of file) (loaded file))
segments_linked file bytes h =
    All-map IsSegment (segment_of file) (loaded file)
    (λ k d lt. segment_linked file (get_or (loaded file) k d) bytes (filter_passes is_loaded (program_headers file) k d lt) (are_within file h k d lt))

-- each of some entries meets none of those before it
abbrev Clear : {X : Type 0} → (X → X → Bool) → List X → List X → Type 0
Clear meet earlier [] = Unit {0}
Clear meet earlier (x ∷ xs) = (list_any (meet x) earlier ≡ false) × Clear meet (earlier ++ x ∷ []) xs

from_none : {X : Type 0} (f : List X → X → Check) (xs : List X) → first_fault (by_earlier f xs) ≡ None → first_fault (from f [] xs) ≡ None
from_none f xs e = ap first_fault (sym (by_earlier-from f xs)) ∙ e

segments_clear : (size : ℕ) (earlier hs : List ProgramHeader) → first_fault (from (segment_check size) earlier hs) ≡ None → Clear segments_overlap earlier hs
segments_clear size earlier [] e = tt
segments_clear size earlier (h ∷ hs) e =
    let p = passed_first (segment_check size earlier h) (from (segment_check size) (earlier ++ h ∷ []) hs) e in
    (not-true _ (and_parts _ _ p.0).1, segments_clear size (earlier ++ h ∷ []) hs p.1)

texts_clear : (segments : List ProgramHeader) (earlier hs : List SectionHeader) → first_fault (from (text_check segments) earlier hs) ≡ None → Clear sections_overlap earlier hs
texts_clear segments earlier [] e = tt
texts_clear segments earlier (h ∷ hs) e =
    let p = passed_first (text_check segments earlier h) (from (text_check segments) (earlier ++ h ∷ []) hs) e in
    (not-true _ (and_parts _ _ p.0).1, texts_clear segments (earlier ++ h ∷ []) hs p.1)

-- what entries that are clear say of each and each earlier one
record AreClear {X : Type 0} (meet : X → X → Bool) (earlier xs : List X) : Type 0 where
  pairs : AllPairs (λ x y. meet y x ≡ false) xs
  none : All (λ x. list_any (meet x) earlier ≡ false) xs

clear_parts : {X : Type 0} (meet : X → X → Bool) (earlier : List X) (x : X) (xs : List X) → list_any (meet x) earlier ≡ false → AreClear meet (earlier ++ x ∷ []) xs
    → AreClear meet earlier (x ∷ xs)
clear_parts {X} meet earlier x xs first rest =
    let parts : (k : ℕ) (d : X) → k < length xs → (list_any (meet (get_or xs k d)) earlier ≡ false) × (list_any (meet (get_or xs k d)) (x ∷ []) ≡ false) =
    λ k d lt. or_parts _ _ (sym (list_any-append (meet (get_or xs k d)) earlier (x ∷ [])) ∙ rest.none k d lt) in
    record {
      pairs = AllPairs-cons (λ x y. meet y x ≡ false) x xs (λ k d lt. (or_parts _ _ (parts k d lt).1).0) rest.pairs;
      none = All-cons (λ x. list_any (meet x) earlier ≡ false) x xs first (λ k d lt. (parts k d lt).0);
    }

are_clear : {X : Type 0} (meet : X → X → Bool) (earlier xs : List X) → Clear meet earlier xs → AreClear meet earlier xs
are_clear meet earlier [] c = record { pairs = λ i j d lt within. absurd (omega (arith, within)); none = All-nil (λ x. list_any (meet x) earlier ≡ false) }
are_clear meet earlier (x ∷ xs) c = clear_parts meet earlier x xs c.0 (are_clear meet (earlier ++ x ∷ []) xs c.1)

overlap-sym : (a n b m : ℕ) → overlap a n b m ≡ false → overlap b m a n ≡ false
overlap-sym a n b m e = grind (arith, nat_tests)

-- pairs of what is made of a list that has an element
pairs_made : {X Y : Type 0} (R : Y → Y → Type 0) (f : X → Y) (xs : List X) (e : X)
    → ((i j : ℕ) → i < j → j < length xs → R (f (get_or xs i e)) (f (get_or xs j e))) → AllPairs R (map f xs)
pairs_made R f xs e h i j d lt within =
    let len = length-map xs f in
    rw (get_or-map f xs i e d (omega arith), get_or-map f xs j e d (omega arith)) (h i j lt (omega arith))

meets_not : (g h : ProgramHeader) → segments_overlap g h ≡ false → segments_overlap h g ≡ false
meets_not g h e = overlap-sym g.address g.memory_size h.address h.memory_size e

segments_apart : (file : List ℕ) → fault_of file ≡ None → AllPairs Apart (map (segment_of file) (loaded file))
segments_apart file h =
    let none : ProgramHeader = record { place = 0; kind = 0; offset = 0; address = 0; file_size = 0; memory_size = 0; flags = 0 } in
    let clear = are_clear segments_overlap [] (loaded file) (segments_clear (length file) [] (loaded file) (from_none (segment_check (length file)) (loaded file) (passed file h).segments)) in
    pairs_made Apart (segment_of file) (loaded file) none
    (λ i j lt within. meets_not (get_or (loaded file) j none) (get_or (loaded file) i none) (clear.pairs i j none lt within))

-- the sum of the sizes
sizes_below : (sum : ℕ) (file : List ℕ) (hs : List ProgramHeader) → first_fault (memory_from sum hs) ≡ None → sum ≤ 16777216
    → sum + sum_by (λ s. s.size) (map (segment_of file) hs) ≤ 16777216
sizes_below sum file [] e le = omega (arith, le)
sizes_below sum file (h ∷ hs) e le =
    let p = passed_first (check (nat_le (sum + h.memory_size) 16777216) kind.Large h.place) (memory_from (sum + h.memory_size) hs) e in
    let rest = sizes_below (sum + h.memory_size) file hs p.1 (leb-true _ _ p.0) in
    let all = sum_by-cons (λ (s : Segment). s.size) (segment_of file h) (map (segment_of file) hs) in
    omega (arith, rest, all)

-- the words of a text section come from a segment's bytes
part_bytes : (file : List ℕ) (addr : ℕ) (o : Option ProgramHeader) → AreBytes file → AreBytes (option_map_or (bytes_from file addr) o [])
part_bytes file addr None h = λ k. omega arith
part_bytes file addr (Some s) h = bytes_drop (addr - s.address) _ (bytes_take s.file_size _ (bytes_drop s.offset file h))

text_by : (file : List ℕ) (h : SectionHeader) → AreBytes file → 0 < h.size → Holder file (loaded file) h → Meets file (text_of file h) (text_range file h)
    → IsText (text_of file h)
text_by file h bytes some r m =
    let within = within_sizes (length file) r.segment r.within in
    let inside = holds_sizes h r.segment r.holds in
    let part = option_map_or (bytes_from file h.address) (find (holds_text h) (loaded file)) [] in
    let bytes' = part_bytes file h.address (find (holds_text h) (loaded file)) bytes in
    record {
      some = omega (arith, some, m.size);
      aligned = m.aligned;
      below = omega (arith, within.0, within.2, inside.0, inside.1, m.size);
      words = all_entries (λ w. w < 2 ^ 32) (u32_at part) (h.size / 4) (λ x. word_below part x bytes');
    }

met : (file : List ℕ) → fault_of file ≡ None → (k : ℕ) (d : SectionHeader) → k < length (text_headers file)
    → Meets file (text_of file (get_or (text_headers file) k d)) (text_range file (get_or (text_headers file) k d))
met file h k d lt = meets file (get_or (text_headers file) k d) (texts_fit file h k d lt) (are_within file h)

text_size : (h : SectionHeader) → is_text h ≡ true → 0 < h.size
text_size h e = ltb-true _ _ (and_parts _ (nat_lt 0 h.size) e).1

texts_linked : (file : List ℕ) → AreBytes file → fault_of file ≡ None → All IsText (map (text_of file) (text_headers file))
texts_linked file bytes h = All-map IsText (text_of file) (text_headers file) (λ k d lt. one k d lt)
  where
    one : (k : ℕ) (d : SectionHeader) → k < length (text_headers file) → IsText (text_of file (get_or (text_headers file) k d))
    one k d lt =
        let t = get_or (text_headers file) k d in
        text_by file t bytes (text_size t (filter_passes is_text (section_headers file) k d lt))
        (holder file (loaded file) t (text_parts (loaded file) t (texts_fit file h k d lt)).held (are_within file h)) (met file h k d lt)

sizes_apart : (a n b m n' m' : ℕ) → n' ≡ n → m' ≡ m → overlap b m a n ≡ false → overlap a n' b m' ≡ false
sizes_apart a n b m n' m' e f h = rw (e, f) (overlap-sym b m a n h)

texts_apart : (file : List ℕ) → fault_of file ≡ None → AllPairs TextApart (map (text_of file) (text_headers file))
texts_apart file h =
    let none : SectionHeader = record { place = 0; name = 0; kind = 0; flags = 0; address = 0; offset = 0; size = 0; link = 0 } in
    let clear = are_clear sections_overlap [] (text_headers file) (texts_clear (loaded file) [] (text_headers file) (from_none (text_check (loaded file)) (text_headers file) (passed file h).text)) in
    pairs_made TextApart (text_of file) (text_headers file) none
    (λ i j lt within. sizes_apart _ _ _ _ _ _ (met file h i none (omega (arith, lt, within))).size (met file h j none within).size (clear.pairs i j none lt within))

ranges_any : (file : List ℕ) (hs : List SectionHeader) (addr : ℕ) → list_any (in_range addr) (map (text_range file) hs) ≡ list_any (in_section addr) hs
ranges_any file [] addr = refl
ranges_any file (h ∷ hs) addr = ap (λ (b : Bool). in_section addr h || b) (ranges_any file hs addr)

-- the entry is an instruction's address
entry_parts : (file : List ℕ) → fault_of file ≡ None → ((file_header file).entry % 4 ≡ 0) × (list_any (in_section (file_header file).entry) (text_headers file) ≡ true)
entry_parts file h =
    let e = and_parts _ _ (passes_at (entry_checks (file_header file) (text_headers file)) 1 (passed file h).entry) in
    (eqb-true _ _ e.0, e.1)

entry_inside : (file : List ℕ) (addr : ℕ) → fault_of file ≡ None → list_any (in_section addr) (text_headers file) ≡ true
    → list_any (in_words addr) (map (text_of file) (text_headers file)) ≡ true
entry_inside file addr h any =
    any_text file (text_headers file) addr (texts_fit file h) (are_within file h) ∙ ranges_any file (text_headers file) addr ∙ any

pub linked : (file : List ℕ) → AreBytes file → fault_of file ≡ None → IsLinked (program_of file)
unfolding program_of
linked file bytes h =
    let total = sizes_below 0 file (loaded file) (ap first_fault (sym (by_earlier-memory (loaded file))) ∙ (passed file h).memory) (omega arith) in
    record {
      segments = segments_linked file bytes h;
      apart = segments_apart file h;
      total = omega (arith, total);
      text = texts_linked file bytes h;
      text_apart = texts_apart file h;
      aligned = (entry_parts file h).0;
      entered = entry_inside file (file_header file).entry h (entry_parts file h).1;
    }
