-- The words of text sections, and where they stand in the file.
use Rattle.std.proofs.Common.{◌≡◌, ℕ, zero, suc, ◌+◌, ◌-◌, ◌*◌, ◌/◌, ◌%◌, ◌≤◌, ◌<◌, Bool, true, false, cond, List, [], ◌∷◌, ◌++◌, length, take, drop, get_or, map, find, Option, Some, refl, sym, ◌∙◌, ap, arith, leb-true, ltb-true, inl, inr}
use Rattle.std.specs.Prelude.{◌||◌, All, slice_get, option_and_then}
use Rattle.std.specs.List.{list_any}
use Rattle.std.specs.Option.{option_map, option_map_or}
use Rattle.std.proofs.lemmas.Grind.{common_steps}
use Rattle.std.proofs.lemmas.Bool.{cases_lt, and_parts}
use Rattle.std.proofs.lemmas.List.Elements.{All-head, All-tail}
use Rattle.elf32_read.specs.Fields.{u32_at, entries, spans}
use Rattle.elf32_read.specs.Program.{Text, in_words}
use Rattle.elf32_read.specs.Headers.{loaded, holds_text, bytes_from, text_of}
use Rattle.elf32_read.specs.Ranges.{offset_of, text_fits, text_range, in_range, IsWithin, IsRange}
use Rattle.elf32_read.specs.Views.{range_shown}
use Rattle.elf32_read.proofs.Held.{Holder, holder, holds_sizes, is_range, TextFit, text_parts}
use Rattle.elf32_read.specs.declared.tables.TextRange.{TextRange}
use Rattle.elf32_read.specs.declared.header.ProgramHeader.{ProgramHeader}
use Rattle.elf32_read.specs.declared.header.SectionHeader.{SectionHeader}

pub length-entries : {A : Type 0} (at : ℕ → A) (start step n : ℕ) → length (entries at start step n) ≡ n
length-entries at start step zero = refl
length-entries at start step (suc n) = let e = length-entries at start step n in grind (arith, common_steps)

get-append_left : {A : Type 0} (xs ys : List A) (k : ℕ) → k < length xs → slice_get (xs ++ ys) k ≡ slice_get xs k
get-append_left [] ys k h = absurd (omega arith)
get-append_left (x ∷ xs) ys zero h = refl
get-append_left (x ∷ xs) ys (suc k) h = get-append_left xs ys k (omega arith)

get-append_at : {A : Type 0} (xs : List A) (y : A) (k : ℕ) → k ≡ length xs → slice_get (xs ++ y ∷ []) k ≡ Some y
get-append_at [] y zero h = refl
get-append_at [] y (suc k) h = absurd (omega arith)
get-append_at (x ∷ xs) y zero h = absurd (omega arith)
get-append_at (x ∷ xs) y (suc k) h = get-append_at xs y k (omega arith)

pub get-entries : {A : Type 0} (at : ℕ → A) (start step n k : ℕ) → k < n → slice_get (entries at start step n) k ≡ Some (at (start + step * k))
get-entries at start step zero k h = absurd (omega arith)
get-entries {A} at start step (suc n) k h =
    let e = length-entries at start step n in
    elim (cases_lt k n) [
      | inl lt ↦ get-append_left (entries at start step n) (at (start + step * n) ∷ []) k (omega arith) ∙ get-entries at start step n k lt
      | inr ge ↦
          let same : k ≡ n = omega arith in
          get-append_at (entries at start step n) (at (start + step * n)) k (omega arith)
          ∙ ap (λ (m : ℕ). Some (at (start + step * m))) (sym same)
    ]

byte_along : (bytes : List ℕ) (o n a d i : ℕ) → a + (d + i) < n → get_or (drop d (drop a (take n (drop o bytes)))) i 0 ≡ get_or (drop (o + (a + d)) bytes) i 0
byte_along bytes o n a d i h = grind (arith, common_steps)

-- a word of a part of the bytes is a word of the bytes
word_along : (bytes : List ℕ) (o n a d : ℕ) → a + d + 4 ≤ n → u32_at (drop a (take n (drop o bytes))) d ≡ u32_at bytes (o + (a + d))
unfolding u32_at
word_along bytes o n a d h =
    let b0 = byte_along bytes o n a d 0 (omega arith) in
    let b1 = byte_along bytes o n a d 1 (omega arith) in
    let b2 = byte_along bytes o n a d 2 (omega arith) in
    let b3 = byte_along bytes o n a d 3 (omega arith) in
    cc

-- a text section and its range in the file, as one fits the other
pub record Meets (file : List ℕ) (t : Text) (r : TextRange) : Type 0 where
  pub address : t.address ≡ r.address
  pub size : 4 * length t.words ≡ r.size
  pub aligned : r.address % 4 ≡ 0
  pub words : (d : ℕ) → d % 4 ≡ 0 → d < r.size → slice_get t.words (d / 4) ≡ Some (u32_at file (r.offset + d))

ends_at : (o a d offset : ℕ) → offset ≡ o + a → o + (a + d) ≡ offset + d
ends_at o a d offset e = omega arith

meets_held : (file : List ℕ) (h : SectionHeader) → TextFit (loaded file) h → (r : Holder file (loaded file) h) → Meets file (text_of file h) (text_range file h)
meets_held file h fit r =
    let four : h.size % 4 ≡ 0 = fit.whole in
    let s = holds_sizes h r.segment r.holds in
    let part = option_map_or (bytes_from file h.address) (find (holds_text h) (loaded file)) [] in
    let part_is : part ≡ bytes_from file h.address r.segment = ap (λ (o : Option ProgramHeader). option_map_or (bytes_from file h.address) o []) r.found in
    let offset_is : (text_range file h).offset ≡ offset_of h.address r.segment = ap (λ (o : Option ProgramHeader). option_map_or (offset_of h.address) o 0) r.found in
    let count : length (entries (u32_at part) 0 4 (h.size / 4)) ≡ h.size / 4 = length-entries (u32_at part) 0 4 (h.size / 4) in
    record {
      address = refl;
      size = whole_size (length (entries (u32_at part) 0 4 (h.size / 4))) h.size count four;
      aligned = fit.aligned;
      words = λ d even lt.
          get-entries (u32_at part) 0 4 (h.size / 4) (d / 4) (quarter_lt d h.size even four lt)
          ∙ ap (λ (x : ℕ). Some (u32_at part x)) (quarter_at d even)
          ∙ ap (λ (xs : List ℕ). Some (u32_at xs d)) part_is
          ∙ ap Some (word_along file r.segment.offset r.segment.file_size (h.address - r.segment.address) d
          (room r.segment.address r.segment.file_size h.address h.size d s.0 s.1 four even lt))
          ∙ ap (λ (x : ℕ). Some (u32_at file x)) (ends_at r.segment.offset (h.address - r.segment.address) d (text_range file h).offset offset_is);
    }
  where
    whole_size : (n size : ℕ) → n ≡ size / 4 → size % 4 ≡ 0 → 4 * n ≡ size
    whole_size n size e four = omega arith

    quarter_lt : (d size : ℕ) → d % 4 ≡ 0 → size % 4 ≡ 0 → d < size → d / 4 < size / 4
    quarter_lt d size even four lt = omega arith

    quarter_at : (d : ℕ) → d % 4 ≡ 0 → 0 + 4 * (d / 4) ≡ d
    quarter_at d even = omega arith

    room : (start part addr size d : ℕ) → start ≤ addr → addr + size ≤ start + part → size % 4 ≡ 0 → d % 4 ≡ 0 → d < size → addr - start + d + 4 ≤ part
    room start part addr size d low high four even lt = omega arith

-- the words of a text section that fits
pub meets : (file : List ℕ) (h : SectionHeader) → text_fits (loaded file) h ≡ true → All (IsWithin file) (loaded file)
    → Meets file (text_of file h) (text_range file h)
meets file h e all =
    let fit = text_parts (loaded file) h e in meets_held file h fit (holder file (loaded file) h fit.held all)

-- the same bytes
in_same : (file : List ℕ) (t : Text) (r : TextRange) (addr : ℕ) → Meets file t r → in_words addr t ≡ in_range addr r
in_same file t r addr m = rw (m.address, m.size) refl

or_same : (a b c d : Bool) → a ≡ b → c ≡ d → (a || c) ≡ (b || d)
or_same a b c d e f = cc

-- whether an address is text, by the ranges
pub any_text : (file : List ℕ) (hs : List SectionHeader) (addr : ℕ) → All (λ h. text_fits (loaded file) h ≡ true) hs → All (IsWithin file) (loaded file)
    → list_any (in_words addr) (map (text_of file) hs) ≡ list_any (in_range addr) (map (text_range file) hs)
any_text file [] addr fit all = refl
any_text file (h ∷ hs) addr fit all =
    let m = meets file h (All-head (λ h. text_fits (loaded file) h ≡ true) h hs fit) all in
    or_same _ _ _ _ (in_same file (text_of file h) (text_range file h) addr m)
    (any_text file hs addr (All-tail (λ h. text_fits (loaded file) h ≡ true) h hs fit) all)

-- the word of a text section at an address, and of its range
abbrev pub word_of : ℕ → Text → Option ℕ
word_of addr t = slice_get t.words ((addr - t.address) / 4)

abbrev pub word_at : List ℕ → ℕ → TextRange → ℕ
word_at file addr r = u32_at file (r.offset + (addr - r.address))

in_spans : (start size addr : ℕ) → spans start size addr ≡ true → (start ≤ addr) × (addr < start + size)
in_spans start size addr e = let a = and_parts _ _ e in (leb-true _ _ a.0, ltb-true _ _ a.1)

met_word : (file : List ℕ) (t : Text) (r : TextRange) (addr : ℕ) → Meets file t r → addr % 4 ≡ 0 → in_range addr r ≡ true
    → word_of addr t ≡ Some (word_at file addr r)
met_word file t r addr m four e =
    let s = in_spans r.address r.size addr e in
    let even = m.aligned in
    rw m.address (m.words (addr - r.address) (omega (arith, s.0, even)) (omega (arith, s.0, s.1)))

word_step : (b b' : Bool) (f : Text → Option ℕ) (g : TextRange → ℕ) (t : Text) (r : TextRange) (o : Option Text) (q : Option TextRange)
    → b ≡ b' → (b' ≡ true → f t ≡ Some (g r)) → option_and_then f o ≡ option_map g q
    → option_and_then f (cond b (Some t) o) ≡ option_map g (cond b' (Some r) q)
word_step b true f g t r o q e here rest = rw e (here refl)
word_step b false f g t r o q e here rest = rw e rest

-- the word of text at an address, by the ranges
pub found_word : (file : List ℕ) (hs : List SectionHeader) (addr : ℕ) → addr % 4 ≡ 0
    → All (λ h. text_fits (loaded file) h ≡ true) hs → All (IsWithin file) (loaded file)
    → option_and_then (word_of addr) (find (in_words addr) (map (text_of file) hs))
    ≡ option_map (word_at file addr) (find (in_range addr) (map (text_range file) hs))
found_word file [] addr four fit all = refl
found_word file (h ∷ hs) addr four fit all =
    let m = meets file h (All-head (λ h. text_fits (loaded file) h ≡ true) h hs fit) all in
    word_step (in_words addr (text_of file h)) (in_range addr (text_range file h)) (word_of addr) (word_at file addr) (text_of file h) (text_range file h) _ _
    (in_same file (text_of file h) (text_range file h) addr m)
    (λ (e : in_range addr (text_range file h) ≡ true). met_word file (text_of file h) (text_range file h) addr m four e)
    (found_word file hs addr four (All-tail (λ h. text_fits (loaded file) h ≡ true) h hs fit) all)

entries_same : {A : Type 0} (f g : ℕ → A) (n : ℕ) → ((k : ℕ) → k < n → f (0 + 4 * k) ≡ g (0 + 4 * k)) → entries f 0 4 n ≡ entries g 0 4 n
entries_same f g zero h = refl
entries_same {A} f g (suc n) h =
    let e = entries_same f g n (λ k lt. h k (omega arith)) in
    let l = h n (omega arith) in
    rw (e, l) refl

some_same : (a b : ℕ) → Some a ≡ Some b → a ≡ b
some_same a b h = cc

shown_words : (file : List ℕ) (t : Text) (r : TextRange) → Meets file t r → IsRange file r → (f : ℕ → ℕ) → t.words ≡ entries f 0 4 (r.size / 4)
    → (k : ℕ) → k < r.size / 4 → u32_at (take r.size (drop r.offset file)) (0 + 4 * k) ≡ f (0 + 4 * k)
shown_words file t r m i f w k lt =
    let whole = i.whole in
    let a = m.words (4 * k) (omega arith) (omega arith) in
    let q : 4 * k / 4 ≡ k = omega arith in
    let b : slice_get t.words (4 * k / 4) ≡ Some (f (0 + 4 * k)) = rw (w, q) (get-entries f 0 4 (r.size / 4) k lt) in
    let c : u32_at (drop 0 (take r.size (drop r.offset file))) (4 * k) ≡ u32_at file (r.offset + (0 + 4 * k)) = word_along file r.offset r.size 0 (4 * k) (omega arith) in
    let d : 0 + 4 * k ≡ 4 * k = omega arith in
    let e : f (0 + 4 * k) ≡ u32_at file (r.offset + 4 * k) = some_same _ _ (sym b ∙ a) in
    ap (λ (x : ℕ). u32_at (take r.size (drop r.offset file)) x) d ∙ c ∙ ap (λ (x : ℕ). u32_at file (r.offset + x)) d ∙ sym e

abbrev text_with : ℕ → List ℕ → Text
text_with address words = record { address = address; words = words }

-- a text section by its range is the section
shown_text : (file : List ℕ) (h : SectionHeader) → Meets file (text_of file h) (text_range file h) → IsRange file (text_range file h)
    → range_shown file (text_range file h) ≡ text_of file h
shown_text file h m i =
    let bytes = take h.size (drop (text_range file h).offset file) in
    let part = option_map_or (bytes_from file h.address) (find (holds_text h) (loaded file)) [] in
    let within = i.within in
    let len : length bytes ≡ h.size = grind (arith, common_steps) in
    let words : entries (u32_at bytes) 0 4 (length bytes / 4) ≡ entries (u32_at part) 0 4 (h.size / 4) =
    ap (λ (n : ℕ). entries (u32_at bytes) 0 4 (n / 4)) len
    ∙ entries_same (u32_at bytes) (u32_at part) (h.size / 4) (shown_words file (text_of file h) (text_range file h) m i (u32_at part) refl) in
    ap (text_with h.address) words

pub shown_texts : (file : List ℕ) (hs : List SectionHeader) → All (λ h. text_fits (loaded file) h ≡ true) hs → All (IsWithin file) (loaded file)
    → map (range_shown file) (map (text_range file) hs) ≡ map (text_of file) hs
shown_texts file [] fit all = refl
shown_texts file (h ∷ hs) fit all =
    let e = All-head (λ h. text_fits (loaded file) h ≡ true) h hs fit in
    let first = shown_text file h (meets file h e all) (is_range file (loaded file) h e all) in
    let rest = shown_texts file hs (All-tail (λ h. text_fits (loaded file) h ≡ true) h hs fit) all in
    ap (λ (t : Text). t ∷ map (range_shown file) (map (text_range file) hs)) first ∙ ap (λ (ts : List Text). text_of file h ∷ ts) rest
