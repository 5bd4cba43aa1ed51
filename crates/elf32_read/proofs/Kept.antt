-- What the tables that an image keeps say of its program.
use Rattle.std.proofs.Common.{◌≡◌, ◌≢◌, ℕ, ◌+◌, ◌%◌, Bool, true, false, List, [], ◌∷◌, length, map, find, None, refl, sym, ◌∙◌, ap, eq-eqb, ne_eqb}
use Rattle.std.specs.Prelude.{◌==◌, ◌&&◌, not, All, option_and_then}
use Rattle.std.specs.List.{list_any}
use Rattle.std.specs.Option.{option_map, option_map_or}
use Rattle.std.proofs.lemmas.List.{length-map}
use Rattle.std.proofs.lemmas.List.Elements.{All-cons, All-head, All-nil, All-tail, All-weaker}
use Rattle.std.proofs.lemmas.List.Sorted.{All-permutation}
use Rattle.elf32_read.specs.Program.{Program, Section, Segment, in_segment, in_words, is_writable, byte_of, mapped, in_text, text_word, writable, section, is_named}
use Rattle.elf32_read.specs.Headers.{file_header, loaded, text_headers, section_headers, names, section_bytes, segment_of, text_of, section_of, program_of}
use Rattle.elf32_read.specs.Ranges.{text_fits, IsRange, IsWithin, text_range, in_loaded, in_range, is_called, is_writable_header}
use Rattle.elf32_read.specs.Views.{unnamed, range_shown}
use Rattle.elf32_read.specs.Inside.{seen, IsKept}
use Rattle.elf32_read.specs.Spans.{numbered}
use Rattle.elf32_read.specs.TextSpans.{AreAligned, text_spans}
use Rattle.elf32_read.specs.declared.tables.TextRange.{TextRange}
use Rattle.elf32_read.specs.declared.image.Image.TheInside.{Inside}
use Rattle.elf32_read.specs.declared.header.SectionHeader.{SectionHeader}
use Rattle.elf32_read.proofs.Ordered.{are_text_spans}
use Rattle.elf32_read.proofs.ByHeaders.{find-map, mapped-headers, writable-headers, option_map-twice}
use Rattle.elf32_read.proofs.Texts.{any_text, found_word, shown_texts, word_at, word_of}

-- the loaded segments' file parts are in the file
within_all : (i : Inside) → IsKept i → All (IsWithin i.file.items) (loaded i.file.items)
within_all i k = rw (← k.tables.segments) k.fits

pub kept_entry : (i : Inside) (p : Program) → IsKept i → seen i ≡ p → i.tables.header.entry ≡ p.entry
unfolding program_of
kept_entry i p k v = ap (λ (h : _). h.entry) k.tables.header ∙ ap (λ (q : Program). q.entry) v

pub kept_mapped : (i : Inside) (p : Program) (addr : ℕ) → IsKept i → seen i ≡ p
    → option_map (λ h. byte_of addr (segment_of i.file.items h)) (find (in_loaded addr) i.tables.segments.items) ≡ mapped p addr
kept_mapped i p addr k v = rw k.tables.segments (sym (mapped-headers i.file.items addr)) ∙ ap (λ (q : Program). mapped q addr) v

headers_text : (file : List ℕ) (addr : ℕ) → All (λ h. text_fits (loaded file) h ≡ true) (text_headers file) → All (IsWithin file) (loaded file)
    → list_any (in_range addr) (map (text_range file) (text_headers file)) ≡ in_text (program_of file) addr
unfolding program_of
headers_text file addr fit all = sym (any_text file (text_headers file) addr fit all)

pub kept_in_text : (i : Inside) (p : Program) (addr : ℕ) → IsKept i → seen i ≡ p
    → list_any (in_range addr) i.tables.text.items ≡ in_text p addr
kept_in_text i p addr k v = rw k.tables.text (headers_text i.file.items addr k.texts (within_all i k)) ∙ ap (λ (q : Program). in_text q addr) v

headers_word : (file : List ℕ) (addr : ℕ) → All (λ h. text_fits (loaded file) h ≡ true) (text_headers file) → All (IsWithin file) (loaded file) → addr % 4 ≡ 0
    → option_map (word_at file addr) (find (in_range addr) (map (text_range file) (text_headers file)))
    ≡ option_and_then (word_of addr) (find (in_words addr) (program_of file).text)
unfolding program_of
headers_word file addr fit all four = sym (found_word file (text_headers file) addr four fit all)

aligned_word : (p : Program) (addr : ℕ) → addr % 4 ≡ 0 → option_and_then (word_of addr) (find (in_words addr) p.text) ≡ text_word p addr
aligned_word p addr four =
    let e : (addr % 4 == 0) ≡ true = eq-eqb _ _ four in rw e refl

pub kept_word : (i : Inside) (p : Program) (addr : ℕ) → IsKept i → seen i ≡ p → addr % 4 ≡ 0
    → option_map (word_at i.file.items addr) (find (in_range addr) i.tables.text.items) ≡ text_word p addr
kept_word i p addr k v four =
    rw k.tables.text (headers_word i.file.items addr k.texts (within_all i k) four)
    ∙ ap (λ (q : Program). option_and_then (word_of addr) (find (in_words addr) q.text)) v
    ∙ aligned_word p addr four

pub no_word : (p : Program) (addr : ℕ) → addr % 4 ≢ 0 → text_word p addr ≡ None
no_word p addr odd = let e : (addr % 4 == 0) ≡ false = ne_eqb _ _ odd in rw e refl

pub kept_writable : (i : Inside) (p : Program) (addr : ℕ) → IsKept i → seen i ≡ p
    → (option_map_or is_writable_header (find (in_loaded addr) i.tables.segments.items) false && not (list_any (in_range addr) i.tables.text.items)) ≡ writable p addr
kept_writable i p addr k v =
    rw (k.tables.segments, kept_in_text i p addr k v)
    (ap (λ (b : Bool). b && not (in_text p addr))
    (sym (writable-headers i.file.items addr) ∙ ap (λ (q : Program). option_map_or is_writable (find (in_segment addr) q.segments) false) v))

find_same : {X : Type 0} (p q : X → Bool) (xs : List X) → ((x : X) → p x ≡ q x) → find p xs ≡ find q xs
find_same p q [] h = refl
find_same p q (x ∷ xs) h = rw (h x, find_same p q xs h) refl

find_none : {X : Type 0} (p : X → Bool) (xs : List X) → ((x : X) → p x ≡ false) → find p xs ≡ None
find_none p [] h = refl
find_none p (x ∷ xs) h = rw (h x) (find_none p xs h)

named_header : (file name : List ℕ) (h : SectionHeader) → (file_header file).section_names ≢ 0 → is_named name (section_of file h) ≡ is_called (names file) name h
named_header file name h some =
    let e : ((file_header file).section_names == 0) ≡ false = ne_eqb _ _ some in rw e refl

unnamed_header : (file name : List ℕ) (h : SectionHeader) → (file_header file).section_names ≡ 0 → is_named name (section_of file h) ≡ false
unnamed_header file name h none =
    let e : ((file_header file).section_names == 0) ≡ true = eq-eqb _ _ none in rw e refl

headers_section : (file name : List ℕ) → (file_header file).section_names ≢ 0
    → option_map (section_bytes file) (find (is_called (names file) name) (section_headers file)) ≡ section (program_of file) name
unfolding program_of
headers_section file name some =
    sym (ap (option_map (λ (s : Section). s.bytes)) (find-map (is_named name) (section_of file) (section_headers file))
    ∙ option_map-twice (λ (s : Section). s.bytes) (section_of file) (find (λ h. is_named name (section_of file h)) (section_headers file))
    ∙ ap (option_map (section_bytes file)) (find_same (λ h. is_named name (section_of file h)) (is_called (names file) name) (section_headers file) (λ h. named_header file name h some)))

headers_no_section : (file name : List ℕ) → (file_header file).section_names ≡ 0 → section (program_of file) name ≡ None
unfolding program_of
headers_no_section file name none =
    ap (option_map (λ (s : Section). s.bytes)) (find-map (is_named name) (section_of file) (section_headers file)
    ∙ ap (option_map (section_of file)) (find_none (λ h. is_named name (section_of file h)) (section_headers file) (λ h. unnamed_header file name h none)))

pub kept_section : (i : Inside) (p : Program) (name : List ℕ) → IsKept i → seen i ≡ p → i.tables.header.section_names ≢ 0
    → option_map (section_bytes i.file.items) (find (is_called (names i.file.items) name) i.tables.sections.items) ≡ section p name
kept_section i p name k v some =
    rw k.tables.sections (headers_section i.file.items name (rw k.tables.header at some)) ∙ ap (λ (q : Program). section q name) v

pub no_section : (i : Inside) (p : Program) (name : List ℕ) → IsKept i → seen i ≡ p → i.tables.header.section_names ≡ 0 → section p name ≡ None
no_section i p name k v none =
    ap (λ (q : Program). section q name) (sym v) ∙ headers_no_section i.file.items name (rw k.tables.header at none)

pub kept_segments : (i : Inside) (p : Program) → IsKept i → seen i ≡ p → map (segment_of i.file.items) i.tables.segments.items ≡ p.segments
unfolding program_of
kept_segments i p k v = rw k.tables.segments refl ∙ ap (λ (q : Program). q.segments) v

pub segments_counted : (i : Inside) (p : Program) → IsKept i → seen i ≡ p → length i.tables.segments.items ≡ length p.segments
segments_counted i p k v =
    sym (length-map i.tables.segments.items (segment_of i.file.items)) ∙ ap (λ (xs : List Segment). length xs) (kept_segments i p k v)

headers_counted : (file : List ℕ) → length (map (text_range file) (text_headers file)) ≡ length (program_of file).text
unfolding program_of
headers_counted file = length-map (text_headers file) (text_range file) ∙ sym (length-map (text_headers file) (text_of file))

pub texts_counted : (i : Inside) (p : Program) → IsKept i → seen i ≡ p → length i.tables.text.items ≡ length p.text
texts_counted i p k v = rw k.tables.text (headers_counted i.file.items) ∙ ap (λ (q : Program). length q.text) v

map-map_of : {X Y Z : Type 0} (g : Y → Z) (f : X → Y) (xs : List X) → map g (map f xs) ≡ map (λ x. g (f x)) xs
map-map_of g f [] = refl
map-map_of g f (x ∷ xs) = ap (λ zs. g (f x) ∷ zs) (map-map_of g f xs)

sections_are : (file : List ℕ) → map (λ h. unnamed (section_of file h)) (section_headers file) ≡ map unnamed (program_of file).sections
unfolding program_of
sections_are file = sym (map-map_of unnamed (section_of file) (section_headers file))

pub kept_sections : (i : Inside) (p : Program) → IsKept i → seen i ≡ p
    → map (λ h. unnamed (section_of i.file.items h)) i.tables.sections.items ≡ map unnamed p.sections
kept_sections i p k v = rw k.tables.sections (sections_are i.file.items) ∙ ap (λ (q : Program). map unnamed q.sections) v

pub sections_counted : (i : Inside) (p : Program) → IsKept i → seen i ≡ p → length i.tables.sections.items ≡ length p.sections
sections_counted i p k v =
    sym (length-map i.tables.sections.items (λ h. unnamed (section_of i.file.items h)))
    ∙ ap (λ (xs : List Section). length xs) (kept_sections i p k v)
    ∙ length-map p.sections unnamed

texts_are : (file : List ℕ) → All (λ h. text_fits (loaded file) h ≡ true) (text_headers file) → All (IsWithin file) (loaded file)
    → map (range_shown file) (map (text_range file) (text_headers file)) ≡ (program_of file).text
unfolding program_of
texts_are file fit all = shown_texts file (text_headers file) fit all

pub kept_texts : (i : Inside) (p : Program) → IsKept i → seen i ≡ p → map (range_shown i.file.items) i.tables.text.items ≡ p.text
kept_texts i p k v = rw k.tables.text (texts_are i.file.items k.texts (within_all i k)) ∙ ap (λ (q : Program). q.text) v

pub kept_text_spans : (i : Inside) (p : Program) → IsKept i → seen i ≡ p → i.tables.text_spans.items ≡ text_spans p
kept_text_spans i p k v =
    are_text_spans i.file.items i.tables.text.items i.tables.text_spans.items k.texts (within_all i k) k.tables.text k.tables.text_spans ∙ ap text_spans v

aligned_numbered : (k : ℕ) (ts : List TextRange) → All (λ t. t.address % 4 ≡ 0) ts → AreAligned (numbered (λ t. t.address) (λ t. t.size) k ts)
aligned_numbered k [] all = All-nil (λ s. s.start % 4 ≡ 0)
aligned_numbered k (t ∷ ts) all =
    All-cons (λ s. s.start % 4 ≡ 0) _ _ (All-head (λ r. r.address % 4 ≡ 0) t ts all) (aligned_numbered (k + 1) ts (All-tail (λ r. r.address % 4 ≡ 0) t ts all))

pub kept_aligned : (i : Inside) → IsKept i → AreAligned i.tables.text_spans.items
kept_aligned i k =
    All-permutation (λ s. s.start % 4 ≡ 0) _ _ k.tables.text_spans.same
    (aligned_numbered 0 i.tables.text.items (All-weaker (IsRange i.file.items) (λ t. t.address % 4 ≡ 0) (λ t r. r.aligned) i.tables.text.items k.ranges))
