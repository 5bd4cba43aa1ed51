-- The program of a file of text and data alone.
use Rattle.std.proofs.Common.{◌≡◌, ℕ, zero, suc, ◌+◌, ◌*◌, ◌/◌, ◌^◌, ◌<◌, ◌≤◌, Bool, true, false, List, [], ◌∷◌, ◌++◌}
use Rattle.std.proofs.Common.{length, take, drop, get_or, map, find, Option, Some, refl, sym, ap, ◌∙◌, arith, le-leb, add-one, length-append, append_assoc}
use Rattle.std.specs.Prelude.{nat_lt, nat_le, codes, if◌then◌else◌}
use Rattle.std.specs.Option.{option_map_or}
use Rattle.std.proofs.lemmas.Bool.{le-ltb}
use Rattle.std.proofs.lemmas.List.{take_more}
use Rattle.std.proofs.Math.Nat.{mul-mod_right, mul-div_right, zero-add}
use Rattle.std.proofs.Math.Seq.{take-length}
use Rattle.byteorder.specs.Endian.{little_bytes}
use Rattle.byteorder.specs.Numbers.{little_number-reads_back}
use Rattle.elf32_read.specs.Fields.{u16_at, u32_at, name_at, entries}
use Rattle.elf32_read.specs.Program.{Program, Segment, Section, Text}
use Rattle.elf32_read.specs.Headers.{section_headers, loaded, text_headers, section_bytes, segment_of, text_of, section_of, program_of, bytes_from, holds_text}
use Rattle.elf_checks.specs.Reading.{IsImage}
use Rattle.elf32_read.specs.declared.header.ProgramHeader.{ProgramHeader}
use Rattle.elf32_read.specs.declared.header.SectionHeader.{SectionHeader}
use Rattle.elf_gen.specs.Layout.{words_of, elf_header, segment_headers}
use Rattle.elf_gen.specs.Plain.{plain_names, plain_sections, plain_file, plain_program, section}
use Rattle.elf_gen.proofs.Laid.{laid, Sizes, length-laid, text_segment, data_segment, data_loaded, loaded_are, no_section, text_section, data_section, names_section, section_headers_are, u32_at-past}
use Rattle.elf_gen.proofs.Checked.{middle, names_are, names_at, text_headers_are, laid_accepted}

-- a number that fits in four bytes
abbrev pub AreWords : List ℕ → Type 0
AreWords ws = (k : ℕ) → get_or ws k 0 < 256 ^ 4

pub length-words_of : (ws : List ℕ) → length (words_of ws) ≡ 4 * length ws
length-words_of [] = refl
length-words_of (w ∷ ws) = let e = length-words_of ws in omega (arith, e)

word_read : (ws : List ℕ) (n : ℕ) → n < length ws → AreWords ws → u32_at (words_of ws) (4 * n) ≡ get_or ws n 0
unfolding u32_at
word_read [] n h fit = absurd (omega arith)
word_read (w ∷ ws) zero h fit = little_number-reads_back 4 w [] (fit 0)
word_read (w ∷ ws) (suc n) h fit =
    u32_at-past (little_bytes 4 w) (words_of ws) (4 * n) (4 * suc n) (omega arith) ∙ word_read ws n (omega arith) (λ k. fit (suc k))

first_words : (ws : List ℕ) (n : ℕ) → n ≤ length ws → AreWords ws → entries (u32_at (words_of ws)) 0 4 n ≡ take n ws
first_words ws zero h fit = refl
first_words ws (suc n) h fit =
    let before : entries (u32_at (words_of ws)) 0 4 n ≡ take n ws = first_words ws n (omega arith) fit in
    let one : u32_at (words_of ws) (0 + 4 * n) ≡ get_or ws n 0 =
    ap (u32_at (words_of ws)) (zero-add (4 * n)) ∙ word_read ws n (omega arith) fit in
    let more : take (suc n) ws ≡ take n ws ++ get_or ws n 0 ∷ [] = rw (← add-one n) (take_more ws n 0 (omega arith)) in
    let here : n < length ws = omega arith in
    ap (λ (xs : List ℕ). xs ++ u32_at (words_of ws) (0 + 4 * n) ∷ []) before
    ∙ ap (λ (w : ℕ). take n ws ++ w ∷ []) one ∙ sym more

-- the words of text read back
pub words_read : (ws : List ℕ) → AreWords ws → entries (u32_at (words_of ws)) 0 4 (4 * length ws / 4) ≡ ws
words_read ws fit =
    let four : 4 * length ws / 4 ≡ length ws = mul-div_right (length ws) (omega arith) in
    ap (entries (u32_at (words_of ws)) 0 4) four ∙ first_words ws (length ws) (omega arith) fit ∙ take-length ws

-- the headers at the front
abbrev front : ℕ → ℕ → List ℕ
front t b = elf_header (139 + t + b) 4 ++ segment_headers t b

after : ℕ → ℕ → List ℕ → List ℕ
after t b bytes = bytes ++ (plain_names ++ plain_sections t b)

front_text : (a w q : List ℕ) → a ++ (w ++ q) ≡ (a ++ w) ++ q
front_text a w q = sym (append_assoc a w q)

-- the file part of the first segment
text_part : (t b : ℕ) (text bytes : List ℕ) → Sizes t b text bytes
    → take (116 + t) (drop 0 (laid t b text bytes)) ≡ front t b ++ text
text_part t b text bytes s =
    let sizes : length (front t b) ≡ 116 = refl in
    let long = length-append (front t b) text in
    middle [] (front t b ++ text) (bytes ++ (plain_names ++ plain_sections t b)) 0 (116 + t) refl (omega (arith, sizes, long, s.text_size))

text_at : (t b : ℕ) (text bytes : List ℕ) → Sizes t b text bytes → take t (drop 116 (laid t b text bytes)) ≡ text
text_at t b text bytes s =
    let sizes : length (front t b) ≡ 116 = refl in
    middle (front t b) text (bytes ++ (plain_names ++ plain_sections t b)) 116 t sizes s.text_size

data_at : (t b : ℕ) (text bytes : List ℕ) → Sizes t b text bytes → take b (drop (116 + t) (laid t b text bytes)) ≡ bytes
data_at t b text bytes s =
    let sizes : length (front t b) ≡ 116 = refl in
    let long = length-append (front t b) text in
    let q = plain_names ++ plain_sections t b in
    ap (λ (file : List ℕ). take b (drop (116 + t) file)) (front_text (front t b) text (bytes ++ q))
    ∙ middle (front t b ++ text) bytes q (116 + t) b (omega (arith, sizes, long, s.text_size)) s.bytes_size

abbrev first_segment : ℕ → ℕ → List ℕ → Segment
first_segment t b text = record { address = 0x10000; size = 116 + t; flags = 5; bytes = front t b ++ text }

abbrev second_segment : ℕ → List ℕ → Segment
second_segment b bytes = record { address = 0x20000; size = b; flags = 6; bytes = bytes }

segments_by : (file : List ℕ) (t b : ℕ) (some : Bool) (first second : Segment) → segment_of file (text_segment t) ≡ first → segment_of file (data_segment t b) ≡ second
    → map (segment_of file) (text_segment t ∷ (if some then data_segment t b ∷ [] else [])) ≡ first ∷ (if some then second ∷ [] else [])
segments_by file t b true first second e f = ap (λ (x : Segment). x ∷ segment_of file (data_segment t b) ∷ []) e ∙ ap (λ (x : Segment). first ∷ x ∷ []) f
segments_by file t b false first second e f = ap (λ (x : Segment). x ∷ []) e

segments_are : (t b : ℕ) (text bytes : List ℕ) → Sizes t b text bytes
    → map (segment_of (laid t b text bytes)) (loaded (laid t b text bytes))
    ≡ first_segment t b text ∷ (if nat_lt 0 b then second_segment b bytes ∷ [] else [])
segments_are t b text bytes s =
    let file = laid t b text bytes in
    let first : segment_of file (text_segment t) ≡ first_segment t b text =
    ap (λ (xs : List ℕ). record { address = 0x10000; size = 116 + t; flags = 5; bytes = xs }) (text_part t b text bytes s) in
    let second : segment_of file (data_segment t b) ≡ second_segment b bytes = ap (second_segment b) (data_at t b text bytes s) in
    ap (map (segment_of file)) (loaded_are t b text bytes s)
    ∙ segments_by file t b (nat_lt 0 b) (first_segment t b text) (second_segment b bytes) first second

-- the text's bytes are in the first segment
found : (t at : ℕ) (others : List ProgramHeader) → find (holds_text (text_section at t)) (text_segment t ∷ others) ≡ Some (text_segment t)
found t at others =
    let held : nat_le (0x10074 + t) (0x10000 + (116 + t)) ≡ true = le-leb _ _ (omega arith) in rw held refl

text_bytes_are : (t b : ℕ) (text bytes : List ℕ) (at : ℕ) → Sizes t b text bytes
    → option_map_or (bytes_from (laid t b text bytes) 0x10074) (find (holds_text (text_section at t)) (loaded (laid t b text bytes))) [] ≡ text
text_bytes_are t b text bytes at s =
    let file = laid t b text bytes in
    ap (λ (hs : List ProgramHeader). option_map_or (bytes_from file 0x10074) (find (holds_text (text_section at t)) hs) []) (loaded_are t b text bytes s)
    ∙ ap (λ (o : Option ProgramHeader). option_map_or (bytes_from file 0x10074) o []) (found t at (data_loaded t b))
    ∙ ap (drop 116) (text_part t b text bytes s)

texts_are : (ws : List ℕ) (b : ℕ) (bytes : List ℕ) → Sizes (4 * length ws) b (words_of ws) bytes → AreWords ws
    → map (text_of (laid (4 * length ws) b (words_of ws) bytes)) (text_headers (laid (4 * length ws) b (words_of ws) bytes))
    ≡ record { address = 0x10074; words = ws } ∷ []
texts_are ws b bytes s fit =
    let t = 4 * length ws in
    let text : List ℕ → Text = λ xs. record { address = 0x10074; words = xs } in
    ap (map (text_of (laid t b (words_of ws) bytes))) (text_headers_are t b (words_of ws) bytes s)
    ∙ ap (λ (xs : List ℕ). text (entries (u32_at xs) 0 4 (t / 4)) ∷ []) (text_bytes_are t b (words_of ws) bytes (139 + t + b) s)
    ∙ ap (λ (xs : List ℕ). text xs ∷ []) (words_read ws fit)

-- a section of the table, by its name and its bytes
abbrev section_by : List ℕ → SectionHeader → List ℕ → Section
section_by table h bytes =
    record { name = name_at table h.name; kind = h.kind; flags = h.flags; address = h.address; link = h.link; bytes = bytes }

section_is : (t b : ℕ) (text bytes : List ℕ) (h : SectionHeader) (xs : List ℕ) → Sizes t b text bytes → section_bytes (laid t b text bytes) h ≡ xs
    → section_of (laid t b text bytes) h ≡ section_by plain_names h xs
unfolding u16_at
section_is t b text bytes h xs s e =
    ap (λ (table : List ℕ). section_by table h (section_bytes (laid t b text bytes) h)) (names_are t b text bytes s)
    ∙ ap (section_by plain_names h) e

sections_named : (t b : ℕ) (text bytes : List ℕ) → Sizes t b text bytes
    → section_by plain_names (no_section (139 + t + b)) [] ∷ section_by plain_names (text_section (139 + t + b) t) text
    ∷ section_by plain_names (data_section (139 + t + b) t b) bytes ∷ section_by plain_names (names_section (139 + t + b) t b) plain_names ∷ []
    ≡ section [] 0 0 0 [] ∷ section (codes ".text") 1 6 0x10074 text ∷ section (codes ".data") 1 3 0x20000 bytes
    ∷ section (codes ".shstrtab") 3 0 0 plain_names ∷ []
unfolding name_at
sections_named t b text bytes s = refl

sections_are : (t b : ℕ) (text bytes : List ℕ) → Sizes t b text bytes
    → map (section_of (laid t b text bytes)) (section_headers (laid t b text bytes))
    ≡ section [] 0 0 0 [] ∷ section (codes ".text") 1 6 0x10074 text ∷ section (codes ".data") 1 3 0x20000 bytes
    ∷ section (codes ".shstrtab") 3 0 0 plain_names ∷ []
sections_are t b text bytes s =
    let file = laid t b text bytes in
    let at = 139 + t + b in
    let n = length-laid t b text bytes s in
    let none_in : nat_lt (length file) 0 ≡ false = le-ltb _ _ (omega arith) in
    let text_in : nat_lt (length file) (116 + t) ≡ false = le-ltb _ _ (omega (arith, n)) in
    let data_in : nat_lt (length file) (116 + t + b) ≡ false = le-ltb _ _ (omega (arith, n)) in
    let none = section_is t b text bytes (no_section at) [] s (rw none_in refl) in
    let text_is = section_is t b text bytes (text_section at t) text s (rw text_in (text_at t b text bytes s)) in
    let data_is = section_is t b text bytes (data_section at t b) bytes s (rw data_in (data_at t b text bytes s)) in
    let names_is = section_is t b text bytes (names_section at t b) plain_names s (names_at t b text bytes (at + 120) s) in
    ap (map (section_of file)) (section_headers_are t b text bytes s)
    ∙ ap (λ (x : Section). x ∷ section_of file (text_section at t) ∷ section_of file (data_section at t b) ∷ section_of file (names_section at t b) ∷ []) none
    ∙ ap (λ (x : Section). section_by plain_names (no_section at) [] ∷ x ∷ section_of file (data_section at t b) ∷ section_of file (names_section at t b) ∷ []) text_is
    ∙ ap (λ (x : Section). section_by plain_names (no_section at) [] ∷ section_by plain_names (text_section at t) text ∷ x ∷ section_of file (names_section at t b) ∷ []) data_is
    ∙ ap (λ (x : Section). section_by plain_names (no_section at) [] ∷ section_by plain_names (text_section at t) text ∷ section_by plain_names (data_section at t b) bytes ∷ x ∷ []) names_is
    ∙ sections_named t b text bytes s

program_by : (e : ℕ) (gs : List Segment) (ts : List Text) (ss : List Section) (gs' : List Segment) (ts' : List Text) (ss' : List Section)
    → gs ≡ gs' → ts ≡ ts' → ss ≡ ss'
    → let program : List Segment → List Text → List Section → Program = λ g t s. record { entry = e; segments = g; text = t; sections = s } in
    program gs ts ss ≡ program gs' ts' ss'
program_by e gs ts ss gs' ts' ss' p q r = rw (p, q, r) refl

sizes : (ws bytes : List ℕ) → 0 < length ws → 116 + 4 * length ws ≤ 65536 → 116 + 4 * length ws + length bytes ≤ 16777216
    → Sizes (4 * length ws) (length bytes) (words_of ws) bytes
sizes ws bytes some below memory =
    record { text_size = length-words_of ws; bytes_size = refl; some = omega arith; whole = mul-mod_right 4 (length ws); below = below; memory = memory }

program_is : (ws bytes : List ℕ) → Sizes (4 * length ws) (length bytes) (words_of ws) bytes → AreWords ws
    → program_of (plain_file ws bytes) ≡ plain_program ws bytes
unfolding program_of u32_at
program_is ws bytes s fit =
    program_by 0x10074 _ _ _ _ _ _ (segments_are (4 * length ws) (length bytes) (words_of ws) bytes s) (texts_are ws (length bytes) bytes s fit)
    (sections_are (4 * length ws) (length bytes) (words_of ws) bytes s)

-- the file fails no check, and has this program
pub plain_image : (ws bytes : List ℕ) → 0 < length ws → 116 + 4 * length ws ≤ 65536 → 116 + 4 * length ws + length bytes ≤ 16777216 → AreWords ws
    → IsImage (plain_file ws bytes) (plain_program ws bytes)
plain_image ws bytes some below memory fit =
    let s = sizes ws bytes some below memory in
    record { accepted = laid_accepted (4 * length ws) (length bytes) (words_of ws) bytes s; read = sym (program_is ws bytes s fit) }
