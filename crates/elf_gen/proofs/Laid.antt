-- What stands where in a file of text and data alone.
use Rattle.std.proofs.Common.{◌≡◌, ℕ, ◌+◌, ◌*◌, ◌%◌, ◌^◌, ◌<◌, ◌≤◌, true, List, [], ◌∷◌, ◌++◌, length, drop, refl, sym, ap, ◌∙◌, subst, arith, length-append, append_assoc, lt-ltb, add-zero}
use Rattle.std.specs.Prelude.{nat_lt, if◌then◌else◌}
use Rattle.std.proofs.Math.Seq.{drop-append-add}
use Rattle.byteorder.specs.Endian.{little_number, little_bytes}
use Rattle.byteorder.specs.Numbers.{little_number-reads_back}
use Rattle.elf32_read.specs.Fields.{u16_at, u32_at, entries}
use Rattle.elf32_read.specs.Headers.{file_header, program_header, section_header, program_headers, section_headers, loaded}
use Rattle.elf32_read.specs.declared.header.FileHeader.{FileHeader}
use Rattle.elf32_read.specs.declared.header.ProgramHeader.{ProgramHeader}
use Rattle.elf32_read.specs.declared.header.SectionHeader.{SectionHeader}
use Rattle.elf_gen.specs.Layout.{elf_header, segment_headers}
use Rattle.elf_gen.specs.Plain.{plain_names, plain_sections}

-- the headers, the text, the data, the names and the section headers, for any bytes of text and data
abbrev pub laid : ℕ → ℕ → List ℕ → List ℕ → List ℕ
laid t b text bytes =
    elf_header (139 + t + b) 4
    ++ (segment_headers t b
    ++ (text
    ++ (bytes
    ++ (plain_names
    ++ plain_sections t b))))

-- the limits of text and data
pub record Sizes (t b : ℕ) (text bytes : List ℕ) : Type 0 where
  pub text_size : length text ≡ t
  pub bytes_size : length bytes ≡ b
  pub some : 0 < t
  pub whole : t % 4 ≡ 0
  pub below : 116 + t ≤ 65536
  pub memory : 116 + t + b ≤ 16777216

-- what stands before the section headers
abbrev pub before : ℕ → ℕ → List ℕ → List ℕ → List ℕ
before t b text bytes = (elf_header (139 + t + b) 4 ++ segment_headers t b) ++ (text ++ (bytes ++ plain_names))

regrouped : (a w d n s : List ℕ) → a ++ (w ++ (d ++ (n ++ s))) ≡ (a ++ (w ++ (d ++ n))) ++ s
regrouped a w d n s = simp append_assoc

pub split : (t b : ℕ) (text bytes : List ℕ) → laid t b text bytes ≡ before t b text bytes ++ plain_sections t b
split t b text bytes =
    regrouped (elf_header (139 + t + b) 4 ++ segment_headers t b) text bytes plain_names (plain_sections t b)

pub length-before : (t b : ℕ) (text bytes : List ℕ) → Sizes t b text bytes → length (before t b text bytes) ≡ 139 + t + b
length-before t b text bytes s =
    let front : length (elf_header (139 + t + b) 4 ++ segment_headers t b) ≡ 116 = refl in
    let names : length plain_names ≡ 23 = refl in
    let a = length-append (elf_header (139 + t + b) 4 ++ segment_headers t b) (text ++ (bytes ++ plain_names)) in
    let c = length-append text (bytes ++ plain_names) in
    let d = length-append bytes plain_names in
    omega (arith, front, names, a, c, d, s.text_size, s.bytes_size)

pub length-laid : (t b : ℕ) (text bytes : List ℕ) → Sizes t b text bytes → length (laid t b text bytes) ≡ 299 + t + b
length-laid t b text bytes s =
    let e = ap length (split t b text bytes) in
    let a = length-append (before t b text bytes) (plain_sections t b) in
    let rows : length (plain_sections t b) ≡ 160 = refl in
    let p = length-before t b text bytes s in
    omega (arith, e, a, rows, p)

-- a number reads back from its bytes
reads : (n : ℕ) → n < 256 ^ 4 → little_number 4 (little_bytes 4 n) ≡ n
reads n h = little_number-reads_back 4 n [] h

-- the one number of the header that the sizes decide
pub place_read : (t b : ℕ) (text bytes : List ℕ) → Sizes t b text bytes → u32_at (laid t b text bytes) 32 ≡ 139 + t + b
unfolding u32_at
place_read t b text bytes s = reads (139 + t + b) (omega (arith, s.memory))

abbrev pub text_segment : ℕ → ProgramHeader
text_segment t =
    record { place = 52; kind = 1; offset = 0; address = 0x10000; file_size = 116 + t; memory_size = 116 + t; flags = 5 }

abbrev pub data_segment : ℕ → ℕ → ProgramHeader
data_segment t b =
    record { place = 84; kind = 1; offset = 116 + t; address = 0x20000; file_size = b; memory_size = b; flags = 6 }

text_segment_read : (t b : ℕ) (text bytes : List ℕ) → Sizes t b text bytes → program_header (laid t b text bytes) 52 ≡ text_segment t
unfolding u32_at
text_segment_read t b text bytes s =
    let file : u32_at (laid t b text bytes) 68 ≡ 116 + t = reads (116 + t) (omega (arith, s.memory)) in
    let memory : u32_at (laid t b text bytes) 72 ≡ 116 + t = reads (116 + t) (omega (arith, s.memory)) in
    let row : ℕ → ℕ → ProgramHeader =
    λ f m. record { place = 52; kind = 1; offset = 0; address = 0x10000; file_size = f; memory_size = m; flags = 5 } in
    ap (λ f. row f (u32_at (laid t b text bytes) 72)) file ∙ ap (row (116 + t)) memory

data_segment_read : (t b : ℕ) (text bytes : List ℕ) → Sizes t b text bytes → program_header (laid t b text bytes) 84 ≡ data_segment t b
unfolding u32_at
data_segment_read t b text bytes s =
    let offset : u32_at (laid t b text bytes) 88 ≡ 116 + t = reads (116 + t) (omega (arith, s.memory)) in
    let file : u32_at (laid t b text bytes) 100 ≡ b = reads b (omega (arith, s.memory)) in
    let memory : u32_at (laid t b text bytes) 104 ≡ b = reads b (omega (arith, s.memory)) in
    let row : ℕ → ℕ → ℕ → ProgramHeader =
    λ o f m. record { place = 84; kind = 1; offset = o; address = 0x20000; file_size = f; memory_size = m; flags = 6 } in
    ap (λ o. row o (u32_at (laid t b text bytes) 100) (u32_at (laid t b text bytes) 104)) offset
    ∙ ap (λ f. row (116 + t) f (u32_at (laid t b text bytes) 104)) file
    ∙ ap (row (116 + t) b) memory

pub program_headers_are : (t b : ℕ) (text bytes : List ℕ) → Sizes t b text bytes
    → program_headers (laid t b text bytes) ≡ text_segment t ∷ data_segment t b ∷ []
unfolding u16_at u32_at
program_headers_are t b text bytes s =
    ap (λ (h : ProgramHeader). h ∷ program_header (laid t b text bytes) 84 ∷ []) (text_segment_read t b text bytes s)
    ∙ ap (λ (h : ProgramHeader). text_segment t ∷ h ∷ []) (data_segment_read t b text bytes s)

-- a segment without bytes isn't loaded
abbrev pub data_loaded : ℕ → ℕ → List ProgramHeader
data_loaded t b = if nat_lt 0 b then data_segment t b ∷ [] else []

pub loaded_are : (t b : ℕ) (text bytes : List ℕ) → Sizes t b text bytes
    → loaded (laid t b text bytes) ≡ text_segment t ∷ data_loaded t b
loaded_are t b text bytes s =
    let some : nat_lt 0 (116 + t) ≡ true = lt-ltb 0 (116 + t) (omega arith) in
    rw (program_headers_are t b text bytes s, some) refl

pub file_header_is : (t b : ℕ) (text bytes : List ℕ) → Sizes t b text bytes
    → file_header (laid t b text bytes)
    ≡ record {
      kind = 2;
      machine = 243;
      entry = 0x10074;
      program_headers = 52;
      section_headers = 139 + t + b;
      flags = 0;
      program_header_size = 32;
      program_header_count = 2;
      section_header_size = 40;
      section_header_count = 4;
      section_names = 3;
    }
unfolding u16_at u32_at
file_header_is t b text bytes s =
    let row : ℕ → FileHeader =
    λ n. record { kind = 2; machine = 243; entry = 0x10074; program_headers = 52; section_headers = n; flags = 0; program_header_size = 32; program_header_count = 2; section_header_size = 40; section_header_count = 4; section_names = 3 } in
    ap row (place_read t b text bytes s)

pub u32_at-past : (p s : List ℕ) (n at : ℕ) → at ≡ length p + n → u32_at (p ++ s) at ≡ u32_at s n
unfolding u32_at
u32_at-past p s n at e =
    let d : drop at (p ++ s) ≡ drop n s = rw e (drop-append-add p s n) in ap (little_number 4) d

-- a header of a table that stands behind other bytes
pub section_header-past : (p s : List ℕ) (n at : ℕ) → at ≡ length p + n → section_header (p ++ s) at ≡ record (section_header s n) { place = at }
section_header-past p s n at e =
    let name = u32_at-past p s n at e in
    let kind = u32_at-past p s (n + 4) (at + 4) (omega arith) in
    let flags = u32_at-past p s (n + 8) (at + 8) (omega arith) in
    let address = u32_at-past p s (n + 12) (at + 12) (omega arith) in
    let offset = u32_at-past p s (n + 16) (at + 16) (omega arith) in
    let size = u32_at-past p s (n + 20) (at + 20) (omega arith) in
    let link = u32_at-past p s (n + 24) (at + 24) (omega arith) in
    cc

-- the sections' headers, by where their table stands
abbrev pub no_section : ℕ → SectionHeader
no_section at = record { place = at; name = 0; kind = 0; flags = 0; address = 0; offset = 0; size = 0; link = 0 }

abbrev pub text_section : ℕ → ℕ → SectionHeader
text_section at t =
    record { place = at + 40; name = 1; kind = 1; flags = 6; address = 0x10074; offset = 116; size = t; link = 0 }

abbrev pub data_section : ℕ → ℕ → ℕ → SectionHeader
data_section at t b =
    record { place = at + 80; name = 7; kind = 1; flags = 3; address = 0x20000; offset = 116 + t; size = b; link = 0 }

abbrev pub names_section : ℕ → ℕ → ℕ → SectionHeader
names_section at t b =
    record { place = at + 120; name = 13; kind = 3; flags = 0; address = 0; offset = 116 + t + b; size = 23; link = 0 }

abbrev pub section_rows : ℕ → ℕ → List SectionHeader
section_rows t b =
    let at = 139 + t + b in no_section at ∷ text_section at t ∷ data_section at t b ∷ names_section at t b ∷ []

text_row : (t b : ℕ) → t < 256 ^ 4 → section_header (plain_sections t b) 40 ≡ text_section 0 t
unfolding u32_at
text_row t b h =
    let size : u32_at (plain_sections t b) 60 ≡ t = reads t h in
    ap (λ (n : ℕ). text_section 0 n) size

data_row : (t b : ℕ) → 116 + t < 256 ^ 4 → b < 256 ^ 4 → section_header (plain_sections t b) 80 ≡ data_section 0 t b
unfolding u32_at
data_row t b h i =
    let offset : u32_at (plain_sections t b) 96 ≡ 116 + t = reads (116 + t) h in
    let size : u32_at (plain_sections t b) 100 ≡ b = reads b i in
    let row : ℕ → ℕ → SectionHeader =
    λ o n. record { place = 80; name = 7; kind = 1; flags = 3; address = 0x20000; offset = o; size = n; link = 0 } in
    ap (λ o. row o (u32_at (plain_sections t b) 100)) offset ∙ ap (row (116 + t)) size

names_row : (t b : ℕ) → 116 + t + b < 256 ^ 4 → section_header (plain_sections t b) 120 ≡ names_section 0 t b
unfolding u32_at
names_row t b h =
    let offset : u32_at (plain_sections t b) 136 ≡ 116 + t + b = reads (116 + t + b) h in
    let row : ℕ → SectionHeader =
    λ o. record { place = 120; name = 13; kind = 3; flags = 0; address = 0; offset = o; size = 23; link = 0 } in
    ap row offset

moved : (h g : SectionHeader) (at : ℕ) → h ≡ g → record h { place = at } ≡ record g { place = at }
moved h g at e = ap (λ (x : SectionHeader). record x { place = at }) e

-- a row of the table, in the file
row_read : (t b : ℕ) (text bytes : List ℕ) (n at : ℕ) (h : SectionHeader) → Sizes t b text bytes → at ≡ 139 + t + b + n
    → section_header (plain_sections t b) n ≡ h → section_header (laid t b text bytes) at ≡ record h { place = at }
row_read t b text bytes n at h s e row =
    let P : List ℕ → Type 0 = λ file. section_header file at ≡ record h { place = at } in
    subst P (sym (split t b text bytes))
    (section_header-past (before t b text bytes) (plain_sections t b) n at (omega (arith, length-before t b text bytes s)) ∙ moved _ _ at row)

no_row : (t b : ℕ) → section_header (plain_sections t b) 0 ≡ no_section 0
unfolding u32_at
no_row t b = refl

pub names_header_is : (t b : ℕ) (text bytes : List ℕ) (at : ℕ) → Sizes t b text bytes → at ≡ 139 + t + b + 120
    → section_header (laid t b text bytes) at ≡ record (names_section 0 t b) { place = at }
names_header_is t b text bytes at s e = row_read t b text bytes 120 at _ s e (names_row t b (omega (arith, s.memory)))

pub section_headers_are : (t b : ℕ) (text bytes : List ℕ) → Sizes t b text bytes → section_headers (laid t b text bytes) ≡ section_rows t b
unfolding u16_at
section_headers_are t b text bytes s =
    let at = 139 + t + b in
    let file = laid t b text bytes in
    let small : 116 + t + b < 256 ^ 4 = omega (arith, s.memory) in
    let none = row_read t b text bytes 0 (at + 40 * 0) _ s (omega arith) (no_row t b) in
    let text_is = row_read t b text bytes 40 (at + 40 * 1) _ s (omega arith) (text_row t b (omega arith)) in
    let data_is = row_read t b text bytes 80 (at + 40 * 2) _ s (omega arith) (data_row t b (omega arith) (omega arith)) in
    let names_is = names_header_is t b text bytes (at + 40 * 3) s (omega arith) in
    let rows : ℕ → List SectionHeader = λ n. entries (section_header file) n 40 4 in
    ap rows (place_read t b text bytes s) ∙ rw (none, text_is, data_is, names_is, add-zero at) refl
