-- A file of words of text and bytes of data alone.
use Rattle.std.specs.Prelude.{ℕ, ◌+◌, ◌*◌, ◌^◌, ◌<◌, ◌≤◌, nat_lt, Bool, List, [], ◌∷◌, ◌++◌, length, codes, Some, if◌then◌else◌}
use Rattle.elf32_read.specs.Program.{Program, Section}
use Rattle.elf_gen.specs.Layout.{words_of, string_table, elf_header, segment_headers}

-- the names, at 1, 7 and 13
abbrev pub plain_names : List ℕ
plain_names = string_table (codes ".text" ∷ codes ".data" ∷ codes ".shstrtab" ∷ [])

-- each section is name, type, flags, address, offset, size, link, info, alignment, entry size
abbrev pub plain_sections : ℕ → ℕ → List ℕ
plain_sections text bytes =
    words_of
    (0 ∷ 0 ∷ 0 ∷ 0 ∷ 0 ∷ 0 ∷ 0 ∷ 0 ∷ 0 ∷ 0
    ∷ 1 ∷ 1 ∷ 6 ∷ 0x00010074 ∷ 116 ∷ text ∷ 0 ∷ 0 ∷ 4 ∷ 0
    ∷ 7 ∷ 1 ∷ 3 ∷ 0x00020000 ∷ (116 + text) ∷ bytes ∷ 0 ∷ 0 ∷ 1 ∷ 0
    ∷ 13 ∷ 3 ∷ 0 ∷ 0 ∷ (116 + text + bytes) ∷ 23 ∷ 0 ∷ 0 ∷ 1 ∷ 0 ∷ [])

-- the headers, the text at 116, the data, the names, the section headers
abbrev pub plain_file : List ℕ → List ℕ → List ℕ
plain_file words bytes =
    let text = 4 * length words in
    elf_header (139 + text + length bytes) 4
    ++ (segment_headers text (length bytes)
    ++ (words_of words
    ++ (bytes
    ++ (plain_names
    ++ plain_sections text (length bytes)))))

-- fewer than 2^32 bytes, so each place in the file is a number of 32 bits: 299 stand beside the text and the data
abbrev pub fits : List ℕ → List ℕ → Bool
fits words bytes = nat_lt (299 + 4 * length words + length bytes) (2 ^ 32)

-- a section that is linked with none, by its name, type, flags, address and bytes
abbrev pub section : List ℕ → ℕ → ℕ → ℕ → List ℕ → Section
section name kind flags address bytes =
    record { name = Some name; kind = kind; flags = flags; address = address; link = 0; bytes = bytes }

-- words and bytes of a program: there is a word, the text ends by 0x20000, and both fit the 16 MiB of a program
pub record IsPlain (words bytes : List ℕ) : Type 0 where
  pub some : 0 < length words
  pub below : 116 + 4 * length words ≤ 0x10000
  pub memory : 116 + 4 * length words + length bytes ≤ 16777216

-- the program that it is: its words begin behind the headers, and the segment of its data is there where it has a byte
abbrev pub plain_program : List ℕ → List ℕ → Program
plain_program words bytes =
    let text = 4 * length words in
    record {
      entry = 0x00010074;
      segments =
          record {
            address = 0x00010000;
            size = 116 + text;
            flags = 5;
            bytes = (elf_header (139 + text + length bytes) 4 ++ segment_headers text (length bytes)) ++ words_of words;
          }
          ∷ (if nat_lt 0 (length bytes)
          then (record { address = 0x00020000; size = length bytes; flags = 6; bytes = bytes } ∷ [])
          else []);
      text = record { address = 0x00010074; words = words } ∷ [];
      sections =
          section [] 0 0 0 []
          ∷ section (codes ".text") 1 6 0x00010074 (words_of words)
          ∷ section (codes ".data") 1 3 0x00020000 bytes
          ∷ section (codes ".shstrtab") 3 0 0 plain_names
          ∷ [];
    }
