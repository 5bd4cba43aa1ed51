-- A file whose harts add to one counter, with its symbols and what a debugger reads of its function `work`.
use Rattle.std.specs.Prelude.{ℕ, List, [], ◌∷◌, ◌++◌, codes, Some}
use Rattle.elf32_read.specs.Program.{Program}
use Rattle.elf_gen.specs.Layout.{words_of, string_table, elf_header, segment_headers}
use Rattle.elf_gen.specs.Plain.{section}

-- `_start`: a1 = [0x20004], call `work`, exit by 93 with 0. `work`: a loop of amoadd.w on [0x20000], a1 times
abbrev pub counting_words : List ℕ
counting_words =
    0x00020737 ∷ 0x00472583 ∷ 0x010000EF ∷ 0x05D00893 ∷ 0x00000513 ∷ 0x00000073
    ∷ 0xFF010113 ∷ 0x00112623 ∷ 0x00020637 ∷ 0x00100693 ∷ 0x00D6252F ∷ 0xFFF58593 ∷ 0xFE059CE3
    ∷ 0x00C12083 ∷ 0x01010113 ∷ 0x00008067 ∷ []

-- an entry of the symbol table: name, value, size; info, other; section
abbrev pub symbol : ℕ → ℕ → ℕ → ℕ → ℕ → List ℕ
symbol name value size info section = words_of (name ∷ value ∷ size ∷ []) ++ info ∷ 0 ∷ section ∷ 0 ∷ []

-- the global functions (0x12) `_start` and `work` of section 1, and the global objects (0x11) `count` and `limit` of section 2
abbrev pub symbols : List ℕ
symbols =
    symbol 0 0 0 0 0
    ++ (symbol 1 0x00010074 24 0x12 1
    ++ (symbol 8 0x0001008C 40 0x12 1
    ++ (symbol 13 0x00020000 4 0x11 2
    ++ symbol 19 0x00020004 4 0x11 2)))

abbrev pub symbol_strings : List ℕ
symbol_strings = string_table (codes "_start" ∷ codes "work" ∷ codes "count" ∷ codes "limit" ∷ [])

-- the rows of `work` in count.c, lines 10 to 14 (DWARF 4, Line Number Information)
abbrev pub line_bytes : List ℕ
line_bytes =
    0x38 ∷ 0x00 ∷ 0x00 ∷ 0x00 ∷ 0x04 ∷ 0x00 ∷ 0x1F ∷ 0x00 ∷ 0x00 ∷ 0x00 ∷ 0x01 ∷ 0x01 ∷ 0x01 ∷ 0xFB ∷ 0x0E
    ∷ 0x0D ∷ 0x00 ∷ 0x01 ∷ 0x01 ∷ 0x01 ∷ 0x01 ∷ 0x00 ∷ 0x00 ∷ 0x00 ∷ 0x01 ∷ 0x00 ∷ 0x00 ∷ 0x01 ∷ 0x00 ∷ 0x63
    ∷ 0x6F ∷ 0x75 ∷ 0x6E ∷ 0x74 ∷ 0x2E ∷ 0x63 ∷ 0x00 ∷ 0x00 ∷ 0x00 ∷ 0x00 ∷ 0x00 ∷ 0x00 ∷ 0x05 ∷ 0x02 ∷ 0x8C
    ∷ 0x00 ∷ 0x01 ∷ 0x00 ∷ 0x03 ∷ 0x09 ∷ 0x01 ∷ 0x83 ∷ 0x83 ∷ 0x4B ∷ 0x83 ∷ 0x02 ∷ 0x0C ∷ 0x00 ∷ 0x01 ∷ 0x01 ∷ []

-- where `work` keeps its caller's registers (DWARF 4, Call Frame Information)
abbrev pub frame_bytes : List ℕ
frame_bytes =
    0x0C ∷ 0x00 ∷ 0x00 ∷ 0x00 ∷ 0xFF ∷ 0xFF ∷ 0xFF ∷ 0xFF ∷ 0x03 ∷ 0x00 ∷ 0x01 ∷ 0x7C ∷ 0x01 ∷ 0x0C ∷ 0x02 ∷ 0x00
    ∷ 0x18 ∷ 0x00 ∷ 0x00 ∷ 0x00 ∷ 0x00 ∷ 0x00 ∷ 0x00 ∷ 0x00 ∷ 0x8C ∷ 0x00 ∷ 0x01 ∷ 0x00 ∷ 0x28 ∷ 0x00 ∷ 0x00 ∷ 0x00
    ∷ 0x44 ∷ 0x0E ∷ 0x10 ∷ 0x44 ∷ 0x81 ∷ 0x01 ∷ 0x58 ∷ 0xC1 ∷ 0x44 ∷ 0x0E ∷ 0x00 ∷ 0x00 ∷ []

abbrev pub section_names : List ℕ
section_names =
    string_table
    (codes ".text" ∷ codes ".data" ∷ codes ".symtab" ∷ codes ".strtab" ∷ codes ".debug_line" ∷ codes ".debug_frame"
    ∷ codes ".shstrtab" ∷ [])

-- each section is name, type, flags, address, offset, size, link, info, alignment, entry size
abbrev pub generated_sections : List ℕ
generated_sections =
    words_of
    (0 ∷ 0 ∷ 0 ∷ 0 ∷ 0 ∷ 0 ∷ 0 ∷ 0 ∷ 0 ∷ 0
    ∷ 1 ∷ 1 ∷ 6 ∷ 0x00010074 ∷ 116 ∷ 64 ∷ 0 ∷ 0 ∷ 4 ∷ 0
    ∷ 7 ∷ 1 ∷ 3 ∷ 0x00020000 ∷ 180 ∷ 8 ∷ 0 ∷ 0 ∷ 1 ∷ 0
    ∷ 13 ∷ 2 ∷ 0 ∷ 0 ∷ 188 ∷ 80 ∷ 4 ∷ 1 ∷ 4 ∷ 16
    ∷ 21 ∷ 3 ∷ 0 ∷ 0 ∷ 268 ∷ 25 ∷ 0 ∷ 0 ∷ 1 ∷ 0
    ∷ 29 ∷ 1 ∷ 0 ∷ 0 ∷ 293 ∷ 60 ∷ 0 ∷ 0 ∷ 1 ∷ 0
    ∷ 41 ∷ 1 ∷ 0 ∷ 0 ∷ 353 ∷ 44 ∷ 0 ∷ 0 ∷ 1 ∷ 0
    ∷ 54 ∷ 3 ∷ 0 ∷ 0 ∷ 397 ∷ 64 ∷ 0 ∷ 0 ∷ 1 ∷ 0 ∷ [])

-- what follows the data
abbrev pub debug_bytes : List ℕ
debug_bytes = symbols ++ (symbol_strings ++ (line_bytes ++ (frame_bytes ++ (section_names ++ generated_sections))))

-- the file whose counter goes up by `number` for each hart
abbrev pub generated_file : ℕ → List ℕ
generated_file number =
    elf_header 461 8 ++ (segment_headers 64 8 ++ (words_of counting_words ++ (words_of (0 ∷ number ∷ []) ++ debug_bytes)))

-- the program that it is: two words of data, the counter and `number`
abbrev pub generated_program : ℕ → Program
generated_program number =
    record {
      entry = 0x00010074;
      segments =
          record {
            address = 0x00010000;
            size = 180;
            flags = 5;
            bytes = elf_header 461 8 ++ (segment_headers 64 8 ++ words_of counting_words);
          }
          ∷ record { address = 0x00020000; size = 8; flags = 6; bytes = words_of (0 ∷ number ∷ []) }
          ∷ [];
      text = record { address = 0x00010074; words = counting_words } ∷ [];
      sections =
          section [] 0 0 0 []
          ∷ section (codes ".text") 1 6 0x00010074 (words_of counting_words)
          ∷ section (codes ".data") 1 3 0x00020000 (words_of (0 ∷ number ∷ []))
          ∷ record { name = Some (codes ".symtab"); kind = 2; flags = 0; address = 0; link = 4; bytes = symbols }
          ∷ section (codes ".strtab") 3 0 0 symbol_strings
          ∷ section (codes ".debug_line") 1 0 0 line_bytes
          ∷ section (codes ".debug_frame") 1 0 0 frame_bytes
          ∷ section (codes ".shstrtab") 3 0 0 section_names
          ∷ [];
    }
