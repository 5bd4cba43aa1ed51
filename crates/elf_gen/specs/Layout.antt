-- How the files that are made are laid out (gABI, ELF Header, Section Header, String Table, Program Header).
use Rattle.std.specs.Prelude.{ℕ, ◌+◌, ◌-◌, List, [], ◌∷◌, ◌++◌}
use Rattle.std.specs.List.{flat_map}
use Rattle.byteorder.specs.Endian.{little_bytes}

-- numbers of two bytes, the lowest byte of each first (gABI, ELFDATA2LSB)
abbrev pub halves_of : List ℕ → List ℕ
halves_of ns = flat_map (little_bytes 2) ns

-- numbers of four bytes, the lowest byte of each first
abbrev pub words_of : List ℕ → List ℕ
words_of ns = flat_map (little_bytes 4) ns

-- a string table: a zero byte, then each name with its zero byte
abbrev pub string_table : List (List ℕ) → List ℕ
string_table names = 0 ∷ flat_map (λ name. name ++ 0 ∷ []) names

-- the magic, ELFCLASS32, ELFDATA2LSB, EV_CURRENT, and padding
abbrev pub ident : List ℕ
ident = 0x7F ∷ 0x45 ∷ 0x4C ∷ 0x46 ∷ 1 ∷ 1 ∷ 1 ∷ 0 ∷ 0 ∷ 0 ∷ 0 ∷ 0 ∷ 0 ∷ 0 ∷ 0 ∷ 0 ∷ []

-- the file's header, by the place and the number of its section headers: e_type, e_machine; e_version, e_entry, e_phoff,
-- e_shoff, e_flags; e_ehsize, e_phentsize, e_phnum, e_shentsize, e_shnum, and e_shstrndx, which is the last section
abbrev pub elf_header : ℕ → ℕ → List ℕ
elf_header sections count =
    ident
    ++ (halves_of (2 ∷ 243 ∷ [])
    ++ (words_of (1 ∷ 0x00010074 ∷ 52 ∷ sections ∷ 0 ∷ [])
    ++ halves_of (52 ∷ 32 ∷ 2 ∷ 40 ∷ count ∷ (count - 1) ∷ [])))

-- the program headers, by the sizes of text and data: the headers with the text at 0x10000 (R and X), the data at 0x20000
-- (R and W). Each is type, offset, address, physical address, file size, memory size, flags, alignment
abbrev pub segment_headers : ℕ → ℕ → List ℕ
segment_headers text bytes =
    words_of
    (1 ∷ 0 ∷ 0x00010000 ∷ 0x00010000 ∷ (116 + text) ∷ (116 + text) ∷ 5 ∷ 4
    ∷ 1 ∷ (116 + text) ∷ 0x00020000 ∷ 0x00020000 ∷ bytes ∷ bytes ∷ 6 ∷ 1 ∷ [])
