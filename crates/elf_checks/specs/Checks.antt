-- The checks of a file, in their order.
use Rattle.std.specs.Prelude.{ℕ, ◌+◌, ◌*◌, ◌%◌, ◌==◌, nat_le, nat_lt, ◌&&◌, ◌||◌, not, Bool, List, [], ◌∷◌, ◌++◌, length, bit_and, map, sum_by, Option, Some, None, is_some, if◌then◌else◌, slice_index}
use Rattle.std.specs.List.{list_any}
use Rattle.elf32_read.specs.Abi.{ELFCLASS32, ELFDATA2LSB, ET_EXEC, EM_RISCV, RVC_OR_RVE, SHT_NULL, SHT_NOBITS, SHF_COMPRESSED}
use Rattle.elf32_read.specs.Fields.{name_at, spans, overlap}
use Rattle.elf32_read.specs.Headers.{file_header, loaded, text_headers, section_headers, names_header, names}
use Rattle.elf32_read.specs.Ranges.{segment_fits, text_fits}
use Rattle.elf_checks.specs.declared.fault.ElfKind.{ElfKind}
use Rattle.elf_checks.specs.declared.fault.ElfKind.TheVariants as kind
use Rattle.elf_checks.specs.declared.fault.ElfFault.{ElfFault}
use Rattle.elf32_read.specs.declared.header.FileHeader.{FileHeader}
use Rattle.elf32_read.specs.declared.header.ProgramHeader.{ProgramHeader}
use Rattle.elf32_read.specs.declared.header.SectionHeader.{SectionHeader}

-- a test of the file, and the fault where it fails
pub record Check : Type 0 where
  pub holds : Bool
  pub fault : ElfFault

abbrev pub check : Bool → ElfKind → ℕ → Check
check holds kind place = record { holds = holds; fault = record { kind = kind; place = place } }

-- the fault of the first check that fails
abbrev pub first_fault : List Check → Option ElfFault
first_fault [] = None
first_fault (c ∷ cs) = if c.holds then first_fault cs else Some c.fault

-- what each element gives, by those before it
abbrev pub by_earlier : {X Y : Type 0} → (List X → X → Y) → List X → List Y
by_earlier f [] = []
by_earlier f (x ∷ xs) = f [] x ∷ by_earlier (λ earlier. f (x ∷ earlier)) xs

-- whether the bytes begin with 7F 45 4C 46
abbrev pub is_magic : List ℕ → Bool
is_magic bytes =
    (slice_index bytes 0 == 0x7F) && ((slice_index bytes 1 == 0x45) && ((slice_index bytes 2 == 0x4C) && (slice_index bytes 3 == 0x46)))

-- the file's size (gABI, ELF Identification)
abbrev pub size_checks : List ℕ → List Check
size_checks bytes =
    check (nat_le (length bytes) 33554432) kind.Large 33554432
    ∷ check (nat_le 52 (length bytes)) kind.Short (length bytes)
    ∷ []

-- magic, class, order of bytes, type, machine and flags (gABI, ELF Header)
abbrev pub kind_checks : List ℕ → List Check
kind_checks bytes =
    let h = file_header bytes in
    check (is_magic bytes) kind.Magic 0
    ∷ check (slice_index bytes 4 == ELFCLASS32) kind.Class 4
    ∷ check (slice_index bytes 5 == ELFDATA2LSB) kind.Order 5
    ∷ check (h.kind == ET_EXEC) kind.Kind 16
    ∷ check (h.machine == EM_RISCV) kind.Machine 18
    ∷ check (bit_and h.flags RVC_OR_RVE == 0) kind.Flags 36
    ∷ []

-- the sizes of the headers, and where their tables end
abbrev pub extent_checks : List ℕ → List Check
extent_checks bytes =
    let h = file_header bytes in
    check ((h.program_header_count == 0) || (h.program_header_size == 32)) kind.Segment 42
    ∷ check ((h.section_header_count == 0) || (h.section_header_size == 40)) kind.Section 46
    ∷ check (nat_le (h.program_headers + 32 * h.program_header_count) (length bytes)) kind.Short h.program_headers
    ∷ check (nat_le (h.section_headers + 40 * h.section_header_count) (length bytes)) kind.Short h.section_headers
    ∷ []

-- the file's header
abbrev pub header_checks : List ℕ → List Check
header_checks bytes = kind_checks bytes ++ extent_checks bytes

abbrev pub segments_overlap : ProgramHeader → ProgramHeader → Bool
segments_overlap h other = overlap h.address h.memory_size other.address other.memory_size

-- a segment fits, and has no byte in common with an earlier one
abbrev pub segment_check : ℕ → List ProgramHeader → ProgramHeader → Check
segment_check size earlier h = check (segment_fits size h && not (list_any (segments_overlap h) earlier)) kind.Segment h.place

-- the sizes in memory of the segments up to this one are at most 16,777,216 together
abbrev pub memory_check : List ProgramHeader → ProgramHeader → Check
memory_check earlier h = check (nat_le (sum_by (λ s. s.memory_size) earlier + h.memory_size) 16777216) kind.Large h.place

-- two types have no part of the file (gABI, Section Header)
abbrev pub has_file_part : SectionHeader → Bool
has_file_part h = not ((h.kind == SHT_NULL) || (h.kind == SHT_NOBITS))

-- a section's part is in the file, and isn't compressed
abbrev pub section_fits : ℕ → SectionHeader → Bool
section_fits size h = not (has_file_part h) || (nat_le (h.offset + h.size) size && (bit_and h.flags SHF_COMPRESSED == 0))

abbrev pub section_check : ℕ → SectionHeader → Check
section_check size h = check (section_fits size h) kind.Section h.place

abbrev pub name_check : List ℕ → SectionHeader → Check
name_check table h = check (is_some (name_at table h.name)) kind.Section h.place

-- the section of names stands in the file, and each section's name ends in it
abbrev pub name_checks : List ℕ → List Check
name_checks bytes =
    if (file_header bytes).section_names == 0
    then []
    else (check (not ((names_header bytes).kind == SHT_NOBITS)) kind.Section (names_header bytes).place
    ∷ map (name_check (names bytes)) (section_headers bytes))

abbrev pub sections_overlap : SectionHeader → SectionHeader → Bool
sections_overlap h other = overlap h.address h.size other.address other.size

-- a text section fits, and has no byte in common with an earlier one
abbrev pub text_check : List ProgramHeader → List SectionHeader → SectionHeader → Check
text_check segments earlier h = check (text_fits segments h && not (list_any (sections_overlap h) earlier)) kind.Text h.place

abbrev pub in_section : ℕ → SectionHeader → Bool
in_section addr h = spans h.address h.size addr

-- there is text, and the entry is a multiple of 4 in it
abbrev pub entry_checks : FileHeader → List SectionHeader → List Check
entry_checks h texts =
    check (nat_lt 0 (length texts)) kind.Text h.section_headers
    ∷ check ((h.entry % 4 == 0) && list_any (in_section h.entry) texts) kind.Entry 24
    ∷ []

-- the checks of the tables: the segments, the sum of their sizes, the sections, their names, the text
abbrev pub table_checks : List ℕ → List Check
table_checks bytes =
    let h = file_header bytes in
    by_earlier (segment_check (length bytes)) (loaded bytes)
    ++ (by_earlier memory_check (loaded bytes)
    ++ (check ((h.section_names == 0) || nat_lt h.section_names h.section_header_count) kind.Section 50
    ∷ map (section_check (length bytes)) (section_headers bytes)
    ++ (name_checks bytes
    ++ (by_earlier (text_check (loaded bytes)) (text_headers bytes)
    ++ entry_checks h (text_headers bytes)))))

-- all checks of a file, in their order
abbrev pub checks : List ℕ → List Check
checks bytes = size_checks bytes ++ (header_checks bytes ++ table_checks bytes)

-- the first fault of a file
unfoldable pub fault_of : List ℕ → Option ElfFault
fault_of bytes = first_fault (checks bytes)
