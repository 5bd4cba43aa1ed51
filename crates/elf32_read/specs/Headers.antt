-- The headers of a file (gABI, ELF Header, Program Header, Section Header).
use Rattle.std.specs.Prelude.{ℕ, ◌+◌, ◌*◌, ◌-◌, ◌/◌, ◌==◌, nat_le, nat_lt, ◌&&◌, ◌||◌, Bool, List, [], length, take, drop, bit_and, filter, find, map, Option, None, if◌then◌else◌}
use Rattle.std.specs.Option.{option_map_or}
use Rattle.elf32_read.specs.Abi.{PT_LOAD, PF_X, SHT_NOBITS, ALLOC_AND_EXECINSTR}
use Rattle.elf32_read.specs.Fields.{u16_at, u32_at, name_at, entries}
use Rattle.elf32_read.specs.Program.{Segment, Text, Section, Program}
use Rattle.elf32_read.specs.declared.header.FileHeader.{FileHeader}
use Rattle.elf32_read.specs.declared.header.ProgramHeader.{ProgramHeader}
use Rattle.elf32_read.specs.declared.header.SectionHeader.{SectionHeader}

abbrev pub file_header : List ℕ → FileHeader
file_header bytes =
    record {
      kind = u16_at bytes 16;
      machine = u16_at bytes 18;
      entry = u32_at bytes 24;
      program_headers = u32_at bytes 28;
      section_headers = u32_at bytes 32;
      flags = u32_at bytes 36;
      program_header_size = u16_at bytes 42;
      program_header_count = u16_at bytes 44;
      section_header_size = u16_at bytes 46;
      section_header_count = u16_at bytes 48;
      section_names = u16_at bytes 50;
    }

abbrev pub program_header : List ℕ → ℕ → ProgramHeader
program_header bytes at =
    record {
      place = at;
      kind = u32_at bytes at;
      offset = u32_at bytes (at + 4);
      address = u32_at bytes (at + 8);
      file_size = u32_at bytes (at + 16);
      memory_size = u32_at bytes (at + 20);
      flags = u32_at bytes (at + 24);
    }

abbrev pub section_header : List ℕ → ℕ → SectionHeader
section_header bytes at =
    record {
      place = at;
      name = u32_at bytes at;
      kind = u32_at bytes (at + 4);
      flags = u32_at bytes (at + 8);
      address = u32_at bytes (at + 12);
      offset = u32_at bytes (at + 16);
      size = u32_at bytes (at + 20);
      link = u32_at bytes (at + 24);
    }

abbrev pub program_headers : List ℕ → List ProgramHeader
program_headers bytes =
    entries (program_header bytes) (file_header bytes).program_headers 32 (file_header bytes).program_header_count

abbrev pub section_headers : List ℕ → List SectionHeader
section_headers bytes =
    entries (section_header bytes) (file_header bytes).section_headers 40 (file_header bytes).section_header_count

-- a segment to be loaded, with a size in memory
abbrev pub is_loaded : ProgramHeader → Bool
is_loaded h = (h.kind == PT_LOAD) && nat_lt 0 h.memory_size

abbrev pub loaded : List ℕ → List ProgramHeader
loaded bytes = filter is_loaded (program_headers bytes)

-- allocated and executable, with a size
abbrev pub is_text : SectionHeader → Bool
is_text h = (bit_and h.flags ALLOC_AND_EXECINSTR == ALLOC_AND_EXECINSTR) && nat_lt 0 h.size

abbrev pub text_headers : List ℕ → List SectionHeader
text_headers bytes = filter is_text (section_headers bytes)

-- what stands in the file of a section: nothing for SHT_NOBITS, and for a part that isn't in the file
abbrev pub section_bytes : List ℕ → SectionHeader → List ℕ
section_bytes bytes h =
    if (h.kind == SHT_NOBITS) || nat_lt (length bytes) (h.offset + h.size) then [] else take h.size (drop h.offset bytes)

-- the header of the section that has the names
abbrev pub names_header : List ℕ → SectionHeader
names_header bytes =
    section_header bytes ((file_header bytes).section_headers + 40 * (file_header bytes).section_names)

-- what stands in that section
abbrev pub names : List ℕ → List ℕ
names bytes = section_bytes bytes (names_header bytes)

-- a section's name; an e_shstrndx of 0 (SHN_UNDEF) says that there are none
abbrev pub name_of : List ℕ → SectionHeader → Option (List ℕ)
name_of bytes h = if (file_header bytes).section_names == 0 then None else name_at (names bytes) h.name

abbrev pub segment_of : List ℕ → ProgramHeader → Segment
segment_of bytes h =
    record {
      address = h.address;
      size = h.memory_size;
      flags = h.flags;
      bytes = take h.file_size (drop h.offset bytes);
    }

-- whether a section lies wholly in the file part of an executable segment
abbrev pub holds_text : SectionHeader → ProgramHeader → Bool
holds_text h s =
    (bit_and s.flags PF_X == PF_X) && (nat_le s.address h.address && nat_le (h.address + h.size) (s.address + s.file_size))

-- a segment's bytes from the section's address on
abbrev pub bytes_from : List ℕ → ℕ → ProgramHeader → List ℕ
bytes_from bytes addr s = drop (addr - s.address) (segment_of bytes s).bytes

-- the words of a text section, which are its segment's bytes
abbrev pub text_of : List ℕ → SectionHeader → Text
text_of bytes h =
    record {
      address = h.address;
      words = entries (u32_at (option_map_or (bytes_from bytes h.address) (find (holds_text h) (loaded bytes)) [])) 0 4 (h.size / 4);
    }

abbrev pub section_of : List ℕ → SectionHeader → Section
section_of bytes h =
    record {
      name = name_of bytes h;
      kind = h.kind;
      flags = h.flags;
      address = h.address;
      link = h.link;
      bytes = section_bytes bytes h;
    }

-- the program that a file has
unfoldable pub program_of : List ℕ → Program
program_of bytes =
    record {
      entry = (file_header bytes).entry;
      segments = map (segment_of bytes) (loaded bytes);
      text = map (text_of bytes) (text_headers bytes);
      sections = map (section_of bytes) (section_headers bytes);
    }
