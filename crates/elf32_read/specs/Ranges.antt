-- Where the words of text sections stand in the file.
use Rattle.std.specs.Prelude.{◌≡◌, ℕ, ◌+◌, ◌-◌, ◌%◌, ◌≤◌, ◌==◌, nat_le, ◌&&◌, not, Bool, true, false, List, length, find, bit_and}
use Rattle.std.specs.List.{list_any}
use Rattle.std.specs.Option.{option_map_or}
use Rattle.std.specs.Str.{bytes_eq}
use Rattle.elf32_read.specs.Abi.{PF_W, SHT_NOBITS}
use Rattle.elf32_read.specs.Fields.{spans, name_at}
use Rattle.elf32_read.specs.Headers.{loaded, holds_text}
use Rattle.elf32_read.specs.declared.tables.TextRange.{TextRange}
use Rattle.elf32_read.specs.declared.header.ProgramHeader.{ProgramHeader}
use Rattle.elf32_read.specs.declared.header.SectionHeader.{SectionHeader}

-- the place in the file of what is loaded at an address
abbrev pub offset_of : ℕ → ProgramHeader → ℕ
offset_of addr s = s.offset + (addr - s.address)

-- a text section's range, by the segment that holds it
abbrev pub range_in : List ProgramHeader → SectionHeader → TextRange
range_in segments h =
    record {
      address = h.address;
      size = h.size;
      offset = option_map_or (offset_of h.address) (find (holds_text h) segments) 0;
    }

abbrev pub text_range : List ℕ → SectionHeader → TextRange
text_range bytes = range_in (loaded bytes)

abbrev pub in_loaded : ℕ → ProgramHeader → Bool
in_loaded addr h = spans h.address h.memory_size addr

abbrev pub is_writable_header : ProgramHeader → Bool
is_writable_header h = bit_and h.flags PF_W == PF_W

abbrev pub in_range : ℕ → TextRange → Bool
in_range addr t = spans t.address t.size addr

-- the file part is in the file and no larger than the segment, which ends by 0xE0000000
abbrev pub segment_fits : ℕ → ProgramHeader → Bool
segment_fits size h =
    nat_le h.file_size h.memory_size
    && (nat_le (h.offset + h.file_size) size && nat_le (h.address + h.memory_size) 0xE0000000)

-- whole words in the file part of one executable segment
abbrev pub text_fits : List ProgramHeader → SectionHeader → Bool
text_fits segments h =
    ((h.address % 4 == 0) && (h.size % 4 == 0)) && (not (h.kind == SHT_NOBITS) && list_any (holds_text h) segments)

-- the file part is in the file
abbrev pub IsWithin : List ℕ → ProgramHeader → Type 0
IsWithin file h = segment_fits (length file) h ≡ true

-- the words are in the file
pub record IsRange (file : List ℕ) (t : TextRange) : Type 0 where
  pub within : t.offset + t.size ≤ length file
  pub aligned : t.address % 4 ≡ 0
  pub whole : t.size % 4 ≡ 0

-- whether a section's name in a table is this one
abbrev pub is_called : List ℕ → List ℕ → SectionHeader → Bool
is_called names name h = option_map_or (bytes_eq name) (name_at names h.name) false
