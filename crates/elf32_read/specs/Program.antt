-- A linked program, as its file gives it.
use Rattle.std.specs.Prelude.{◌≡◌, ℕ, ◌+◌, ◌-◌, ◌*◌, ◌/◌, ◌%◌, ◌^◌, ◌<◌, ◌≤◌, ◌==◌, ◌&&◌, not, Bool, false, IsTrue, List, length, sum_by, All, AllPairs, bit_and, slice_get, slice_index, Option, None, option_and_then, find, if◌then◌else◌}
use Rattle.std.specs.List.{list_any}
use Rattle.std.specs.Option.{option_map, option_map_or}
use Rattle.std.specs.Str.{bytes_eq}
use Rattle.elf32_read.specs.Abi.{PF_W}
use Rattle.elf32_read.specs.Fields.{spans, overlap}

-- a loadable segment (gABI, Program Header, PT_LOAD)
pub record Segment : Type 0 where
  pub address : ℕ
  -- in memory
  pub size : ℕ
  -- 1 executable, 2 writable, 4 readable
  pub flags : ℕ
  -- the part that stands in the file, from its address on; the rest of its size is zero
  pub bytes : List ℕ

-- the words of one text section
pub record Text : Type 0 where
  pub address : ℕ
  pub words : List ℕ

-- a section (gABI, Sections)
pub record Section : Type 0 where
  -- without its zero byte; none where the file names no sections
  pub name : Option (List ℕ)
  pub kind : ℕ
  pub flags : ℕ
  pub address : ℕ
  pub link : ℕ
  -- what stands in the file
  pub bytes : List ℕ

pub record Program : Type 0 where
  pub entry : ℕ
  pub segments : List Segment
  pub text : List Text
  pub sections : List Section

abbrev pub in_segment : ℕ → Segment → Bool
in_segment addr s = spans s.address s.size addr

abbrev pub in_words : ℕ → Text → Bool
in_words addr t = spans t.address (4 * length t.words) addr

-- the byte of a segment at an address
abbrev pub byte_of : ℕ → Segment → ℕ
byte_of addr s = slice_index s.bytes (addr - s.address)

-- the byte that is loaded at an address
abbrev pub mapped : Program → ℕ → Option ℕ
mapped p addr = option_map (byte_of addr) (find (in_segment addr) p.segments)

-- whether an address is a byte of text
abbrev pub in_text : Program → ℕ → Bool
in_text p addr = list_any (in_words addr) p.text

-- the word of text at an address; none at one that isn't a multiple of 4
abbrev pub text_word : Program → ℕ → Option ℕ
text_word p addr = if addr % 4 == 0 then option_and_then (λ t. slice_get t.words ((addr - t.address) / 4)) (find (in_words addr) p.text) else None

-- by its flags
abbrev pub is_writable : Segment → Bool
is_writable s = bit_and s.flags PF_W == PF_W

-- whether the program may write the byte at an address: it isn't text, and its segment is writable
abbrev pub writable : Program → ℕ → Bool
writable p addr = option_map_or is_writable (find (in_segment addr) p.segments) false && not (in_text p addr)

abbrev pub is_named : List ℕ → Section → Bool
is_named name s = option_map_or (bytes_eq name) s.name false

-- what stands in the file of the first section of a name
abbrev pub section : Program → List ℕ → Option (List ℕ)
section p name = option_map (λ s. s.bytes) (find (is_named name) p.sections)

-- a segment ends by 0xE0000000 and is as large as its file part at least
pub record IsSegment (s : Segment) : Type 0 where
  pub some : 0 < s.size
  pub filled : length s.bytes ≤ s.size
  pub below : s.address + s.size ≤ 0xE0000000
  pub bytes : All (λ b. b < 256) s.bytes

-- a text section has whole words at a multiple of 4
pub record IsText (t : Text) : Type 0 where
  pub some : 0 < length t.words
  pub aligned : t.address % 4 ≡ 0
  pub below : t.address + 4 * length t.words ≤ 0xE0000000
  pub words : All (λ w. w < 2 ^ 32) t.words

-- no byte is in two segments
abbrev pub Apart : Segment → Segment → Type 0
Apart a b = overlap a.address a.size b.address b.size ≡ false

-- no byte is in two text sections
abbrev pub TextApart : Text → Text → Type 0
TextApart a b = overlap a.address (4 * length a.words) b.address (4 * length b.words) ≡ false

-- what each accepted program keeps
pub record IsLinked (p : Program) : Type 0 where
  pub segments : All IsSegment p.segments
  pub apart : AllPairs Apart p.segments
  pub total : sum_by (λ s. s.size) p.segments ≤ 16777216
  pub text : All IsText p.text
  pub text_apart : AllPairs TextApart p.text
  pub aligned : p.entry % 4 ≡ 0
  pub entered : IsTrue (in_text p p.entry)
