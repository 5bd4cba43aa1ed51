-- Bytes kept in pages.
use Rattle.std.specs.Prelude.{◌≡◌, ℕ, zero, suc, ◌+◌, ◌*◌, ◌/◌, ◌%◌, ◌^◌, ◌<◌, Bool, true, false, ◌&&◌, List, [], ◌∷◌, ◌++◌, length, slice_index, slice_index_or, slice_set, Option, Some, None, if◌then◌else◌}
use Rattle.rv_exec.specs.Memory.{Memory, Byte, with_byte, is_writable}
use Rattle.elf32_read.specs.Fields.{spans}
use Rattle.data_memory.specs.Blocks.{spot, IsBlocked}
use Rattle.data_memory.specs.Maps.{memory_below}
use Rattle.data_memory.specs.declared.access.Access.{Access}
use Rattle.data_memory.specs.declared.access.Access.TheVariants.{Absent, ReadOnly, Writable}

-- a byte, by how it may be accessed
abbrev pub byte_of : Access → ℕ → Option Byte
byte_of Absent v = None
byte_of ReadOnly v = Some (record { value = v; is_writable = false })
byte_of Writable v = Some (record { value = v; is_writable = true })

-- the bytes that have these accesses and values
unfoldable pub bytes_of : List Access → List ℕ → List (Option Byte)
bytes_of [] vs = []
bytes_of (a ∷ accesses) [] = []
bytes_of (a ∷ accesses) (v ∷ vs) = byte_of a v ∷ bytes_of accesses vs

abbrev pub byte : List (Option Byte) → ℕ → Option Byte
byte bytes i = slice_index_or bytes i None

abbrev pub byte_at : List ℕ → List (Option Byte) → ℕ → Option Byte
byte_at pages bytes addr = byte bytes (spot pages addr)

abbrev pub paged : List ℕ → List (Option Byte) → Memory
paged pages bytes = memory_below (byte_at pages bytes) (2 ^ 32)

-- each page has a frame, and only the first frame, of absent bytes, is that of several pages
abbrev pub IsPaged : List ℕ → List (Option Byte) → Type 0
IsPaged pages bytes = IsBlocked None 8388608 pages bytes

-- the number that n values from place i spell, lowest first
abbrev pub number_of : List ℕ → ℕ → ℕ → ℕ
number_of values i zero = 0
number_of values i (suc n) = slice_index values i + 256 * number_of values (i + 1) n

-- the low n bytes of v from place i on
abbrev pub with_values : List ℕ → ℕ → ℕ → ℕ → List ℕ
with_values values i zero v = values
with_values values i (suc n) v = slice_set (with_values values (i + 1) n (v / 256)) i (v % 256)

-- the number that n bytes from place i spell, lowest first, where none is absent
abbrev pub spelled : List (Option Byte) → ℕ → ℕ → Option ℕ
spelled bytes i zero = Some 0
spelled bytes i (suc n) = with_byte (byte bytes i) (spelled bytes (i + 1) n)

-- whether the n bytes from place i are writable
abbrev pub are_writable : List (Option Byte) → ℕ → ℕ → Bool
are_writable bytes i zero = true
are_writable bytes i (suc n) = is_writable (byte bytes i) && are_writable bytes (i + 1) n

-- the low n bytes of v from place i on
abbrev pub with_number_at : List (Option Byte) → ℕ → ℕ → ℕ → List (Option Byte)
with_number_at bytes i zero v = bytes
with_number_at bytes i (suc n) v = slice_set (with_number_at bytes (i + 1) n (v / 256)) i (Some (record { value = v % 256; is_writable = true }))

-- whether the n accesses from place i all are of a kind
abbrev pub all_are : (Access → Bool) → List Access → ℕ → ℕ → Bool
all_are test accesses i zero = true
all_are test accesses i (suc n) = test (slice_index_or accesses i Absent) && all_are test accesses (i + 1) n

abbrev pub may_load : Access → Bool
may_load Absent = false
may_load ReadOnly = true
may_load Writable = true

abbrev pub may_store : Access → Bool
may_store Absent = false
may_store ReadOnly = false
may_store Writable = true

-- accesses are numbered, so that those of four bytes can be compared as one word
abbrev pub code : Access → ℕ
code Absent = 0
code ReadOnly = 1
code Writable = 2

-- 512 absent bytes behind the others
pub record GrowsByFrame (old new : List (Option Byte)) : Type 0 where
  pub more : List (Option Byte)
  pub is : new ≡ old ++ more
  pub size : length more ≡ 512
  pub absent : (j : ℕ) → byte more j ≡ None

-- bytes in pages that hold what the function gives at each address
pub record Holds (pages : List ℕ) (bytes : List (Option Byte)) (f : ℕ → Option Byte) : Type 0 where
  pub kept : IsPaged pages bytes
  pub each : (q : ℕ) → q < 2 ^ 32 → byte_at pages bytes q ≡ f q

-- the bytes of the `size` addresses from `start` on replaced
abbrev pub replaced : (ℕ → Option Byte) → ℕ → ℕ → (ℕ → Option Byte) → ℕ → Option Byte
replaced f start size g q = if spans start size q then g q else f q
