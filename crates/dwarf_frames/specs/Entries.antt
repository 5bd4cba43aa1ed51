-- The entries of a section (DWARF 5, section 6.4.1 and 7.24; DWARF 2 and 3 for versions 1 and 3).
use Rattle.std.specs.Prelude.{ℕ, zero, suc, ◌+◌, ◌==◌, ◌&&◌, ◌||◌, Bool, false, List, length, take, drop, Option, Some, None, Result, Ok, Err, nat_le, nat_lt, if◌then◌else◌}
use Rattle.leb_read.specs.Leb.{number_at, text_at}
use Rattle.dwarf_frames.specs.Reading.{◌>>=◌, Read, found, read, register_at, signed_at, unsigned_at}
use Rattle.dwarf_frames.specs.declared.fault.FrameFault.{FrameFault}
use Rattle.dwarf_frames.specs.declared.fault.FrameFault.TheVariants.{Short, Version, Augmentation, Opcode}
use Rattle.dwarf_frames.specs.declared.operation.Factors.{Factors}

-- the bytes of the entry at a place, behind its length, and the next entry's place
unfoldable pub entry_at : List ℕ → ℕ → Read (List ℕ)
entry_at section at = do
  r ← read (number_at 4 section at)
  if nat_le 0xFFFFFFF0 r.0 || nat_lt (length section) (r.1 + r.0) then Err Short
      else found (take r.0 (drop r.1 section)) (r.1 + r.0)

-- entries, each with its place, and whether the section ends too early behind them
pub data Entries : Type 0 where
  Ends : Entries
  Breaks : FrameFault → Entries
  Then : ℕ → List ℕ → Entries → Entries

abbrev pub then_rest : ℕ → Read (List ℕ) → (ℕ → Entries) → Entries
then_rest at (Ok r) rest = Then at r.0 (rest r.1)
then_rest at (Err e) rest = Breaks e

-- the entries from a place on, of which there are at most as many as bytes
abbrev pub entries_from : ℕ → List ℕ → ℕ → Entries
entries_from zero section at = Ends
entries_from (suc most) section at =
    if nat_le (length section) at then Ends
    else then_rest at (entry_at section at) (entries_from most section)

unfoldable pub entries : List ℕ → Entries
entries section = entries_from (length section) section 0

-- a frame description entry (FDE): the code that it covers, and the program of its rules
pub record Fde : Type 0 where
  -- the place of its CIE
  pub cie_pointer : ℕ
  pub initial_location : ℕ
  pub address_range : ℕ
  pub program : List ℕ

-- the FDE that an entry is, or none for a common information entry (CIE)
unfoldable pub fde_of : List ℕ → Result (Option Fde) FrameFault
fde_of body = do
  id ← read (number_at 4 body 0)
  if id.0 == 0xFFFFFFFF then Ok None
      else (do
        first ← read (number_at 4 body id.1)
        range ← read (number_at 4 body first.1)
        Ok (Some (record { cie_pointer = id.0; initial_location = first.0; address_range = range.0; program = drop range.1 body })))

abbrev pub covers : Fde → ℕ → Bool
covers d pc = nat_le d.initial_location pc && nat_lt pc (d.initial_location + d.address_range)

abbrev pub is_covering : ℕ → Option Fde → Bool
is_covering pc None = false
is_covering pc (Some d) = covers d pc

-- the first FDE in the section's order that covers pc
abbrev pub covering : ℕ → Entries → Result (Option Fde) FrameFault
covering pc Ends = Ok None
covering pc (Breaks e) = Err e
covering pc (Then at body rest) = do
  d ← fde_of body
  if is_covering pc d then Ok d else covering pc rest

-- the bytes of the entry that begins at a place
abbrev pub entry_of : ℕ → Entries → Result (List ℕ) FrameFault
entry_of place Ends = Err Short
entry_of place (Breaks e) = Err e
entry_of place (Then at body rest) = if at == place then Ok body else entry_of place rest

-- what a common information entry (CIE) says for the FDEs that name it
pub record Cie : Type 0 where
  pub factors : Factors
  pub return_column : ℕ
  pub program : List ℕ

abbrev pub is_version : ℕ → Bool
is_version n = (n == 1) || ((n == 3) || (n == 4))

-- a byte that can have one value alone
unfoldable pub size_at : ℕ → List ℕ → ℕ → Result ℕ FrameFault
size_at size bytes at = do
  b ← read (number_at 1 bytes at)
  if b.0 == size then Ok b.1 else Err Version

-- in version 4: addresses have four bytes, and there are no segments
unfoldable pub sizes_at : ℕ → List ℕ → ℕ → Result ℕ FrameFault
sizes_at version bytes at =
    if version == 4 then (do
      next ← size_at 4 bytes at
      size_at 0 bytes next)
    else Ok at

-- one byte in version 1
unfoldable pub return_column_at : ℕ → List ℕ → ℕ → Read ℕ
return_column_at version bytes at =
    if version == 1 then (do
      r ← read (number_at 1 bytes at)
      if nat_lt r.0 32 then found r.0 r.1 else Err Opcode)
    else register_at bytes at

-- the fields behind the augmentation
unfoldable pub fields_of : ℕ → List ℕ → ℕ → Result Cie FrameFault
fields_of version body at = do
  behind ← sizes_at version body at
  code ← unsigned_at body behind
  offset ← signed_at body code.1
  column ← return_column_at version body offset.1
  Ok (record { factors = record { code_alignment = code.0; data_alignment = offset.0 }; return_column = column.0; program = drop column.1 body })

-- the fields behind the version
unfoldable pub versioned_of : ℕ → List ℕ → ℕ → Result Cie FrameFault
versioned_of version body at = do
  augmentation ← read (text_at body at)
  if nat_lt 0 (length augmentation.0) then Err Augmentation else fields_of version body augmentation.1

-- the CIE that an entry is
unfoldable pub cie_of : List ℕ → Result Cie FrameFault
cie_of body = do
  id ← read (number_at 4 body 0)
  if id.0 == 0xFFFFFFFF then (do
    version ← read (number_at 1 body id.1)
    if is_version version.0 then versioned_of version.0 body version.1 else Err Version)
      else Err Short

-- the FDE that begins at a place, or none for a CIE
unfoldable pub fde_at : List ℕ → ℕ → Result (Option Fde) FrameFault
fde_at section place = do
  entry ← entry_at section place
  fde_of entry.0

-- the CIE that begins at a place
unfoldable pub cie_at : List ℕ → ℕ → Result Cie FrameFault
cie_at section place = do
  entry ← entry_at section place
  cie_of entry.0
