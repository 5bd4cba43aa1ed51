-- What an index of a section keeps: where the CIEs begin, and the addresses of the FDEs with their places.
use Rattle.std.specs.Prelude.{ℕ, ◌+◌, ◌==◌, Bool, false, List, [], ◌∷◌, ◌++◌, Option, None, Some, Result, Ok, Err, if◌then◌else◌}
use Rattle.leb_read.specs.Leb as leb
use Rattle.address_tables.specs.declared.entry.AddressRange.{AddressRange}
use Rattle.dwarf_frames.specs.Entries.{Entries, Ends, Breaks, Then, Fde, fde_at, fde_of}
use Rattle.dwarf_frames.specs.declared.fault.FrameFault.{FrameFault}

-- whether an entry begins as a CIE does
abbrev pub is_cie_id : leb.Read ℕ → Bool
is_cie_id (Ok id) = id.0 == 0xFFFFFFFF
is_cie_id (Err e) = false

abbrev pub is_cie : List ℕ → Bool
is_cie body = is_cie_id (leb.number_at 4 body 0)

-- the place of an entry, if it is a CIE
abbrev pub cie_list : ℕ → List ℕ → List ℕ
cie_list at body = if is_cie body then at ∷ [] else []

-- the places of the CIEs
abbrev pub cie_places : Entries → List ℕ
cie_places Ends = []
cie_places (Breaks e) = []
cie_places (Then at body rest) = cie_list at body ++ cie_places rest

-- the addresses of an FDE, and its place
abbrev pub fde_list : ℕ → Option Fde → List (AddressRange ℕ)
fde_list at None = []
fde_list at (Some d) = record { begin = d.initial_location; end = d.initial_location + d.address_range; value = at } ∷ []

abbrev pub unless_faulty : ℕ → Result (Option Fde) FrameFault → List (AddressRange ℕ) → List (AddressRange ℕ)
unless_faulty at (Err e) rest = []
unless_faulty at (Ok d) rest = fde_list at d ++ rest

-- the addresses of the FDEs up to the first fault
abbrev pub fde_ranges : Entries → List (AddressRange ℕ)
fde_ranges Ends = []
fde_ranges (Breaks e) = []
fde_ranges (Then at body rest) = unless_faulty at (fde_of body) (fde_ranges rest)

abbrev pub fault_or : Result (Option Fde) FrameFault → Option FrameFault → Option FrameFault
fault_or (Err e) rest = Some e
fault_or (Ok d) rest = rest

-- the first fault that is met where no FDE is looked for
abbrev pub first_fault : Entries → Option FrameFault
first_fault Ends = None
first_fault (Breaks e) = Some e
first_fault (Then at body rest) = fault_or (fde_of body) (first_fault rest)

-- the FDE whose place is told
abbrev pub fde_told : List ℕ → Result (Option ℕ) FrameFault → Result (Option Fde) FrameFault
fde_told section (Ok (Some place)) = fde_at section place
fde_told section (Ok None) = Ok None
fde_told section (Err e) = Err e
