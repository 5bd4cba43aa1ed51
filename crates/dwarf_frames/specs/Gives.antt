-- What readers give that lend a part of the bytes.
use Rattle.std.specs.Prelude.{◌≡◌, Option, Some, None, Result, Ok, Err}
use Rattle.dwarf_frames.specs.Entries as entries
use Rattle.dwarf_frames.specs.declared.fault.FrameFault.{FrameFault}
use Rattle.dwarf_frames.specs.declared.entry.Cie.{Cie}
use Rattle.dwarf_frames.specs.declared.entry.Fde.{Fde}

abbrev pub seen_fde : Fde → entries.Fde
seen_fde d = record { cie_pointer = d.cie_pointer; initial_location = d.initial_location; address_range = d.address_range; program = d.program.now }

abbrev pub GivesFde : Result (Option Fde) FrameFault → Result (Option entries.Fde) FrameFault → Type 0
GivesFde (Ok None) read = read ≡ Ok None
GivesFde (Ok (Some d)) read = read ≡ Ok (Some (seen_fde d))
GivesFde (Err e) read = read ≡ Err e

abbrev pub seen_cie : Cie → entries.Cie
seen_cie c = record { factors = c.factors; return_column = c.return_column; program = c.program.now }

abbrev pub GivesCie : Result Cie FrameFault → Result entries.Cie FrameFault → Type 0
GivesCie (Ok c) read = read ≡ Ok (seen_cie c)
GivesCie (Err e) read = read ≡ Err e
