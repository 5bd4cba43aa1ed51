-- The units of a section (DWARF 4, section 7.5.1.1; DWARF 2 and 3, section 7.5.1).
use Rattle.std.specs.Prelude.{ℕ, ◌+◌, ◌==◌, ◌&&◌, nat_le, nat_lt, List, length, Result, Err, if◌then◌else◌}
use Rattle.leb_read.specs.Leb.{behind_run, number_at}
use Rattle.debug_info.specs.Reading.{◌>>=◌, Read, found, read}
use Rattle.debug_info.specs.Entries.{entries_from}
use Rattle.debug_info.specs.declared.entry.Entry.{Entry}
use Rattle.debug_info.specs.declared.fault.InfoFault.{InfoFault}
use Rattle.debug_info.specs.declared.fault.InfoFault.TheVariants as fault
use Rattle.debug_info.specs.declared.offset.AbbrevOffset.{AbbrevOffset}

-- unit_length, and so many bytes
unfoldable pub unit_end : List ℕ → ℕ → Result ℕ InfoFault
unit_end info at = do
  size ← read (number_at 4 info at)
  read (behind_run size.0 info size.1)

-- version, debug_abbrev_offset and address_size: the place of the abbreviations
unfoldable pub header_at : List ℕ → List ℕ → ℕ → Read AbbrevOffset
header_at abbrevs info at = do
  version ← read (number_at 2 info at)
  if nat_le 2 version.0 && nat_le version.0 4 then (do
    offset ← read (number_at 4 info version.1)
    if nat_lt (length abbrevs) offset.0 then Err fault.Abbrev else (do
      size ← read (number_at 1 info offset.1)
      if size.0 == 4 then found (record { at = offset.0 }) size.1 else Err fault.Version))
      else Err fault.Version

-- the entries of the unit at a place, by the section's bytes up to the unit's end
unfoldable pub unit_entries : List ℕ → List ℕ → List ℕ → ℕ → Result (List Entry) InfoFault
unit_entries abbrevs strs info unit = do
  header ← header_at abbrevs info (unit + 4)
  entries_from (length info + 1) abbrevs strs info header.0.at unit 0 header.1
