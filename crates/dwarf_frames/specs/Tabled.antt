-- How the tables of a section are kept.
use Rattle.std.specs.Prelude.{◌≡◌, ℕ, List}
use Rattle.std.specs.List.Sorted.{IsNonDecreasing}
use Rattle.address_tables.specs.Tables.{IsTable, value_among}
use Rattle.dwarf_frames.specs.Entries.{entries}
use Rattle.dwarf_frames.specs.Index.{cie_places, fde_ranges, first_fault}
use Rattle.dwarf_frames.specs.declared.tables.Tables.TheInside.{Inside}

abbrev pub section_of : Inside → List ℕ
section_of i = i.section.items

pub record AreTables (i : Inside) : Type 0 where
  pub fdes : IsTable i.fdes.items (value_among (fde_ranges (entries i.section.items)))
  pub fault : i.fault ≡ first_fault (entries i.section.items)
  pub cies : i.cies.items ≡ cie_places (entries i.section.items)
  pub ordered : IsNonDecreasing i.cies.items
