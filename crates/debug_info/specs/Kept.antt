-- How the sections are kept for look-ups: beside their bytes, where the units stand, and what is looked up by a place. This project's own.
use Rattle.std.specs.Prelude.{◌≡◌, ◌<◌, ◌^◌, All, length}
use Rattle.address_tables.specs.Tables.{IsTable}
use Rattle.debug_info.specs.Contents.{IsSpan, spans_of}
use Rattle.debug_info.specs.Functions.{function_at}
use Rattle.debug_info.specs.Index.{IsIndex}
use Rattle.debug_info.specs.Info.{Info, faults_of, info_of}
use Rattle.debug_info.specs.TextLengths.{AreLengths}
use Rattle.debug_info.specs.declared.info.Info.TheInside.{Inside}

abbrev pub seen : Inside → Info
seen i = info_of i.abbrevs.items i.strs.items i.info.items

pub record IsKept (i : Inside) : Type 0 where
  pub lengths : AreLengths i.strs.items i.lengths
  pub index : IsIndex i.abbrevs.items i.index
  pub short : length i.info.items < 2 ^ 32
  pub spans : All (IsSpan i.info.items) i.units.items
  pub units : i.units.items ≡ (spans_of i.info.items).0
  pub faults : i.faults.items ≡ faults_of (seen i)
  pub functions : IsTable i.functions.items (function_at i.abbrevs.items i.strs.items i.info.items)
