-- How line tables are kept for look-ups: beside the rows, a table of the sequences in the order of addresses. This project's own.
use Rattle.address_tables.specs.Tables.{IsTable, value_among}
use Rattle.line_index.specs.Lines.{Lines}
use Rattle.line_index.specs.Order.{IsInOrder}
use Rattle.line_index.specs.Ranges.{ranges_from}
use Rattle.line_index.specs.declared.index.LineIndex.TheInside.{Inside}

abbrev pub seen : Inside → Lines
seen i = record { rows = i.rows; functions = i.functions.items; text = i.text }

pub record IsKept (i : Inside) : Type 0 where
  pub starts : IsInOrder i.functions.items i.starts.items
  pub sequences : IsTable i.sequences.items (value_among (ranges_from i.text 0 i.rows.sequences))
