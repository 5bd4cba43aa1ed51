-- What a table of breakpoints keeps of its fields, and what is seen of them.
use Rattle.std.specs.Prelude.{◌≡◌, ◌≤◌, map, vec_capacity, vec_len}
use Rattle.break_table.specs.Entry.{entry_of}
use Rattle.break_table.specs.Table.{Table, IsRising}
use Rattle.break_table.specs.Places.{ArePlaced}
use Rattle.break_table.specs.declared.table.BreakTable.TheInside.{Inside}

abbrev pub seen : Inside → Table
seen t = record { entries = map entry_of t.entries.items; given = t.given; text = t.text; waits = t.waits.items }

pub record IsKept (t : Inside) : Type 0 where
  pub rising : IsRising 0 (map entry_of t.entries.items) t.given
  pub few : vec_len t.entries ≤ 128
  pub room : 128 ≤ vec_capacity t.entries
  pub same : vec_len t.places ≡ vec_len t.entries
  pub room_for_places : 128 ≤ vec_capacity t.places
  pub placed : ArePlaced t.places.items (map entry_of t.entries.items)
