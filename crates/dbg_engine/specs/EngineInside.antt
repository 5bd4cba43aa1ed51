-- An engine's fields. This project's own.
use Rattle.dbg_engine.specs.declared.engine.Engine.TheInside.{Inside}
use Rattle.engine_parts.specs.Seen.{Engine}
use Rattle.engine_parts.specs.Facts.{Facts}

abbrev pub run_of : Inside → Engine
run_of e = record {
  opening = e.opening;
  journal = e.journal.entries;
  spare = e.journal.spare;
  machine = e.machine;
  minds = e.minds.items;
  hold = e.hold;
  watches = e.watches;
  breaks = e.table.entries;
  given = e.table.given;
  bounds = e.table.text;
  waits = e.table.waits;
  sources = e.sources;
  selected = e.selected;
  displaced = e.displaced;
  retired = e.retired;
  noted = e.noted;
  exited = e.exited;
  temporary = e.temporary;
}

pub record Keeps (e : Inside) : Type 0 where
  pub facts : Facts (run_of e)
