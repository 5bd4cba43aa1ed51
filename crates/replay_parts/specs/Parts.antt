-- The state that parts are shown as. This project's own.
use Rattle.dbg_model.specs.State.{State}
use Rattle.replay_parts.specs.declared.state.Parts.{Parts}

abbrev pub state_of : Parts → State
state_of p = record {
  harts = p.harts.items;
  memory = p.memory;
  out = p.out.items;
  breaks = p.table.entries;
  watches = p.watches;
  given = p.table.given;
  selected = p.selected;
  displaced = p.displaced;
  sets = p.sets;
  passed = p.passed.items;
  pending = p.pending;
  retired = p.retired;
  noted = p.noted;
  exited = p.exited;
}
