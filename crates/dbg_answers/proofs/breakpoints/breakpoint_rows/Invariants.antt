use Rattle.std.proofs.Common.{◌≡◌, map, take}
use Rattle.break_table.specs.Entry.{entry_of}
use Rattle.dbg_model.specs.Breakpoints.{breakpoint_row}
use Rattle.dbg_answers.proofs.breakpoints.breakpoint_rows.Given as goal

abbrev pub invariant-loop-entry : goal.invariant-loop-entry
invariant-loop-entry l = l.rows.items ≡ map (breakpoint_row l.sources) (map entry_of (take l.entry-index l.entries))
