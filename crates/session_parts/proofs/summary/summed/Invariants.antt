use Rattle.std.proofs.Common.{◌≡◌, ◌≤◌, ◌+◌, length}
use Rattle.std.specs.List.{filter}
use Rattle.dbg_model.specs.Erase.{erase, steps}
use Rattle.session_parts.specs.Summary.{is_left, is_stop}
use Rattle.session_parts.proofs.summary.summed.Given as goal

-- what was counted, with what the entries that are left count up to
abbrev pub invariant-loop-entry : goal.invariant-loop-entry
invariant-loop-entry l = record {
  retired : l.retired + steps (erase l.entry-iterator) ≡ steps (erase l.journal);
  stops : l.stops + length (filter is_stop l.entry-iterator) ≡ length (filter is_stop l.journal);
  lefts : l.lefts + length (filter is_left l.entry-iterator) ≡ length (filter is_left l.journal);
}
