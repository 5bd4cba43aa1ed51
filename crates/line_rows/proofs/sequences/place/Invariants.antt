use Rattle.std.proofs.Common.{◌≡◌, ◌++◌, map, take, drop}
use Rattle.line_rows.specs.RowList.{placed}
use Rattle.line_rows.proofs.sequences.place.Given as goal

abbrev pub invariant-loop-row : goal.invariant-loop-row
invariant-loop-row l = l.rows ≡ map (placed l.before l.first) (take l.row-index l.initial.rows) ++ drop l.row-index l.initial.rows
