use Rattle.std.proofs.Common.{◌≡◌, ◌++◌, map, take, drop}
use Rattle.line_rows.specs.RowList.{renumbered}
use Rattle.line_rows.proofs.sequences.renumber.Given as goal

abbrev pub invariant-loop-row : goal.invariant-loop-row
invariant-loop-row l = l.rows ≡ map (renumbered l.numbers) (take l.row-index l.initial.rows) ++ drop l.row-index l.initial.rows
