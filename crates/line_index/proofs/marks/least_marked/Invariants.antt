use Rattle.std.proofs.Common.{◌≡◌, take}
use Rattle.line_index.specs.Lines.{addresses, below, least_from}
use Rattle.line_index.specs.Marks.{has}
use Rattle.line_index.proofs.Folds.{rows_in}
use Rattle.line_index.proofs.marks.least_marked.Given as goal

abbrev pub invariant-loop-k : goal.invariant-loop-k
invariant-loop-k l = l.found ≡ below l.end (least_from l.start (addresses (has l.mark) (rows_in l.text (take l.k l.rows.sequences))))
