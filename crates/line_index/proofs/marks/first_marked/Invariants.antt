use Rattle.line_index.specs.Marks.{has}
use Rattle.line_index.proofs.Marked.{Passed}
use Rattle.line_index.proofs.marks.first_marked.Given as goal

abbrev pub invariant-loop-k : goal.invariant-loop-k
invariant-loop-k l = Passed l.fn.start (has l.mark) l.rows l.k
