use Rattle.line_index.proofs.Latest.{Left}
use Rattle.line_index.proofs.rows.statement_or.Given as goal

abbrev pub invariant-loop-count : goal.invariant-loop-count
invariant-loop-count l = Left l.rows l.count l.last

abbrev pub decreases-loop-count : goal.decreases-loop-count
decreases-loop-count l = l.count
