use Rattle.std.proofs.Common.{◌<◌, ◌≤◌, ℕ, get_or, length}
use Rattle.line_rows.specs.declared.row.Row.{Row}
use Rattle.line_index.proofs.Nearby.{Behind}
use Rattle.line_index.proofs.around.behind_marked.Given as goal

abbrev pub invariant-loop-count : goal.invariant-loop-count
invariant-loop-count l = record {
  bound : l.count ≤ length l.rows;
  below : (k : ℕ) (d : Row) → k < l.count → (get_or l.rows k d).address < l.fn.pc;
  behind : Behind l.fn.pc l.mark l.rows l.count;
}

abbrev pub decreases-loop-count : goal.decreases-loop-count
decreases-loop-count l = l.count
