use Rattle.std.proofs.Common.{◌≡◌, take, true}
use Rattle.mi_reports.specs.Fits.{rows_fit}
use Rattle.mi_reports.proofs.known.known_rows.Given as goal

abbrev pub invariant-loop-row : goal.invariant-loop-row
invariant-loop-row l = rows_fit (take l.row-index l.rows) ≡ true
