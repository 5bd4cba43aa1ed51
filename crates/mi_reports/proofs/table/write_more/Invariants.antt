use Rattle.std.proofs.Common.{◌≡◌, ◌++◌, map, take}
use Rattle.mi_text.specs.Keeps.{Keeps}
use Rattle.mi_reports.specs.Led.{behind}
use Rattle.mi_reports.specs.Table.{row_field}
use Rattle.mi_reports.proofs.table.write_more.Given as goal

abbrev pub invariant-loop-row : goal.invariant-loop-row
invariant-loop-row l = (l.into.items ≡ l.fn.into.items ++ behind (map row_field (take l.row-index l.rows))) × Keeps l.fn.into.items l.into.items
