use Rattle.std.proofs.Common.{◌≡◌, ◌++◌}
use Rattle.mi_text.specs.Keeps.{Keeps}
use Rattle.mi_values.specs.Records.{lines_bytes}
use Rattle.mi_reports.specs.Text.{created_lines}
use Rattle.mi_reports.proofs.exits.write_created.Given as goal

abbrev pub invariant-loop-hart : goal.invariant-loop-hart
invariant-loop-hart l = (l.into.items ≡ l.fn.into.items ++ lines_bytes (created_lines l.hart)) × Keeps l.fn.into.items l.into.items
