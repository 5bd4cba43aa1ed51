use Rattle.std.proofs.Common.{◌≡◌, ◌++◌, map, take}
use Rattle.mi_text.specs.Keeps.{Keeps}
use Rattle.mi_reports.specs.Led.{behind}
use Rattle.mi_reports.specs.Replies.{number_field}
use Rattle.mi_reports.proofs.threads.write_more_numbers.Given as goal

abbrev pub invariant-loop-number : goal.invariant-loop-number
invariant-loop-number l = (l.into.items ≡ l.fn.into.items ++ behind (map number_field (take l.number-index l.numbers))) × Keeps l.fn.into.items l.into.items
