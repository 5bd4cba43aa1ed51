use Rattle.std.proofs.Common.{◌≡◌, ◌++◌, map, take}
use Rattle.mi_text.specs.Keeps.{Keeps}
use Rattle.mi_reports.specs.Led.{items_behind}
use Rattle.mi_reports.specs.Replies.{register_tree}
use Rattle.mi_reports.proofs.registers.write_more.Given as goal

abbrev pub invariant-loop-register : goal.invariant-loop-register
invariant-loop-register l = (l.into.items ≡ l.fn.into.items ++ items_behind (map (register_tree l.format) (take l.register-index l.registers))) × Keeps l.fn.into.items l.into.items
