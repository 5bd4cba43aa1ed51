use Rattle.std.proofs.Common.{◌≡◌, ◌++◌, map, take}
use Rattle.mi_text.specs.Keeps.{Keeps}
use Rattle.mi_values.specs.Tree.{text}
use Rattle.mi_reports.specs.Led.{items_behind}
use Rattle.mi_reports.proofs.registers.write_more_names.Given as goal

abbrev pub invariant-loop-name : goal.invariant-loop-name
invariant-loop-name l = (l.into.items ≡ l.fn.into.items ++ items_behind (map (λ n. text n.now) (take l.name-index l.names))) × Keeps l.fn.into.items l.into.items
