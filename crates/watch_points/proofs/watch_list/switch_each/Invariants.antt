use Rattle.std.proofs.Common.{◌≡◌, ◌++◌, map, take, drop}
use Rattle.watch_points.specs.Watches.{switched_one}
use Rattle.watch_points.proofs.watch_list.switch_each.Given as goal

abbrev pub invariant-loop-watch : goal.invariant-loop-watch
invariant-loop-watch l = l.watches ≡ map (switched_one l.enabled l.numbers) (take l.watch-index l.fn.watches) ++ drop l.watch-index l.fn.watches
