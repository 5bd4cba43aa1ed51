use Rattle.std.proofs.Common.{◌≡◌, ◌++◌, map, take, drop}
use Rattle.watch_points.specs.Watches.{risen_one}
use Rattle.watch_points.proofs.watch_list.rise_each.Given as goal

abbrev pub invariant-loop-watch : goal.invariant-loop-watch
invariant-loop-watch l = l.watches ≡ map (risen_one l.fired) (take l.watch-index l.fn.watches) ++ drop l.watch-index l.fn.watches
