use Rattle.std.proofs.Common.{◌≡◌, map, take}
use Rattle.arrayvec.specs.ArrayVec.{array_vec_len}
use Rattle.watch_points.specs.Watches.{worth}
use Rattle.watch_points.proofs.watch_list.worths_of.Given as goal

abbrev pub invariant-loop-watch : goal.invariant-loop-watch
invariant-loop-watch l = record {
  worths : l.worths.items ≡ map (worth l.memory) (take l.watch-index l.watches);
  count : array_vec_len l.worths ≡ l.watch-index;
}
