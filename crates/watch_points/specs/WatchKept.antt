-- What a list of watches keeps of its fields. This project's own.
use Rattle.std.specs.Prelude.{◌≤◌, vec_capacity, vec_len}
use Rattle.watch_points.specs.declared.watch_list.WatchList.TheInside.{Inside}
use Rattle.watch_points.specs.Watches.{AreSized}

pub record IsKept (l : Inside) : Type 0 where
  pub few : vec_len l.watches ≤ 16
  pub room : 16 ≤ vec_capacity l.watches
  pub sized : AreSized l.watches.items
