use Rattle.watch_points.proofs.Firing.{apart_fires, none_fires, store_keeps}
use Rattle.watch_points.proofs.watch_list.apart_fires_none.Goals as goal

pub returns : goal.returns
returns c = record { none = none_fires; apart = apart_fires; store = store_keeps }
