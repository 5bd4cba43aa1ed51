use Rattle.std.proofs.Common.{◌≡◌, map, take}
use Rattle.dbg_model.specs.Sight.{view_of}
use Rattle.dbg_replay.proofs.lines.views.Given as goal

abbrev pub invariant-loop-hart : goal.invariant-loop-hart
invariant-loop-hart l = l.views.items ≡ map view_of (take l.hart-index l.harts)
