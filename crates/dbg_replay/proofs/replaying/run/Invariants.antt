use Rattle.std.proofs.Common.{◌≡◌, ◌<◌, ◌≤◌, ◌-◌}
use Rattle.std.specs.Prelude.{Some}
use Rattle.dbg_model.specs.declared.entry.Entry.TheVariants.{Ran}
use Rattle.dbg_model.specs.Journals.{come}
use Rattle.dbg_replay.specs.Standing.{IsOf}
use Rattle.dbg_replay.proofs.replaying.run.Given as goal

abbrev pub invariant-loop-done : goal.invariant-loop-done
invariant-loop-done l = record { came : come l.opening l.fn.state.place (Ran l.hart l.done) ≡ Some l.state.place; of : IsOf l.opening l.state; some : 0 < l.done; most : l.done ≤ l.count }

abbrev pub decreases-loop-done : goal.decreases-loop-done
decreases-loop-done l = l.count - l.done
