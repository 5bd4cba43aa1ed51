use Rattle.std.proofs.Common.{◌≡◌, true, rules, ap}
use Rattle.std.specs.Prelude.{Some, slice_get, slice_set}
use Rattle.std.specs.Vec.{with_item}
use Rattle.dbg_model.specs.State.{is_stopped}
use Rattle.plain_machine.specs.PlainRun.{is_settable}
use Rattle.replay_parts.proofs.Exiting.{register_set}
use Rattle.replay_parts.proofs.pokes.set_register.Goals as goal

pub returns-clause-came : goal.returns-clause-came
returns-clause-came c =
    let old = c.args.parts.now in
    let x = c.in-Some.hart in
    let at : slice_get old.harts.items c.args.h ≡ Some x = search rules in
    let stopped : is_stopped x.mode ≡ true = search rules in
    let settable : is_settable c.args.number ≡ true = search rules in
    register_set c.args.opening.now old c.args.h c.args.number c.args.value x (with_item old.harts c.args.h c.with_register.result) c.requires at stopped settable (ap (slice_set old.harts.items c.args.h) c.with_register.ensures)
