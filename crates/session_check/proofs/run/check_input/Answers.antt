use Rattle.std.proofs.Common.{◌≡◌, ℕ, List, subst}
use Rattle.session_check.specs.Findings.{Finds}
use Rattle.session_check.specs.Polling.{PollsSome}
use Rattle.session_check.specs.declared.input.InputError.{InputError}
use Rattle.session_check.proofs.Ending.{input_failed, input_found}
use Rattle.session_check.proofs.run.check_input.Goals as goal

pub returns-in-Err-Failed-clause-checks : goal.returns-in-Err-Failed-clause-checks
returns-in-Err-Failed-clause-checks g c =
    let t = g.W.World.told c.args.world.now in
    let u = g.W.World.told c.poll_all.new.world in
    λ name h. input_failed name t u c.args.image h (subst (λ (e : InputError). PollsSome e t u) c.in-Err-Failed.field-0-is c.in-Err-Failed.ensures)

pub returns-clause-checks : goal.returns-clause-checks
returns-clause-checks g c =
    let t = g.W.World.told c.args.world.now in
    let u = g.W.World.told c.poll_all.new.world in
    let finds = subst (λ (l : List ℕ). Finds c.args.image l c.in-Ok-judge.found) c.as_slice.ensures.value c.in-Ok-judge.ensures in
    λ name h. c.answer.ensures.checks name (input_found name t u c.args.image c.in-Ok.input.items c.in-Ok-judge.found h c.in-Ok.ensures finds)
