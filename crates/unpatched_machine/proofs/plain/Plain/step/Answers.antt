use Rattle.std.proofs.Common.{ap, ◌∙◌}
use Rattle.std.specs.Prelude.{slice_get}
use Rattle.std.proofs.lemmas.Option.{get_or_from_slice_get}
use Rattle.unpatched_machine.specs.Unpatched.{Unpatched}
use Rattle.unpatched_machine.proofs.Stepping.{steps_to}
use Rattle.unpatched_machine.proofs.Running.{goes_on}
use Rattle.unpatched_machine.proofs.plain.Plain.step.Goals as goal

pub returns-clause-step : goal.returns-clause-step
returns-clause-step c =
    λ r at.
    steps_to _ c.args.self.now c.args.h r c.index_mut-regs.result.now c.execute_plain.new.regs c.execute_plain.new.memory c.execute_plain.result c.self.view_is at
    (c.index_mut-regs.ensures.value ∙ get_or_from_slice_get c.self.inside.harts.items c.args.h r c.index_mut-regs.result.now (ap (λ (n : Unpatched). slice_get n.harts c.args.h) c.self.view_is ∙ at))
    c.execute_plain.ensures.step

pub returns-clause-run : goal.returns-clause-run
returns-clause-run c = goes_on c.execute_plain.result c.args.self.now _ c.args.h (returns-clause-step c)
