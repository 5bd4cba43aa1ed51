use Rattle.std.proofs.Common.{ap, ◌∙◌}
use Rattle.run_tape.specs.declared.turns.Turns.{Turns}
use Rattle.run_tape.proofs.Codes.{start-number}
use Rattle.run_tape.proofs.coder.Coder.new.Goals as goal

pub returns-clause-number : goal.returns-clause-number
returns-clause-number c = ap (λ (t : Turns). t.number) c.start.ensures ∙ start-number
