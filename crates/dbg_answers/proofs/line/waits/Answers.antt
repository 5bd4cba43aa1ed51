use Rattle.std.proofs.Common.{subst}
use Rattle.mi_commands.specs.Gives.{Commands}
use Rattle.dbg_answers.specs.Reading.{IsRead}
use Rattle.dbg_answers.proofs.Lines.{command_waits, refused_waits}
use Rattle.dbg_answers.proofs.line.waits.Goals as goal

pub returns-in-Ok : goal.returns-in-Ok
returns-in-Ok c = λ line h. command_waits line c.in-Ok.line.token c.in-Ok.line.command c.is_wait.result (subst (Commands line) c.in-Ok.is h) c.is_wait.ensures

pub returns-in-Err : goal.returns-in-Err
returns-in-Err c = λ line h. refused_waits line c.in-Err._refusal (subst (Commands line) c.in-Err.is h) (subst IsRead c.in-Err.is c.requires)
