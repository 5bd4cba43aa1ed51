use Rattle.std.proofs.Common.{sym, ◌∙◌}
use Rattle.engine_parts.proofs.Holding.{get_within}
use Rattle.engine_parts.proofs.Nearing.{far_fires}
use Rattle.engine_parts.proofs.watching.step_watched.Goals as goal

pub returns-clause-fired : goal.returns-clause-fired
returns-clause-fired c =
    let m = c.args.machine.now in
    let k = get_within m.cores c.args.h c.requires.hart in
    sym (far_fires c.args.watches.now c.step.result m c.step.new.self c.args.h k.0 (sym (c.is_near.ensures k.0 k.1) ∙ c.if-is_near.false) (c.step.ensures.step k.0 k.1))
