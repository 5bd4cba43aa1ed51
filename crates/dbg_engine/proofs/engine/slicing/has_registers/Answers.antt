use Rattle.std.proofs.Common.{ap, ◌∙◌}
use Rattle.std.specs.Prelude.{slice_get}
use Rattle.std.proofs.lemmas.Option.{get_or_from_slice_get}
use Rattle.engine_parts.proofs.Jobs.{registers_same}
use Rattle.dbg_engine.proofs.engine.slicing.has_registers.Goals as goal

pub returns : goal.returns
returns c k at =
    let same = get_or_from_slice_get c.cores.result.now c.args.h k c.index-cores-h.result (ap (λ cs. slice_get cs c.args.h) c.cores.ensures ∙ at) in
    registers_same k _ c.args.regs.now c.eq.result same c.eq.ensures
