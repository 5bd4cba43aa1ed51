use Rattle.std.proofs.Common.{ap, ◌∙◌}
use Rattle.std.specs.Prelude.{slice_get}
use Rattle.std.proofs.lemmas.Option.{get_or_from_slice_get}
use Rattle.rv_exec.specs.Registers.{set_pc}
use Rattle.rv_exec.specs.Memory.{Memory}
use Rattle.hart_machine.specs.declared.hart.Core.{Core}
use Rattle.break_table.specs.declared.due.Due.{Due}
use Rattle.break_table.specs.Arrival.{due_of}
use Rattle.dbg_model.specs.Views.{register, shown_byte}
use Rattle.engine_parts.proofs.hits.due_at.Goals as goal

pub returns : goal.returns
returns c k at =
    let same = get_or_from_slice_get c.cores.result.now c.args.h k c.index-cores-h.result (ap (λ cs. slice_get cs c.args.h) c.cores.ensures ∙ at) in
    let due : Core → Memory → Due = λ q m. due_of c.args.h (register (set_pc q.regs c.args.pc)) (shown_byte c.args.image.now m) c.args.table.now.entries in
    c.due.ensures ∙ (ap (λ q. due q c.data.result.now) same ∙ ap (due k) c.data.ensures)
