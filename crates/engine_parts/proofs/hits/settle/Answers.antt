use Rattle.std.proofs.Common.{ap, ◌∙◌, List}
use Rattle.std.specs.Prelude.{slice_get}
use Rattle.std.proofs.lemmas.Option.{get_or_from_slice_get}
use Rattle.rv_exec.specs.Registers.{set_pc}
use Rattle.rv_exec.specs.Memory.{Memory}
use Rattle.hart_machine.specs.declared.hart.Core.{Core}
use Rattle.break_table.specs.Entry.{Entry}
use Rattle.break_table.specs.Arrival.{settled}
use Rattle.break_table.specs.Table.{Table}
use Rattle.dbg_model.specs.Views.{register, shown_byte}
use Rattle.engine_parts.proofs.hits.settle.Goals as goal

pub returns-clause-entries : goal.returns-clause-entries
returns-clause-entries c k at =
    let same = get_or_from_slice_get c.cores.result.now c.args.h k c.index-cores-h.result (ap (λ cs. slice_get cs c.args.h) c.cores.ensures ∙ at) in
    let entries : Core → Memory → List Entry = λ q m. settled c.args.h (register (set_pc q.regs c.args.pc)) (shown_byte c.args.image.now m) c.args.table.now.entries in
    ap (λ (t : Table). t.entries) c.settle_arrival.ensures ∙ (ap (λ q. entries q c.data.result.now) same ∙ ap (entries k) c.data.ensures)
