use Rattle.dbg_effects.proofs.Tables.{either_deleted}
use Rattle.dbg_effects.proofs.table.delete_entry.Goals as goal

pub returns : goal.returns
returns c = either_deleted c.delete.result c.args.table.now c.delete.new.self c.args.number c.delete.ensures.answer c.delete.ensures.done c.delete.ensures.refused
