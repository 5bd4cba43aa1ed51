use Rattle.break_table.specs.Table.{with_ignore}
use Rattle.dbg_effects.proofs.Tables.{either_changed}
use Rattle.dbg_effects.proofs.table.set_ignore.Goals as goal

pub returns : goal.returns
returns c = either_changed (with_ignore c.args.count) c.after.result c.args.table.now c.after.new.self c.args.number c.after.ensures.answer c.after.ensures.done c.after.ensures.refused
