use Rattle.std.specs.Option.{option_map}
use Rattle.break_table.specs.Entry.{condition_of}
use Rattle.break_table.specs.Table.{with_condition}
use Rattle.dbg_effects.proofs.Tables.{either_changed}
use Rattle.dbg_effects.proofs.table.set_condition.Goals as goal

pub returns : goal.returns
returns c = either_changed (with_condition (option_map condition_of c.args.condition)) c.condition.result c.args.table.now c.condition.new.self c.args.number c.condition.ensures.answer c.condition.ensures.done c.condition.ensures.refused
