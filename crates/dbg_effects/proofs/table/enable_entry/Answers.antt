use Rattle.std.proofs.Common.{◌≡◌, true, false, Bool, sym, subst}
use Rattle.break_table.specs.Table.{changed, with_enabled}
use Rattle.dbg_effects.proofs.Tables.{either_changed}
use Rattle.dbg_effects.proofs.table.enable_entry.Goals as goal

pub returns-then-enabled : goal.returns-then-enabled
returns-then-enabled c =
    subst (λ (b : Bool). c.enable.new.self ≡ changed (with_enabled b) c.args.number c.args.table.now) (sym c.if-enabled.true)
    (either_changed (with_enabled true) c.enable.result c.args.table.now c.enable.new.self c.args.number c.enable.ensures.answer c.enable.ensures.done c.enable.ensures.refused)

pub returns-else-enabled : goal.returns-else-enabled
returns-else-enabled c =
    subst (λ (b : Bool). c.disable.new.self ≡ changed (with_enabled b) c.args.number c.args.table.now) (sym c.if-enabled.false)
    (either_changed (with_enabled false) c.disable.result c.args.table.now c.disable.new.self c.args.number c.disable.ensures.answer c.disable.ensures.done c.disable.ensures.refused)
