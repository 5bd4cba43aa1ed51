use Rattle.std.proofs.Common.{◌∙◌, sym, subst}
use Rattle.std.specs.Prelude.{Bool, Ok}
use Rattle.session_parts.specs.Logged.{PutsLog}
use Rattle.session_parts.proofs.Logs.{handed_cut, handed_ranges, handed_short, handed_stand, handed_still, handed_whole}
use Rattle.session_parts.proofs.closing.hand_back.Goals as goal

pub returns-then-not-puts_log : goal.returns-then-not-puts_log
returns-then-not-puts_log g c = handed_still c.args.has_log c.args.status (g.W.World.told c.args.world.now) c.args.closed.now c.requires (sym c.puts_log.ensures ∙ c.if-not-puts_log.true)

pub put_log-requires-clause-ranges : goal.put_log-requires-clause-ranges
put_log-requires-clause-ranges g c = handed_ranges c.args.has_log c.args.status (g.W.World.told c.args.world.now) c.args.closed.now c.requires

pub put_log-requires-clause-stand : goal.put_log-requires-clause-stand
put_log-requires-clause-stand g c = handed_stand c.args.has_log c.args.status (g.W.World.told c.args.world.now) c.args.closed.now c.requires

pub returns-in-Ok-true : goal.returns-in-Ok-true
returns-in-Ok-true g c =
    let told = g.W.World.told in
    let t = told c.args.world.now in
    let u = told c.put_log.new.world in
    let d = c.args.closed.now in
    let P : Bool → Type 0 = λ b. PutsLog (Ok b) d.opening.settings d.journal t u in
    handed_whole c.args.has_log c.args.status t u d c.requires (sym c.puts_log.ensures ∙ c.if-not-puts_log.false) (subst P c.in-Ok-true.field-0-test c.in-Ok-true.ensures)

pub returns-in-Ok-false : goal.returns-in-Ok-false
returns-in-Ok-false g c =
    let told = g.W.World.told in
    let t = told c.args.world.now in
    let u = told c.put_log.new.world in
    let d = c.args.closed.now in
    let P : Bool → Type 0 = λ b. PutsLog (Ok b) d.opening.settings d.journal t u in
    handed_cut c.args.has_log c.args.status t u d c.requires (sym c.puts_log.ensures ∙ c.if-not-puts_log.false) (subst P c.in-Ok-false.field-0-test c.in-Ok-false.ensures)

pub returns-in-Err : goal.returns-in-Err
returns-in-Err g c =
    let told = g.W.World.told in
    let t = told c.args.world.now in
    let u = told c.put_log.new.world in
    let d = c.args.closed.now in
    handed_short c.args.has_log c.args.status t u d c.in-Err.field-0 c.requires (sym c.puts_log.ensures ∙ c.if-not-puts_log.false) c.in-Err.ensures
