use Rattle.std.proofs.Common.{sym, ◌∙◌}
use Rattle.cond_expr.specs.declared.evaluating.Value.TheVariants.{DivZero}
use Rattle.cond_expr.specs.Term.{term_of}
use Rattle.watch_points.proofs.Inside.{constant, not_constant}
use Rattle.watch_points.proofs.Worth.{worth, never_unread, read_at}
use Rattle.watch_points.proofs.watch.read_of.Goals as goal

pub returns-then-not-is_constant : goal.returns-then-not-is_constant
returns-then-not-is_constant c = not_constant (term_of c.args.address.now) (sym c.is_constant.ensures ∙ c.if-not-is_constant.true)

pub returns-in-Word : goal.returns-in-Word
returns-in-Word c =
    let x = term_of c.args.address.now in
    read_at x (constant x (sym c.is_constant.ensures ∙ c.if-not-is_constant.false)) c.args.kind c.in-Word.address c.size_of.result c.in-Word.field-1
    c.is_signed.result (sym c.node_value.ensures ∙ c.in-Word.is) c.size_of.ensures c.is_signed.ensures

pub returns-in-DivZero : goal.returns-in-DivZero
returns-in-DivZero c =
    let x = term_of c.args.address.now in
    let h = constant x (sym c.is_constant.ensures ∙ c.if-not-is_constant.false) in
    (h, worth x h DivZero (sym c.node_value.ensures ∙ c.in-DivZero.is))

pub unreachable-requires : goal.unreachable-requires
unreachable-requires c =
    let x = term_of c.args.address.now in
    never_unread x (constant x (sym c.is_constant.ensures ∙ c.if-not-is_constant.false)) c.in-Unread.field-0 (sym c.node_value.ensures ∙ c.in-Unread.is)
