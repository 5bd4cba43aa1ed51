use Rattle.std.proofs.Common.{ℕ, List, ap, ◌∙◌, arith}
use Rattle.debug_info.specs.Shown.{shown_variables}
use Rattle.var_expr.specs.Expanded.{is_open, names_in, standing}
use Rattle.var_expr.proofs.Turns.{found_text, is_replaced, left_none, left_open, next_row, stays}
use Rattle.var_expr.proofs.replacing.expand.Goals as goal

pub parts_of-requires : goal.parts_of-requires
parts_of-requires g c =
    let s = standing (g.V.View.registers c.args.view.now) c.args.cfa (shown_variables c.args.vars.now) in
    (next_row s c.args.text.now (names_in c.args.text.now) c.in-Some.name c.names.rest.now c.in-Some.others.now c.names.from c.names.expanded c.in-Some.ensures c.names.invariant).1

pub push_replaced-requires-clause-within : goal.push_replaced-requires-clause-within
push_replaced-requires-clause-within g c =
    let s = standing (g.V.View.registers c.args.view.now) c.args.cfa (shown_variables c.args.vars.now) in
    let next = (next_row s c.args.text.now (names_in c.args.text.now) c.in-Some.name c.names.rest.now c.in-Some.others.now c.names.from c.names.expanded c.in-Some.ensures c.names.invariant) in
    omega (arith, next)

pub overflow_add-from : goal.overflow_add-from
overflow_add-from g c =
    let s = standing (g.V.View.registers c.args.view.now) c.args.cfa (shown_variables c.args.vars.now) in
    let next = (next_row s c.args.text.now (names_in c.args.text.now) c.in-Some.name c.names.rest.now c.in-Some.others.now c.names.from c.names.expanded c.in-Some.ensures c.names.invariant) in
    omega (arith, next)

pub names-preserved : goal.names-preserved
names-preserved g c =
    let s = standing (g.V.View.registers c.args.view.now) c.args.cfa (shown_variables c.args.vars.now) in
    stays s c.args.text.now (names_in c.args.text.now) c.in-Some.name c.names.rest.now c.in-Some.others.now c.names.from c.names.expanded c.in-Some.ensures
    (left_open s c.args.text.now c.in-Some.name (c.if-not-is_open.ensures ∙ ap (λ (b : List ℕ). is_open b) c.parts_of.ensures.front)) c.names.invariant

pub names-preserved-in_default-2 : goal.names-preserved-in_default-2
names-preserved-in_default-2 g c =
    let s = standing (g.V.View.registers c.args.view.now) c.args.cfa (shown_variables c.args.vars.now) in
    stays s c.args.text.now (names_in c.args.text.now) c.in-Some.name c.names.rest.now c.in-Some.others.now c.names.from c.names.expanded c.in-Some.ensures
    (left_none s c.args.text.now c.parts_of.result.1.now c.in-Some.name c.in_ok-standing.field-0
    (c.if-not-is_open.ensures ∙ ap (λ (b : List ℕ). is_open b) c.parts_of.ensures.front) c.parts_of.ensures.bytes c.in_ok-standing.ensures c.in_default-2.is)
    c.names.invariant

pub names-preserved-in-Some-2 : goal.names-preserved-in-Some-2
names-preserved-in-Some-2 g c =
    let s = standing (g.V.View.registers c.args.view.now) c.args.cfa (shown_variables c.args.vars.now) in
    let pushed = c.in_ok-push_replaced.ensures in
    is_replaced s c.args.text.now (names_in c.args.text.now) c.in-Some.name c.names.rest.now c.in-Some.others.now c.names.from c.names.expanded c.deref.result.now c.push_replaced.new.expanded c.in-Some.ensures
    (found_text s c.args.text.now c.parts_of.result.1.now c.deref.result.now c.in-Some.name c.in_ok-standing.field-0 c.in-Some-2.standing
    (c.if-not-is_open.ensures ∙ ap (λ (b : List ℕ). is_open b) c.parts_of.ensures.front) c.parts_of.ensures.bytes c.in_ok-standing.ensures
    c.in-Some-2.is c.deref.ensures.value)
    pushed.text pushed.names pushed.given c.names.invariant
