use Rattle.std.proofs.Common.{◌+◌, List, ◌∷◌, sym, ap, ◌∙◌, subst, arith}
use Rattle.std.proofs.lemmas.Result.{err_from_is_err_and}
use Rattle.cond_expr.specs.declared.fault.FaultKind.TheVariants.{Text, Deep}
use Rattle.cond_expr.specs.declared.token.Spot.{Spot}
use Rattle.cond_expr.specs.Stops.{Stops}
use Rattle.cond_expr.specs.Fault.{wanting, behind}
use Rattle.cond_expr.proofs.Climb.{ends, turns, stops_else, stops_below, unclosed, spells_single, spells_prefixed, spells_inside}
use Rattle.cond_expr.proofs.Steps.{meets_fault, meets_through}
use Rattle.cond_expr.proofs.Scan.{wanting-nothing, wanting-before, wanting-before_full, wanting-opens, wanting-opens_full, wanting-cut_off, wanting-cut_off_full, wanting-refused, wanting-operand, behind-open, behind-joins, behind-closes}
use Rattle.cond_expr.proofs.climbing.+parser.Goals as goal

pub expression-returns-in_default-clause-spelled : goal.expression-returns-in_default-clause-spelled
expression-returns-in_default-clause-spelled t c = ends _ _ _ _ _ _ c.turns.invariant

pub expression-returns-then-strength-least-clause-spelled : goal.expression-returns-then-strength-least-clause-spelled
expression-returns-then-strength-least-clause-spelled t c = ends _ _ _ _ _ _ c.turns.invariant

pub expression-returns-then-strength-least-clause-stops : goal.expression-returns-then-strength-least-clause-stops
expression-returns-then-strength-least-clause-stops t c =
    stops_below c.args.least c.turns.rest.now _ c.in-Some.first c.in-Joins.op _ c.in-Some.ensures (sym c.in-Joins.ensures) c.strength-strength.ensures.value c.if-strength-least.true

pub expression-returns-in_default-follow-clause-spelled : goal.expression-returns-in_default-follow-clause-spelled
expression-returns-in_default-follow-clause-spelled t c = ends _ _ _ _ _ _ c.turns.invariant

pub expression-returns-in_default-follow-clause-stops : goal.expression-returns-in_default-follow-clause-stops
expression-returns-in_default-follow-clause-stops t c = stops_else c.args.least c.turns.rest.now _ c.in-Some.first _ c.in-Some.ensures c.follow.ensures c.in_default-follow.not-Joins

pub expression-returns-in_err-y-clause-met : goal.expression-returns-in_err-y-clause-met
expression-returns-in_err-y-clause-met t c =
    let p = err_from_is_err_and c.from_residual-in_err-y.result c.from_residual-in_err-y.ensures.1 in
    λ parens. rw (p.1, p.2) (meets_through _ _ _ _ c.in_err-y.field-0.0
    (c.turns.invariant.met parens ∙ ap (behind c.args.end parens c.args.depth) c.in-Some.ensures ∙ behind-joins c.args.end parens c.args.depth c.in-Some.first c.in-Some.more.now c.in-Joins.op (sym c.in-Joins.ensures))
    (c.in_err-y.ensures.met parens))

pub expression-turns-preserved : goal.expression-turns-preserved
expression-turns-preserved t c =
    turns c.args.end c.args.depth c.args.least c.args.tokens.now c.turns.rest.now c.in-Some.more.now c.in_ok-y.after.now c.in-Some.first c.in-Joins.op
    _ _ _ c.strength-strength.result c.turns.invariant c.in-Some.ensures (sym c.in-Joins.ensures)
    c.strength-strength.ensures.value c.if-strength-least.false c.in_ok-y.ensures.spelled c.in_ok-y.ensures.stops c.in_ok-y.ensures.shorter c.in_ok-y.ensures.met c.in_ok-x-2.ensures

pub operand-returns-in_default-clause-met : goal.operand-returns-in_default-clause-met
operand-returns-in_default-clause-met t c =
    λ parens outer. meets_fault Text c.args.end _ _ c.fault.result c.fault.ensures (ap (wanting c.args.end parens outer c.args.depth) c.in_default.ensures ∙ wanting-nothing c.args.end parens outer c.args.depth)

pub operand-returns-then-depth-ge-MAX_OPEN-clause-met : goal.operand-returns-then-depth-ge-MAX_OPEN-clause-met
operand-returns-then-depth-ge-MAX_OPEN-clause-met t c =
    λ parens outer. meets_fault Deep c.in-Some.first.at _ _ c.fault-then-depth-ge-MAX_OPEN.result c.fault-then-depth-ge-MAX_OPEN.ensures
    (ap (wanting c.args.end parens outer c.args.depth) c.in-Some.ensures ∙ wanting-before_full c.args.end parens outer c.args.depth c.in-Some.first c.in-Some.rest.now c.in-Before.op (sym c.in-Before.ensures) c.if-depth-ge-MAX_OPEN.true)

pub operand-returns-in_err-x-in-Before-clause-met : goal.operand-returns-in_err-x-in-Before-clause-met
operand-returns-in_err-x-in-Before-clause-met t c =
    let p = err_from_is_err_and c.from_residual.result c.from_residual.ensures.1 in
    λ parens outer. rw (p.1, p.2) (meets_through _ _ _ _ c.in_err-x-in-Before.field-0.0
    (ap (wanting c.args.end parens outer c.args.depth) c.in-Some.ensures ∙ wanting-before c.args.end parens outer c.args.depth c.in-Some.first c.in-Some.rest.now c.in-Before.op (sym c.in-Before.ensures) (omega arith))
    (c.in_err-x-in-Before.ensures.met parens outer))

pub operand-returns-then-depth-ge-MAX_OPEN-2-clause-met : goal.operand-returns-then-depth-ge-MAX_OPEN-2-clause-met
operand-returns-then-depth-ge-MAX_OPEN-2-clause-met t c =
    λ parens outer. meets_fault Deep c.in-Some.first.at _ _ c.fault-then-depth-ge-MAX_OPEN-2.result c.fault-then-depth-ge-MAX_OPEN-2.ensures
    (ap (wanting c.args.end parens outer c.args.depth) c.in-Some.ensures ∙ wanting-opens_full c.args.end parens outer c.args.depth c.in-Some.first c.in-Some.rest.now (sym c.in-Opens.ensures) c.if-depth-ge-MAX_OPEN-2.true)

pub operand-returns-in_err-x-in-Opens-clause-met : goal.operand-returns-in_err-x-in-Opens-clause-met
operand-returns-in_err-x-in-Opens-clause-met t c =
    let p = err_from_is_err_and c.from_residual-in_err-x-in-Opens.result c.from_residual-in_err-x-in-Opens.ensures.1 in
    λ parens outer. rw (p.1, p.2) (meets_through _ _ _ _ c.in_err-x-in-Opens.field-0.0
    (ap (wanting c.args.end parens outer c.args.depth) c.in-Some.ensures ∙ wanting-opens c.args.end parens outer c.args.depth c.in-Some.first c.in-Some.rest.now (sym c.in-Opens.ensures) (omega arith))
    (c.in_err-x-in-Opens.ensures.met (outer ∷ parens)))

pub operand-returns-in_default-front-clause-met : goal.operand-returns-in_default-front-clause-met
operand-returns-in_default-front-clause-met t c =
    λ parens outer. meets_fault Text c.args.end _ _ c.fault-in_default-front.result c.fault-in_default-front.ensures
    (ap (wanting c.args.end parens outer c.args.depth) c.in-Some.ensures ∙ wanting-opens c.args.end parens outer c.args.depth c.in-Some.first c.in-Some.rest.now (sym c.in-Opens.ensures) (omega arith)
    ∙ c.in_ok-x-in-Opens.ensures.met (outer ∷ parens) ∙ ap (behind c.args.end (outer ∷ parens) (c.args.depth + 1)) c.in_default-front.ensures ∙ behind-open c.args.end outer parens (c.args.depth + 1))

pub operand-returns-in_default-follow-clause-met : goal.operand-returns-in_default-follow-clause-met
operand-returns-in_default-follow-clause-met t c =
    let stops = subst (λ (ts : List Spot). Stops 1 ts) c.in-Some-front.ensures c.in_ok-x-in-Opens.ensures.stops in
    λ parens outer. meets_fault Text c.in-Some-front.last.at _ _ c.fault-in_default-follow.result c.fault-in_default-follow.ensures
    (ap (wanting c.args.end parens outer c.args.depth) c.in-Some.ensures ∙ wanting-opens c.args.end parens outer c.args.depth c.in-Some.first c.in-Some.rest.now (sym c.in-Opens.ensures) (omega arith)
    ∙ c.in_ok-x-in-Opens.ensures.met (outer ∷ parens) ∙ ap (behind c.args.end (outer ∷ parens) (c.args.depth + 1)) c.in-Some-front.ensures
    ∙ unclosed c.args.end outer parens (c.args.depth + 1) c.in-Some-front.last c.in-Some-front.rest.now c.follow.result c.follow.ensures stops c.in_default-follow.not-Closes)

pub operand-returns-in-Operand-clause-spelled : goal.operand-returns-in-Operand-clause-spelled
operand-returns-in-Operand-clause-spelled t c = spells_single c.args.depth c.args.tokens.now c.in-Some.rest.now c.args.tokens.now c.in-Some.first c.in-Some.ensures c.in-Operand.leaf (sym c.in-Operand.ensures)

pub operand-returns-in-Operand-clause-met : goal.operand-returns-in-Operand-clause-met
operand-returns-in-Operand-clause-met t c =
    λ parens outer. ap (wanting c.args.end parens outer c.args.depth) c.in-Some.ensures ∙ wanting-operand c.args.end parens outer c.args.depth c.in-Some.first c.in-Some.rest.now c.in-Operand.leaf (sym c.in-Operand.ensures)

pub operand-returns-in_ok-prefixed-in-Before-clause-spelled : goal.operand-returns-in_ok-prefixed-in-Before-clause-spelled
operand-returns-in_ok-prefixed-in-Before-clause-spelled t c =
    spells_prefixed c.args.depth c.args.tokens.now c.in-Some.rest.now c.in_ok-x-in-Before.rest.now c.in-Some.first c.in-Some.ensures c.in-Before.op _ _ (sym c.in-Before.ensures) (omega arith)
    c.in_ok-x-in-Before.ensures.spelled c.in_ok-prefixed-in-Before.ensures

pub operand-returns-in_ok-prefixed-in-Before-clause-met : goal.operand-returns-in_ok-prefixed-in-Before-clause-met
operand-returns-in_ok-prefixed-in-Before-clause-met t c =
    λ parens outer. ap (wanting c.args.end parens outer c.args.depth) c.in-Some.ensures ∙ wanting-before c.args.end parens outer c.args.depth c.in-Some.first c.in-Some.rest.now c.in-Before.op (sym c.in-Before.ensures) (omega arith)
    ∙ c.in_ok-x-in-Before.ensures.met parens outer

pub operand-returns-in-Closes-clause-spelled : goal.operand-returns-in-Closes-clause-spelled
operand-returns-in-Closes-clause-spelled t c =
    spells_inside c.args.depth c.args.tokens.now c.in-Some.rest.now c.in-Some-front.rest.now c.in-Some.first c.in-Some.ensures c.in_ok-x-in-Opens.rest.now c.in-Some-front.last _ (sym c.in-Opens.ensures) (omega arith)
    c.in_ok-x-in-Opens.ensures.spelled c.in-Some-front.ensures (sym c.in-Closes.ensures)

pub operand-returns-in-Closes-clause-met : goal.operand-returns-in-Closes-clause-met
operand-returns-in-Closes-clause-met t c =
    λ parens outer. ap (wanting c.args.end parens outer c.args.depth) c.in-Some.ensures ∙ wanting-opens c.args.end parens outer c.args.depth c.in-Some.first c.in-Some.rest.now (sym c.in-Opens.ensures) (omega arith)
    ∙ c.in_ok-x-in-Opens.ensures.met (outer ∷ parens) ∙ ap (behind c.args.end (outer ∷ parens) (c.args.depth + 1)) c.in-Some-front.ensures
    ∙ behind-closes c.args.end outer parens (c.args.depth + 1) c.in-Some-front.last c.in-Some-front.rest.now (sym c.in-Closes.ensures)

pub operand-returns-in-Refused-clause-met : goal.operand-returns-in-Refused-clause-met
operand-returns-in-Refused-clause-met t c =
    λ parens outer. meets_fault c.in-Refused.kind c.in-Some.first.at _ _ _ c.fault-in-Refused.ensures
    (ap (wanting c.args.end parens outer c.args.depth) c.in-Some.ensures ∙ wanting-refused c.args.end parens outer c.args.depth c.in-Some.first c.in-Some.rest.now c.in-Refused.kind (sym c.in-Refused.ensures))

pub operand-returns-then-depth-ge-MAX_OPEN-3-clause-met : goal.operand-returns-then-depth-ge-MAX_OPEN-3-clause-met
operand-returns-then-depth-ge-MAX_OPEN-3-clause-met t c =
    λ parens outer. meets_fault Deep c.in-Some.first.at _ _ c.fault-then-depth-ge-MAX_OPEN-3.result c.fault-then-depth-ge-MAX_OPEN-3.ensures
    (ap (wanting c.args.end parens outer c.args.depth) c.in-Some.ensures ∙ wanting-cut_off_full c.args.end parens outer c.args.depth c.in-Some.first
    c.in-Some.rest.now c.in-CutOff.place (sym c.in-CutOff.ensures) c.if-depth-ge-MAX_OPEN-3.true)

pub operand-returns-else-depth-ge-MAX_OPEN-3-clause-met : goal.operand-returns-else-depth-ge-MAX_OPEN-3-clause-met
operand-returns-else-depth-ge-MAX_OPEN-3-clause-met t c =
    λ parens outer. meets_fault Text c.in-CutOff.place _ _ _ c.fault-in-CutOff.ensures
    (ap (wanting c.args.end parens outer c.args.depth) c.in-Some.ensures ∙ wanting-cut_off c.args.end parens outer c.args.depth c.in-Some.first c.in-Some.rest.now c.in-CutOff.place (sym c.in-CutOff.ensures) (omega arith))

pub operand-operand-requires : goal.operand-operand-requires
operand-operand-requires t c = (omega (arith, c.decreases), omega arith)

pub operand-expression-requires : goal.operand-expression-requires
operand-expression-requires t c = (omega (arith, c.decreases), (omega arith, omega arith))

pub expression-operand-requires : goal.expression-operand-requires
expression-operand-requires t c = (omega (arith, c.decreases), c.requires.room)

pub expression-expression-requires : goal.expression-expression-requires
expression-expression-requires t c = (omega (arith, c.decreases), (c.requires.room, omega (arith, c.strength-strength.ensures)))
