use Rattle.std.proofs.Common.{◌≡◌, true, false, sym, ap, ◌∙◌, arith, rules}
use Rattle.engine_parts.proofs.Holding.{get_within}
use Rattle.engine_parts.specs.Going.{meets, surroundings_view}
use Rattle.engine_parts.proofs.Gone.{passes_at, unmet}
use Rattle.engine_parts.proofs.going.pass.Goals as goal

pub returns-clause-passes : goal.returns-clause-passes
returns-clause-passes c done =
    let m = c.args.machine.now in
    let around = c.args.around.now in
    let k = get_within m.cores around.hart c.requires.hart in
    let on : around.copies ≡ true = search rules in
    let planted = sym c.if-not-planted.ensures in
    let none : meets c.due_at-due.result ≡ false = unmet c.due_at-due.result (sym c.if-is_some.ensures) c.if-due.false in
    passes_at (surroundings_view around) m c.step_copy.new.self c.pc-pc.result c.in-Some.word k.0 c.requires.unwatched k.1 (c.pc-pc.ensures k.0 k.1) (omega arith) on planted c.in-Some.ensures
    (ap meets (sym (c.due_at-due.ensures k.0 k.1)) ∙ none) (sym c.if-not-is_kept.ensures) (c.step_copy.ensures.counts done) (c.step_copy.ensures.steps done)
