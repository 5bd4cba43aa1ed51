use Rattle.std.proofs.Common.{◌≡◌, true, sym, ap, ◌∙◌, subst, rules}
use Rattle.dbg_model.specs.Lawful.{may_go}
use Rattle.engine_parts.specs.declared.mind.Activity.TheVariants as activity
use Rattle.engine_parts.specs.Minds.{is_before}
use Rattle.engine_parts.specs.Seen.{Engine, seen}
use Rattle.engine_parts.specs.Facts.{Sound, other_holder}
use Rattle.engine_parts.proofs.Rows.{row_waits, row_finishes}
use Rattle.dbg_engine.proofs.engine.Engine.turn.Goals as goal

pub returns-in-Some-clause-first : goal.returns-in-Some-clause-first
returns-in-Some-clause-first c =
    let may : may_go c.args.self.now.opening (seen c.args.self.now) ≡ true = sym c.if-not-may_go.ensures in
    let runs : c.mind-mind.result.activity ≡ activity.Running = search rules in
    let held = ap (λ (q : Engine). other_holder q.hold c.args.h) (sym c.self.view_is) ∙ (sym c.other_holder.ensures ∙ c.in-Some.is) in
    sym (row_waits c.args.self.now c.args.h c.in-Some.by c.mind-mind.result (subst Sound c.self.view_is c.self.invariant.facts.sound) may c.mind-mind.ensures runs held)

pub returns-in-Landed-clause-first : goal.returns-in-Landed-clause-first
returns-in-Landed-clause-first c =
    let may : may_go c.args.self.now.opening (seen c.args.self.now) ≡ true = sym c.if-not-may_go.ensures in
    let runs : c.mind-mind.result.activity ≡ activity.Running = search rules in
    let free = ap (λ (q : Engine). other_holder q.hold c.args.h) (sym c.self.view_is) ∙ (sym c.other_holder.ensures ∙ c.in_default.is) in
    sym (row_finishes c.args.self.now c.args.h c.mind-mind.result (subst Sound c.self.view_is c.self.invariant.facts.sound) may c.mind-mind.ensures runs free (ap is_before c.in-Landed.is))

pub returns-in-Ran-clause-first : goal.returns-in-Ran-clause-first
returns-in-Ran-clause-first c =
    let may : may_go c.args.self.now.opening (seen c.args.self.now) ≡ true = sym c.if-not-may_go.ensures in
    let runs : c.mind-mind.result.activity ≡ activity.Running = search rules in
    let free = ap (λ (q : Engine). other_holder q.hold c.args.h) (sym c.self.view_is) ∙ (sym c.other_holder.ensures ∙ c.in_default.is) in
    sym (row_finishes c.args.self.now c.args.h c.mind-mind.result (subst Sound c.self.view_is c.self.invariant.facts.sound) may c.mind-mind.ensures runs free (ap is_before c.in-Ran.is))
