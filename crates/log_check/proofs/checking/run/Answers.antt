use Rattle.std.proofs.Common.{rules, ◌≡◌, ◌<◌, ℕ, List, true, false, ap, sym, ◌∙◌, arith, subst}
use Rattle.dbg_model.specs.declared.entry.Entry.TheVariants.{Ran}
use Rattle.dbg_model.specs.Journals.{come}
use Rattle.dbg_model.specs.Shown.{shown_of}
use Rattle.dbg_replay.specs.Standing.{come_one}
use Rattle.log_check.specs.Speech.{ran_text}
use Rattle.log_check.specs.Agreeing.{Hears}
use Rattle.log_check.proofs.Further.{all_heard, none_heard, within}
use Rattle.log_check.proofs.Going.{HasRun, all_run, fails_first, fails_more, first_run, heard_none, heard_some, no_run}
use Rattle.log_check.proofs.checking.run.Goals as goal

pub returns-then-count-eq0-clause-heard : goal.returns-then-count-eq0-clause-heard
returns-then-count-eq0-clause-heard g c =
    let o = c.args.opening.now in
    let p = c.args.state.now.place in
    ap (λ (n : ℕ). come o p (Ran c.args.hart n)) c.if-count-eq0.true ∙ no_run o p c.args.hart

pub returns-then-not-branch-clause-heard : goal.returns-then-not-branch-clause-heard
returns-then-not-branch-clause-heard g c =
    let o = c.args.opening.now in
    let p = c.args.state.now.place in
    let h = c.args.hart in
    let b = c.in_ok-instruction.field-0 in
    let none : b ≡ false = search rules in
    let some : 0 < c.args.count = omega arith in
    fails_first o p h c.args.count some
    (heard_none b (come_one o p h false) (g.S.Speaker.voice.entry (Ran h 1) (shown_of o p.state (Ran h 1))) c.instruction.new.state c.args.hearing.now c.instruction.new.hearing none c.in_ok-instruction.ensures.heard)

pub loop-done-init : goal.loop-done-init
loop-done-init g c =
    let o = c.args.opening.now in
    let p = c.args.state.now.place in
    let h = c.args.hart in
    let b = c.in_ok-instruction.field-0 in
    let some : b ≡ true = search rules in
    let heard = heard_some b (come_one o p h false) (g.S.Speaker.voice.entry (Ran h 1) (shown_of o p.state (Ran h 1))) c.instruction.new.state c.args.hearing.now c.instruction.new.hearing some c.in_ok-instruction.ensures.heard in
    record { ran = first_run o p c.instruction.new.state.place h heard.0; kept = c.instruction.ensures.of; hears = heard.1; some = omega arith; most = omega arith }

pub returns-then-taken-eq0-clause-heard : goal.returns-then-taken-eq0-clause-heard
returns-then-taken-eq0-clause-heard g c =
    let o = c.args.opening.now in
    let l = c.loop-done in
    let h = c.args.hart in
    let none = none_heard g.S.Speaker.voice c.in_ok-taken.taken o l.state.place c.further.new.state.place h l.hearing c.further.new.hearing c.if-taken-eq0.true c.in_ok-taken.ensures.heard in
    fails_more o c.args.state.now.place l.state.place h l.done c.args.count l.invariant.ran c.loop-done-test.true none

pub loop-done-preserved : goal.loop-done-preserved
loop-done-preserved g c =
    let v = g.S.Speaker.voice in
    let o = c.args.opening.now in
    let l = c.loop-done in
    let n = c.in_ok-taken.taken in
    let some : 0 < n = omega arith in
    let all = all_heard v n o c.args.state.now.place l.state.place c.further.new.state.place c.args.hart l.done c.args.hearing.now l.hearing c.further.new.hearing some l.invariant.ran l.invariant.hears c.in_ok-taken.ensures.heard in
    record { ran = all.0; kept = c.further.ensures.of; hears = all.1; some = omega arith; most = within l.done n c.args.count c.loop-done-test.true c.in_ok-taken.ensures.most }

pub returns-clause-heard : goal.returns-clause-heard
returns-clause-heard g c =
    let v = g.S.Speaker.voice in
    let o = c.args.opening.now in
    let p = c.args.state.now.place in
    let l = c.loop-done in
    let h = c.args.hart in
    let all : l.done ≡ c.args.count = omega arith in
    let some : 0 < c.args.count = omega arith in (
      all_run o p l.state.place h c.args.count some (subst (λ (n : ℕ). HasRun o p l.state.place h n) all l.invariant.ran),
      subst (λ (n : ℕ). Hears (ran_text v o h p.state n) c.args.hearing.now l.hearing) all l.invariant.hears,
    )
