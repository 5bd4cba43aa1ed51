use Rattle.std.proofs.Common.{◌≡◌, ◌<◌, Bool, true, false, rules, arith, subst, ap, sym, ◌∙◌}
use Rattle.std.specs.Prelude.{Ok, Some}
use Rattle.dbg_model.specs.declared.entry.Entry.TheVariants.{Ran}
use Rattle.dbg_model.specs.Journals.{come}
use Rattle.dbg_model.specs.Shown.{shown_of}
use Rattle.dbg_replay.specs.Standing.{Takes, come_one}
use Rattle.dbg_replay.proofs.Coming.{first_fails, longer_by, longer_comes, longer_fails, none_comes, none_more}
use Rattle.dbg_replay.proofs.replaying.run.Goals as goal

pub returns-then-count-eq0-clause-passes : goal.returns-then-count-eq0-clause-passes
returns-then-count-eq0-clause-passes c =
    let none : c.args.count ≡ 0 = search rules in
    ap (λ n. come c.args.opening.now c.args.state.now.place (Ran c.args.hart n)) none ∙ none_comes c.args.opening.now c.args.state.now.place c.args.hart

pub returns-then-not-branch-clause-passes : goal.returns-then-not-branch-clause-passes
returns-then-not-branch-clause-passes c =
    let o = c.args.opening.now in
    let t = c.args.state.now in
    let h = c.args.hart in
    let some : 0 < c.args.count = search rules in
    let takes = subst (λ (b : Bool). Takes (Ok b) t c.take_ran.new.state (come_one o t.place h false) (shown_of o t.place.state (Ran h 1))) c.if-not-branch.true c.in_ok-take_ran.ensures.takes in
    first_fails o t.place h c.args.count some takes.0

pub returns-then-not-branch-2-clause-passes : goal.returns-then-not-branch-2-clause-passes
returns-then-not-branch-2-clause-passes c =
    let o = c.args.opening.now in
    let l = c.loop-done in
    let t = c.take_more-more.new.state in
    let h = c.args.hart in
    let none : c.take_more-more.result ≡ 0 = omega arith in
    let still = none_more c.take_more-more.result o l.state.place t.place h none c.take_more-more.ensures.lengthens in
    let takes = subst (λ (b : Bool). Takes (Ok b) t c.take_ran-in-loop-done.new.state (come_one o t.place h true) (shown_of o t.place.state (Ran h 1))) c.if-not-branch-2.true c.in_ok-take_ran-2.ensures.takes in
    longer_fails o c.args.state.now.place t.place h l.done c.args.count l.invariant.some c.loop-done-test.true (l.invariant.came ∙ ap Some (sym still)) takes.0

pub loop-done-preserved-then-more-gt0 : goal.loop-done-preserved-then-more-gt0
loop-done-preserved-then-more-gt0 c =
    let o = c.args.opening.now in
    let l = c.loop-done in
    record {
      came = longer_by c.take_more-more.result o c.args.state.now.place l.state.place c.take_more-more.new.state.place c.args.hart l.done l.invariant.some l.invariant.came c.take_more-more.ensures.lengthens;
      of = c.take_more-more.ensures.of;
      some = omega arith;
      most = omega arith;
    }

pub loop-done-preserved : goal.loop-done-preserved
loop-done-preserved c =
    let o = c.args.opening.now in
    let l = c.loop-done in
    let t = c.take_more-more.new.state in
    let h = c.args.hart in
    let none : c.take_more-more.result ≡ 0 = omega arith in
    let still = none_more c.take_more-more.result o l.state.place t.place h none c.take_more-more.ensures.lengthens in
    let takes = subst (λ (b : Bool). Takes (Ok b) t c.take_ran-in-loop-done.new.state (come_one o t.place h true) (shown_of o t.place.state (Ran h 1))) c.if-not-branch-2.false c.in_ok-take_ran-2.ensures.takes in
    record {
      came = longer_comes o c.args.state.now.place t.place c.take_ran-in-loop-done.new.state.place h l.done l.invariant.some (l.invariant.came ∙ ap Some (sym still)) takes.0;
      of = c.in_ok-take_ran-2.ensures.of;
      some = omega arith;
      most = omega arith;
    }
