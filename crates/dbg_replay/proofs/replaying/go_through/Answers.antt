use Rattle.std.proofs.Common.{Bool, subst}
use Rattle.std.specs.Prelude.{Ok}
use Rattle.dbg_model.specs.Journals.{come}
use Rattle.dbg_model.specs.Keeping.{entry_of}
use Rattle.dbg_replay.specs.Standing.{Passes}
use Rattle.dbg_replay.proofs.Passing.{ends, ends_at}
use Rattle.dbg_replay.proofs.replaying.go_through.Goals as goal

pub returns-then-not-branch : goal.returns-then-not-branch
returns-then-not-branch c =
    let o = c.args.opening.now in
    let l = c.loop-entry in
    let e = entry_of c.in-Some.entry in
    let none = subst (λ (b : Bool). Passes (Ok b) c.pass.new.state (come o l.state.place e)) c.if-not-branch.true c.in_ok-pass.ensures.passes in
    ends_at o l.state.place c.args.entries l.entry-iterator c.next.new.self e c.in-Some.ensures.steps none l.invariant.rest

pub returns : goal.returns
returns c = ends c.args.opening.now c.loop-entry.state.place c.args.entries c.loop-entry.entry-iterator c.in-None.ensures.steps.0 c.loop-entry.invariant.rest
