use Rattle.std.proofs.Common.{◌≡◌, ◌<◌, ◌≤◌, ◌+◌, ap, arith, refl, subst, sym, ◌∙◌}
use Rattle.std.specs.Prelude.{true, false, is_some, ◌↔◌}
use Rattle.reg_slices.specs.declared.slice.Slice.{Slice}
use Rattle.engine_parts.specs.Seen.{Engine}
use Rattle.engine_parts.specs.Slicing.{CanTake, ServesBy, Takes, TakesIf, gives_job, has_room}
use Rattle.engine_parts.proofs.Stretching.{can_take_back, empty, left, served_apart, took}
use Rattle.dbg_engine.specs.declared.engine.slicing.Commit.{Commit}
use Rattle.dbg_engine.specs.declared.engine.slicing.Commit.TheVariants as commit
use Rattle.dbg_engine.proofs.engine.Engine.serve_apart.Goals as goal

pub returns-in_default-clause-serves : goal.returns-in_default-clause-serves
returns-in_default-clause-serves c =
    let r = c.args.self.now in
    let none : false ≡ _ = ap is_some (sym c.in_default.is) ∙ c.check_out.ensures.exactly in
    subst (λ b. ServesBy b c.args.h r r) none refl

by_commit : (x : Commit) (r s : Engine) (slice : Slice) → 0 < slice.count → (x ≡ commit.Took) ↔ CanTake r slice → (x ≡ commit.Took → Takes r s slice)
    → (x ≡ commit.Stale → s ≡ r) → (r.retired + slice.count ≤ r.opening.settings.budget → CanTake r slice)
    → TakesIf (has_room r slice.count) r s slice.hart slice.count slice.after
by_commit commit.Took r s slice some exactly taken stale can = took r s slice some (exactly.0 refl) (taken refl)
by_commit commit.Stale r s slice some exactly taken stale can = left r s slice.hart slice.count slice.after (λ room. let e = exactly.1 (can room) in cc) (stale refl)

pub returns-then-slice-gt0-clause-serves : goal.returns-then-slice-gt0-clause-serves
returns-then-slice-gt0-clause-serves c =
    let r = c.args.self.now in
    let job = c.in-Some.job in
    let slice = c.run_slice-slice.result in
    let is : gives_job r c.args.h ≡ true = sym c.in-Some.ensures.exactly in
    let j = c.in-Some.ensures.job in
    let w = c.run_slice-slice.ensures in
    let e = c.commit.ensures in
    served_apart r c.commit.new.self c.args.h job slice is j w.job w.limit w.greatest (by_commit c.commit.result r c.commit.new.self slice c.if-slice-gt0.true e.exactly e.took e.stale (can_take_back r c.args.h job slice is j w.job))

pub returns-else-slice-gt0-clause-serves : goal.returns-else-slice-gt0-clause-serves
returns-else-slice-gt0-clause-serves c =
    let r = c.args.self.now in
    let job = c.in-Some.job in
    let slice = c.run_slice-slice.result in
    let is : gives_job r c.args.h ≡ true = sym c.in-Some.ensures.exactly in
    let w = c.run_slice-slice.ensures in
    served_apart r r c.args.h job slice is c.in-Some.ensures.job w.job w.limit w.greatest (empty r r slice.hart slice.count slice.after (omega (arith, c.if-slice-gt0.false)) refl)
