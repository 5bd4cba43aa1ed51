use Rattle.std.proofs.Common.{◌≡◌, ◌<◌, ℕ, ◌+◌, true, ap, arith, refl, subst, sym, ◌∙◌}
use Rattle.std.specs.Prelude.{None, slice_set}
use Rattle.std.proofs.lemmas.Option.{get_or_from_slice_get}
use Rattle.hart_machine.specs.Patched.{Patched}
use Rattle.dbg_model.specs.Journals.{lengthened_by}
use Rattle.engine_parts.specs.Facts.{Facts}
use Rattle.engine_parts.specs.declared.mind.Mind.{Mind}
use Rattle.engine_parts.specs.Minds.{ran_mind}
use Rattle.engine_parts.specs.Seen.{Engine}
use Rattle.engine_parts.specs.Slicing.{ServesBy, gives_job}
use Rattle.engine_parts.proofs.Aheads.{small_of}
use Rattle.engine_parts.proofs.Serving.{nothing_here, served_here, served_nothing, served_to}
use Rattle.engine_parts.proofs.Stretching.{giver}
use Rattle.engine_parts.proofs.Passing.{Apart}
use Rattle.engine_parts.proofs.Taking.{Taken, apart_so}
use Rattle.dbg_engine.specs.EngineInside.{run_of}
use Rattle.dbg_engine.proofs.Within.{has_core, has_mind, has_room, within_budget}
use Rattle.dbg_engine.proofs.engine.Engine.serve.Goals as goal

pub returns-then-not-gives_job-clause-serves : goal.returns-then-not-gives_job-clause-serves
returns-then-not-gives_job-clause-serves c = subst (λ b. ServesBy b c.args.h c.args.self.now c.args.self.now) c.if-not-gives_job.ensures refl

pub returns-then-instructions-eq0-clause-serves : goal.returns-then-instructions-eq0-clause-serves
returns-then-instructions-eq0-clause-serves c =
    let r = run_of c.self.inside in
    let n = c.stretch-instructions.result in
    let m = c.stretch-instructions.new.self in
    let is = sym c.if-not-gives_job.ensures in
    let f = c.self.invariant.facts.sound in
    served_nothing r c.args.self.now c.args.h n m c.self.view_is f is c.if-instructions-eq0.true c.stretch-instructions.ensures.limit c.stretch-instructions.ensures.stretches
    (nothing_here r c.args.self.now c.args.h n m c.self.view_is f is c.if-instructions-eq0.true c.stretch-instructions.ensures.steps)

kept : (c : goal.Then-instructions-eq0) → Facts (record (run_of c.self.inside) { machine = c.stretch-instructions.new.self })
kept c =
    let r = run_of c.self.inside in
    let m = c.stretch-instructions.new.self in
    let M : Patched → Type 0 = λ u. Facts (record r { machine = u }) in
    subst M (sym (nothing_here r c.args.self.now c.args.h c.stretch-instructions.result m c.self.view_is c.self.invariant.facts.sound
    (sym c.if-not-gives_job.ensures) c.if-instructions-eq0.true c.stretch-instructions.ensures.steps)) c.self.invariant.facts

pub returns-then-instructions-eq0-clause-facts : goal.returns-then-instructions-eq0-clause-facts
returns-then-instructions-eq0-clause-facts c = kept c

pub invariant_of-self : goal.invariant_of-self
invariant_of-self c = record { facts = kept c }

pub overflow_sub-self-inside : goal.overflow_sub-self-inside
overflow_sub-self-inside c =
    let r = run_of c.self.inside in
    within_budget r r refl (giver r c.args.h (ap (λ (q : Engine). gives_job q c.args.h) c.self.view_is ∙ sym c.if-not-gives_job.ensures)).may

pub stretch-instructions-requires : goal.stretch-instructions-requires
stretch-instructions-requires c =
    let r = run_of c.self.inside in
    let g = giver r c.args.h (ap (λ (q : Engine). gives_job q c.args.h) c.self.view_is ∙ sym c.if-not-gives_job.ensures) in
    has_core r r c.args.h g.ready.mind refl c.self.invariant.facts.sound g.ready.at

pub lengthen-requires-clause-room : goal.lengthen-requires-clause-room
lengthen-requires-clause-room c = has_room (run_of c.self.inside) c.args.self.now c.self.view_is c.requires.spare

pub index_mut-requires : goal.index_mut-requires
index_mut-requires c =
    let r = run_of c.self.inside in
    let g = giver r c.args.h (ap (λ (q : Engine). gives_job q c.args.h) c.self.view_is ∙ sym c.if-not-gives_job.ensures) in
    let here = has_mind r r c.args.h g.ready.mind refl g.ready.at in
    subst (λ (n : ℕ). c.args.h < n) (sym c.self.inside.minds.ok.0) here

pub lengthen-requires-clause-last : goal.lengthen-requires-clause-last
lengthen-requires-clause-last c =
    let r = run_of c.self.inside in
    let g = giver r c.args.h (ap (λ (q : Engine). gives_job q c.args.h) c.self.view_is ∙ sym c.if-not-gives_job.ensures) in
    let k = small_of r r refl c.self.invariant.facts.sound g.may in
    omega (arith, k.last, c.from.ensures, c.from-count.ensures, c.stretch-instructions.ensures.limit, c.if-self-from.false)

requires_apart : (r : Engine) (h : ℕ) (now : Mind) → (is : gives_job r h ≡ true) → now ≡ (giver r h is).ready.mind → Apart now
requires_apart r h now is same = let g = (giver r h is).ready in subst Apart (sym same) (apart_so g.mind g.apart)

pub keep_going-requires-clause-runs : goal.keep_going-requires-clause-runs
keep_going-requires-clause-runs c =
    let r = run_of c.self.inside in
    let is = ap (λ (q : Engine). gives_job q c.args.h) c.self.view_is ∙ sym c.if-not-gives_job.ensures in
    let g = (giver r c.args.h is).ready in
    (requires_apart r c.args.h c.index_mut.result.now is (c.index_mut.ensures.value ∙ get_or_from_slice_get r.minds c.args.h g.mind c.index_mut.result.now g.at)).runs

pub keep_going-requires-clause-idle : goal.keep_going-requires-clause-idle
keep_going-requires-clause-idle c =
    let r = run_of c.self.inside in
    let is = ap (λ (q : Engine). gives_job q c.args.h) c.self.view_is ∙ sym c.if-not-gives_job.ensures in
    let g = (giver r c.args.h is).ready in
    (requires_apart r c.args.h c.index_mut.result.now is (c.index_mut.ensures.value ∙ get_or_from_slice_get r.minds c.args.h g.mind c.index_mut.result.now g.at)).idle

pub keep_going-requires-clause-unfired : goal.keep_going-requires-clause-unfired
keep_going-requires-clause-unfired c =
    let r = run_of c.self.inside in
    let is = ap (λ (q : Engine). gives_job q c.args.h) c.self.view_is ∙ sym c.if-not-gives_job.ensures in
    let g = (giver r c.args.h is).ready in
    (requires_apart r c.args.h c.index_mut.result.now is (c.index_mut.ensures.value ∙ get_or_from_slice_get r.minds c.args.h g.mind c.index_mut.result.now g.at)).unfired

-- the engine with the stretch's instructions done
abbrev new_run : goal.After-self-2-1 → Engine
new_run c =
    let r = run_of c.self.inside in
    record r { journal = c.lengthen.new.self.entries; spare = c.lengthen.new.self.spare; machine = c.stretch-instructions.new.self; minds = slice_set r.minds c.args.h c.keep_going.new.mind; retired = r.retired + c.from-count.result }

taken : (c : goal.After-self-2-1) → Taken c.stretch-instructions.result (run_of c.self.inside) (new_run c) c.args.h
taken c =
    let r = run_of c.self.inside in
    let is = ap (λ (q : Engine). gives_job q c.args.h) c.self.view_is ∙ sym c.if-not-gives_job.ensures in
    let g = giver r c.args.h is in
    let k = small_of r r refl c.self.invariant.facts.sound g.may in
    let same = c.index_mut.ensures.value ∙ get_or_from_slice_get r.minds c.args.h g.ready.mind c.index_mut.result.now g.ready.at in
    served_to r r c.args.h c.stretch-instructions.result c.lengthen.new.self.spare g.ready.mind c.keep_going.new.mind
    c.stretch-instructions.new.self c.lengthen.new.self.entries c.from-count.result refl (omega arith) c.self.invariant.facts
    is (omega (arith, k.last, c.from.ensures, c.stretch-instructions.ensures.limit, c.if-self-from.false)) g.ready.at c.stretch-instructions.ensures.steps
    (c.lengthen.ensures.entries ∙ ap (λ n. lengthened_by n r.journal c.args.h) c.from-count.ensures)
    (c.keep_going.ensures ∙ ap (λ (x : Mind). ran_mind x.course.plan None None x) same) c.from-count.ensures

pub invariant_of-self-2 : goal.invariant_of-self-2
invariant_of-self-2 c = record { facts = (taken c).facts }

pub returns-clause-facts : goal.returns-clause-facts
returns-clause-facts c = (taken c).facts

pub returns-clause-serves : goal.returns-clause-serves
returns-clause-serves c =
    let r = run_of c.self.inside in
    let g = giver r c.args.h (ap (λ (q : Engine). gives_job q c.args.h) c.self.view_is ∙ sym c.if-not-gives_job.ensures) in
    let k = small_of r r refl c.self.invariant.facts.sound g.may in
    served_here r c.args.self.now (new_run c) c.args.h c.stretch-instructions.result c.stretch-instructions.new.self c.self.view_is
    c.self.invariant.facts.sound (sym c.if-not-gives_job.ensures) (omega arith) c.stretch-instructions.ensures.limit
    (omega (arith, k.last, c.from.ensures, c.stretch-instructions.ensures.limit, c.if-self-from.false)) c.stretch-instructions.ensures.stretches refl (taken c)
