use Rattle.std.proofs.Common.{◌≡◌, ◌<◌, ℕ, ◌+◌, sym, ap, ◌∙◌, subst, arith}
use Rattle.hart_machine.specs.Patched.{Patched}
use Rattle.engine_parts.specs.Seen.{Engine}
use Rattle.engine_parts.specs.Facts.{Facts}
use Rattle.std.specs.Prelude.{None, slice_get, slice_set}
use Rattle.std.proofs.lemmas.Option.{get_or_from_slice_get}
use Rattle.engine_parts.specs.declared.mind.Mind.{Mind}
use Rattle.engine_parts.specs.Minds.{ran_mind}
use Rattle.dbg_model.specs.Journals.{lengthened_by}
use Rattle.engine_parts.specs.Several.{is_alone}
use Rattle.dbg_engine.specs.EngineInside.{run_of}
use Rattle.dbg_engine.proofs.Within.{has_core, has_mind, within_budget}
use Rattle.engine_parts.proofs.Aheads.{gone_to, none_gone, small_of, turned_at}
use Rattle.engine_parts.proofs.Passing.{Ahead, around}
use Rattle.engine_parts.proofs.Resting.{rests_freely}
use Rattle.dbg_engine.proofs.engine.Engine.run_freely.Goals as goal

pub lengthen-requires-clause-last : goal.lengthen-requires-clause-last
lengthen-requires-clause-last c =
    let r = run_of c.self.inside in
    let k = small_of r c.args.self.now c.self.view_is c.self.invariant.facts.sound c.requires.may in
    omega (arith, k.last, c.min-most.ensures, c.from.ensures, c.from-count.ensures, c.go-progress.ensures.most)

unmoved : (c : goal.Then-progress-eq0) → c.go-progress.new.machine ≡ (run_of c.self.inside).machine
unmoved c =
    let r = run_of c.self.inside in
    let p = c.go-progress.result in
    let a = around r c.args.h c.args.mind.course.plan c.by_copies.result in
    none_gone a c.min-most.result p.turns p.instructions r.machine c.go-progress.new.machine c.if-progress-eq0.true c.go-progress.ensures.goes

kept : (c : goal.Then-progress-eq0) → Facts (record (run_of c.self.inside) { machine = c.go-progress.new.machine })
kept c = subst (λ (m : Patched). Facts (record (run_of c.self.inside) { machine = m })) (sym (unmoved c)) c.self.invariant.facts

pub returns-then-progress-eq0-clause-turns : goal.returns-then-progress-eq0-clause-turns
returns-then-progress-eq0-clause-turns c = ap (λ (m : Patched). let q : Engine = record (run_of c.self.inside) { machine = m } in q) (unmoved c) ∙ c.self.view_is

pub overflow_sub-self-inside : goal.overflow_sub-self-inside
overflow_sub-self-inside c = within_budget (run_of c.self.inside) c.args.self.now c.self.view_is c.requires.may

pub go-progress-requires : goal.go-progress-requires
go-progress-requires c = has_core (run_of c.self.inside) c.args.self.now c.args.h c.args.mind c.self.view_is c.self.invariant.facts.sound c.requires.mind

pub index_mut-requires : goal.index_mut-requires
index_mut-requires c =
    let here = has_mind (run_of c.self.inside) c.args.self.now c.args.h c.args.mind c.self.view_is c.requires.mind in
    subst (λ (n : ℕ). c.args.h < n) (sym c.self.inside.minds.ok.0) here

pub returns-then-progress-eq0-clause-facts : goal.returns-then-progress-eq0-clause-facts
returns-then-progress-eq0-clause-facts c = kept c

pub invariant_of-self : goal.invariant_of-self
invariant_of-self c = record { facts = kept c }

-- the hart is what was looked at
same : (c : goal.After-self-2-1) → c.index_mut.result.now ≡ c.args.mind
same c =
    let r = run_of c.self.inside in
    c.index_mut.ensures.value ∙ get_or_from_slice_get r.minds c.args.h c.args.mind c.index_mut.result.now (ap (λ (q : Engine). slice_get q.minds c.args.h) c.self.view_is ∙ c.requires.mind)

-- the engine so many turns on
abbrev new_run : goal.After-self-2-1 → Engine
new_run c =
    let r = run_of c.self.inside in
    record r {
      journal = c.lengthen.new.self.entries;
      spare = c.lengthen.new.self.spare;
      machine = c.go-progress.new.machine;
      minds = slice_set r.minds c.args.h c.keep_going.new.mind;
      retired = r.retired + c.from-count.result;
    }

gone : (c : goal.After-self-2-1) → Ahead c.go-progress.result.turns (run_of c.self.inside) (new_run c) c.args.h
gone c =
    let r = run_of c.self.inside in
    let s = c.args.self.now in
    let p = c.go-progress.result in
    gone_to r s c.args.h c.lengthen.new.self.spare c.min-most.result p.turns p.instructions c.by_copies.result c.args.mind c.keep_going.new.mind c.go-progress.new.machine c.lengthen.new.self.entries c.from-count.result
    c.self.view_is (omega arith) c.self.invariant.facts c.requires.may c.requires.mind c.requires.off
    (ap (λ (q : Engine). is_alone q.opening.image c.args.mind q.hold) c.self.view_is ∙ c.requires.alone)
    (omega (arith, c.min-most.ensures)) (λ e. (c.by_copies.ensures.yes e).0) c.go-progress.ensures.goes
    (c.lengthen.ensures.entries ∙ ap (λ n. lengthened_by n r.journal c.args.h) c.from-count.ensures) (c.keep_going.ensures ∙ ap (λ (x : Mind). ran_mind x.course.plan None None x) (same c)) c.from-count.ensures

pub invariant_of-self-2 : goal.invariant_of-self-2
invariant_of-self-2 c = record { facts = (gone c).facts }

pub returns-clause-facts : goal.returns-clause-facts
returns-clause-facts c = (gone c).facts

pub returns-clause-turns : goal.returns-clause-turns
returns-clause-turns c = turned_at c.go-progress.result.turns (run_of c.self.inside) c.args.self.now (new_run c) c.args.h c.self.view_is (gone c).turns

pub returns-clause-far : goal.returns-clause-far
returns-clause-far c =
    let p = c.go-progress.result in
    let e = c.go-progress.ensures in
    λ less. rests_freely (new_run c) c.args.h p.instructions p.turns c.min-most.result c.args.limit e.fewer less (λ few same. omega (arith, c.min-most.ensures, c.from-count.ensures, few, same)) e.most e.far
