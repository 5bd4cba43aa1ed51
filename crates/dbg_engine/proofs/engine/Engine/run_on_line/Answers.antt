use Rattle.std.proofs.Common.{◌≡◌, ◌<◌, ℕ, ◌+◌, sym, ap, ◌∙◌, subst, arith}
use Rattle.std.specs.Prelude.{None, Some, slice_get, slice_set}
use Rattle.std.proofs.lemmas.Option.{get_or_from_slice_get}
use Rattle.engine_parts.specs.Minds.{ran_mind}
use Rattle.hart_machine.specs.Patched.{Patched}
use Rattle.hart_machine.proofs.Places.{get-set_same}
use Rattle.dbg_model.specs.Journals.{lengthened_by}
use Rattle.engine_parts.specs.declared.mind.Mind.{Mind}
use Rattle.engine_parts.specs.Seen.{Engine}
use Rattle.engine_parts.specs.Facts.{Facts}
use Rattle.engine_parts.specs.Several.{is_alone}
use Rattle.dbg_engine.specs.EngineInside.{run_of}
use Rattle.engine_parts.proofs.Aheads.{small_of, turned_at}
use Rattle.engine_parts.proofs.OnLines.{none_stayed, on_line, stayed_to}
use Rattle.engine_parts.proofs.Passing.{Ahead}
use Rattle.engine_parts.proofs.Resting.{rests_on}
use Rattle.dbg_engine.proofs.OwnLines.{own_ends, own_stays}
use Rattle.dbg_engine.proofs.Within.{has_core, has_mind, has_room, within_budget}
use Rattle.dbg_engine.proofs.engine.Engine.run_on_line.Goals as goal

pub overflow_sub-self-inside : goal.overflow_sub-self-inside
overflow_sub-self-inside c = within_budget (run_of c.self.inside) c.args.self.now c.self.view_is c.requires.may

pub stay-stayed-requires : goal.stay-stayed-requires
stay-stayed-requires c = has_core (run_of c.self.inside) c.args.self.now c.args.h c.args.mind c.self.view_is c.self.invariant.facts.sound c.requires.mind

pub lengthen-requires-clause-room : goal.lengthen-requires-clause-room
lengthen-requires-clause-room c = has_room (run_of c.self.inside) c.args.self.now c.self.view_is c.requires.spare

pub index_mut-requires : goal.index_mut-requires
index_mut-requires c =
    let here = has_mind (run_of c.self.inside) c.args.self.now c.args.h c.args.mind c.self.view_is c.requires.mind in
    subst (λ (n : ℕ). c.args.h < n) (sym c.self.inside.minds.ok.0) here

pub lengthen-requires-clause-last : goal.lengthen-requires-clause-last
lengthen-requires-clause-last c =
    let r = run_of c.self.inside in
    let k = small_of r c.args.self.now c.self.view_is c.self.invariant.facts.sound c.requires.may in
    omega (arith, k.last, c.min-most.ensures, c.from.ensures, c.from-count.ensures, c.stay-stayed.ensures.limit)

still : (c : goal.Then-stayed-eq0) → c.stay-stayed.new.machine ≡ (run_of c.self.inside).machine
still c =
    let r = run_of c.self.inside in
    let p = c.stay-stayed.result in
    let new = c.stay-stayed.new.machine in
    let stays = own_stays r c.args.h c.args.file c.args.line p.count p.last _ r.machine new c.lines.ensures c.stay-stayed.ensures.stays in
    none_stayed (on_line r c.args.h c.args.file c.args.line) p.count p.last r.machine new c.if-stayed-eq0.true stays

kept : (c : goal.Then-stayed-eq0) → Facts (record (run_of c.self.inside) { machine = c.stay-stayed.new.machine })
kept c = let r = run_of c.self.inside in subst (λ (m : Patched). Facts (record r { machine = m })) (sym (still c)) c.self.invariant.facts

pub returns-then-stayed-eq0-clause-facts : goal.returns-then-stayed-eq0-clause-facts
returns-then-stayed-eq0-clause-facts c = kept c

pub returns-then-stayed-eq0-clause-turns : goal.returns-then-stayed-eq0-clause-turns
returns-then-stayed-eq0-clause-turns c = ap (λ (m : Patched). let q : Engine = record (run_of c.self.inside) { machine = m } in q) (still c) ∙ c.self.view_is

pub invariant_of-self : goal.invariant_of-self
invariant_of-self c = record { facts = kept c }

-- the hart is what was looked at
same : (c : goal.After-self-2-1) → c.index_mut.result.now ≡ c.args.mind
same c =
    let r = run_of c.self.inside in
    c.index_mut.ensures.value ∙ get_or_from_slice_get r.minds c.args.h c.args.mind c.index_mut.result.now (ap (λ (q : Engine). slice_get q.minds c.args.h) c.self.view_is ∙ c.requires.mind)

-- the engine so many instructions on
abbrev new_run : goal.After-self-2-1 → Engine
new_run c =
    let r = run_of c.self.inside in
    record r {
      journal = c.lengthen.new.self.entries;
      spare = c.lengthen.new.self.spare;
      machine = c.stay-stayed.new.machine;
      minds = slice_set r.minds c.args.h c.keep_going.new.mind;
      retired = r.retired + c.from-count.result;
    }

gone : (c : goal.After-self-2-1) → Ahead c.stay-stayed.result.count (run_of c.self.inside) (new_run c) c.args.h
gone c =
    let r = run_of c.self.inside in
    let p = c.stay-stayed.result in
    let stays = own_stays r c.args.h c.args.file c.args.line p.count p.last _ r.machine c.stay-stayed.new.machine c.lines.ensures c.stay-stayed.ensures.stays in
    stayed_to r c.args.self.now c.args.h c.lengthen.new.self.spare p.count p.last c.args.file c.args.line c.requires.plan.0 c.args.mind c.keep_going.new.mind c.stay-stayed.new.machine c.lengthen.new.self.entries c.from-count.result
    c.self.view_is (omega arith) c.self.invariant.facts c.requires.may c.requires.mind c.requires.plan.1
    (ap (λ (q : Engine). is_alone q.opening.image c.args.mind q.hold) c.self.view_is ∙ c.requires.alone)
    (omega (arith, c.min-most.ensures, c.stay-stayed.ensures.limit)) stays
    (c.lengthen.ensures.entries ∙ ap (λ n. lengthened_by n r.journal c.args.h) c.from-count.ensures) (c.keep_going.ensures ∙ ap (λ (x : Mind). ran_mind x.course.plan (Some c.stay-stayed.result.last) None x) (same c)) c.from-count.ensures

pub invariant_of-self-2 : goal.invariant_of-self-2
invariant_of-self-2 c = record { facts = (gone c).facts }

pub returns-clause-facts : goal.returns-clause-facts
returns-clause-facts c = (gone c).facts

pub returns-clause-turns : goal.returns-clause-turns
returns-clause-turns c = turned_at c.stay-stayed.result.count (run_of c.self.inside) c.args.self.now (new_run c) c.args.h c.self.view_is (gone c).turns

pub returns-clause-far : goal.returns-clause-far
returns-clause-far c =
    let r = run_of c.self.inside in
    let p = c.stay-stayed.result in
    let at = ap (λ (q : Engine). slice_get q.minds c.args.h) c.self.view_is ∙ c.requires.mind in
    let set = get-set_same r.minds c.args.h c.keep_going.new.mind c.args.mind at in
    let plan = ap (λ (x : Mind). x.course.plan) (c.keep_going.ensures ∙ ap (λ (x : Mind). ran_mind x.course.plan (Some c.stay-stayed.result.last) None x) (same c)) ∙ c.requires.plan.1 in
    λ less.
    rests_on (new_run c) c.args.h c.args.file c.args.line p.count c.min-most.result c.args.limit c.requires.plan.0 c.keep_going.new.mind set plan less
    (λ few same. omega (arith, c.min-most.ensures, c.from-count.ensures, few, same)) c.stay-stayed.ensures.limit
    (λ e. own_ends r c.args.h c.args.file c.args.line _ c.stay-stayed.new.machine c.lines.ensures (c.stay-stayed.ensures.far e))

pub returns-then-stayed-eq0-clause-far : goal.returns-then-stayed-eq0-clause-far
returns-then-stayed-eq0-clause-far c =
    let r = run_of c.self.inside in
    let p = c.stay-stayed.result in
    let at = ap (λ (q : Engine). slice_get q.minds c.args.h) c.self.view_is ∙ c.requires.mind in
    λ less.
    rests_on (record r { machine = c.stay-stayed.new.machine }) c.args.h c.args.file c.args.line p.count c.min-most.result c.args.limit c.requires.plan.0 c.args.mind at c.requires.plan.1
    (omega (arith, less, c.if-stayed-eq0.true)) (λ few same. omega (arith, c.min-most.ensures, few, same, c.if-stayed-eq0.true)) c.stay-stayed.ensures.limit
    (λ e. own_ends r c.args.h c.args.file c.args.line _ c.stay-stayed.new.machine c.lines.ensures (c.stay-stayed.ensures.far e))
