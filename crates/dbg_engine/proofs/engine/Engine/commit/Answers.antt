use Rattle.std.proofs.Common.{ℕ, ◌+◌, ◌<◌, refl, sym, ap, ◌∙◌, subst, arith}
use Rattle.std.specs.Prelude.{slice_set}
use Rattle.hart_machine.specs.Slices.{TakesSlice}
use Rattle.engine_parts.specs.Seen.{Engine}
use Rattle.dbg_model.specs.Journals.{lengthened_by}
use Rattle.dbg_engine.specs.EngineInside.{run_of}
use Rattle.dbg_engine.proofs.Within.{fits_left, has_core, has_mind, has_room}
use Rattle.engine_parts.proofs.Taking.{Taken, taken_at, taken_to}
use Rattle.dbg_engine.proofs.engine.Engine.commit.Goals as goal

pub take_slice-requires : goal.take_slice-requires
take_slice-requires c = has_core (run_of c.self.inside) c.args.self.now c.args.slice.now.hart c.mind-mind.result c.self.view_is c.self.invariant.facts.sound c.mind-mind.ensures

pub lengthen-requires-clause-room : goal.lengthen-requires-clause-room
lengthen-requires-clause-room c = has_room (run_of c.self.inside) c.args.self.now c.self.view_is c.requires.spare

pub lengthen-requires-clause-last : goal.lengthen-requires-clause-last
lengthen-requires-clause-last c =
    let can = c.if-not-can_take.ensures.0 refl in
    (fits_left (run_of c.self.inside) c.args.self.now _ c.args.slice.now.count c.self.view_is c.self.invariant.facts.sound can.may c.from-count.ensures can.budget).0

pub index_mut-requires : goal.index_mut-requires
index_mut-requires c =
    let here = has_mind (run_of c.self.inside) c.args.self.now c.args.slice.now.hart c.mind-mind.result c.self.view_is c.mind-mind.ensures in
    subst (λ (n : ℕ). c.args.slice.now.hart < n) (sym c.self.inside.minds.ok.0) here

pub overflow_add-self : goal.overflow_add-self
overflow_add-self c =
    let can = c.if-not-can_take.ensures.0 refl in
    (fits_left (run_of c.self.inside) c.args.self.now _ c.args.slice.now.count c.self.view_is c.self.invariant.facts.sound can.may c.from-count.ensures can.budget).1

-- the engine with the slice's instructions done
abbrev new_run : goal.After-self-2-1 → Engine
new_run c =
    let r = run_of c.self.inside in
    record r { journal = c.lengthen.new.self.entries; spare = c.lengthen.new.self.spare; machine = c.take_slice.new.self; minds = slice_set r.minds c.args.slice.now.hart c.ran_mind.result; retired = r.retired + c.from-count.result }

taken : (c : goal.After-self-2-1) → Taken c.args.slice.now.count (run_of c.self.inside) (new_run c) c.args.slice.now.hart
taken c =
    let r = run_of c.self.inside in
    let slice = c.args.slice.now in
    taken_to r c.args.self.now slice c.lengthen.new.self.spare c.mind-mind.result c.ran_mind.result c.take_slice.new.self c.lengthen.new.self.entries c.from-count.result c.self.view_is (omega (arith, c.requires.some)) c.self.invariant.facts
    (c.if-not-can_take.ensures.0 refl) c.mind-mind.ensures c.take_slice.ensures.steps (c.lengthen.ensures.entries ∙ ap (λ n. lengthened_by n r.journal slice.hart) c.from-count.ensures) c.ran_mind.ensures c.from-count.ensures

pub invariant_of-self : goal.invariant_of-self
invariant_of-self c = record { facts = (taken c).facts }

pub returns-clause-facts : goal.returns-clause-facts
returns-clause-facts c = (taken c).facts

pub returns-clause-took : goal.returns-clause-took
returns-clause-took c took =
    let slice = c.args.slice.now in
    let M : Engine → Type 0 = λ q. TakesSlice q.machine slice.hart slice.count slice.after c.take_slice.new.self in
    record { ran = taken_at slice.count (run_of c.self.inside) c.args.self.now (new_run c) slice.hart c.self.view_is (taken c).ran; machine = subst M c.self.view_is c.take_slice.ensures.taken }
