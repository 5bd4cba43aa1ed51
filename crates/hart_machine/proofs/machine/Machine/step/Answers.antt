use Rattle.std.proofs.Common.{◌≡◌, ◌<◌, length, refl, ap, sym, ◌∙◌, subst, arith}
use Rattle.std.specs.Prelude.{slice_get, Some}
use Rattle.std.proofs.lemmas.Option.{get_or_from_slice_get, slice_get_read}
use Rattle.hart_machine.specs.contracts.machine.Machine.{the_view}
use Rattle.hart_machine.specs.declared.hart.Core.{Core}
use Rattle.hart_machine.specs.Patched.{Patched}
use Rattle.hart_machine.specs.Stepping.{AreCounted, CoreSteps, fetched_by}
use Rattle.hart_machine.proofs.Counts.{set_counted}
use Rattle.hart_machine.proofs.Stepping.{steps_to, machine_same}
use Rattle.hart_machine.proofs.machine.Machine.step.Goals as goal

core_in : (c : goal.After-self-1) → slice_get c.self.inside.cores.items c.args.h ≡ Some c.index_mut.result.now
core_in c =
    let inside : c.args.h < length c.self.inside.cores.items = omega (arith, c.requires.hart, ap (λ (m : Patched). length m.cores) c.self.view_is) in
    slice_get_read c.self.inside.cores.items _ c.args.h c.index_mut.result.now refl inside c.index_mut.ensures.value

pub returns-clause-counts : goal.returns-clause-counts
returns-clause-counts c = subst (λ (m : Patched). AreCounted m.cores) c.self.view_is c.self.invariant

pub invariant_of-self : goal.invariant_of-self
invariant_of-self c =
    set_counted c.self.inside.cores.items c.args.h c.step_core.new.core c.self.invariant
    c.step_core.ensures.copies

pub returns-clause-step : goal.returns-clause-step
returns-clause-step c =
    λ k at.
    steps_to (the_view c.self.inside) c.args.self.now c.args.h k c.index_mut.result.now c.step_core.new.core c.step_core.new.memory c.step_core.result c.self.view_is at
    (c.index_mut.ensures.value ∙ get_or_from_slice_get c.self.inside.cores.items c.args.h k c.index_mut.result.now (ap (λ (m : Patched). slice_get m.cores c.args.h) c.self.view_is ∙ at))
    c.step_core.ensures.pc
    (subst (λ s. CoreSteps c.step_core.result (fetched_by c.self.inside.text s c.index_mut.result.now) c.index_mut.result.now c.step_core.new.core c.self.inside.memory c.step_core.new.memory)
    c.deref.ensures c.step_core.ensures.step)

pub returns-clause-stopped : goal.returns-clause-stopped
returns-clause-stopped c =
    λ e.
    let k : Core = c.index_mut.result.now in
    let at : slice_get c.args.self.now.cores c.args.h ≡ Some k = ap (λ (m : Patched). slice_get m.cores c.args.h) (sym c.self.view_is) ∙ core_in c in
    machine_same c.step_core.result c.args.self.now _ c.args.h k at e (returns-clause-step c k at)
