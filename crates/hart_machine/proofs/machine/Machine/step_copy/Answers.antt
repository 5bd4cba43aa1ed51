use Rattle.std.proofs.Common.{◌≡◌, ◌<◌, length, refl, ap, ◌∙◌, subst, arith}
use Rattle.std.specs.Prelude.{slice_get, slice_set, Some}
use Rattle.std.proofs.lemmas.Option.{slice_get_read}
use Rattle.hart_machine.specs.contracts.machine.Machine.{the_view}
use Rattle.hart_machine.specs.Patched.{Patched}
use Rattle.hart_machine.specs.Stepping.{AreCounted}
use Rattle.hart_machine.specs.Copying.{StepsByCopy}
use Rattle.hart_machine.proofs.Counts.{set_counted}
use Rattle.hart_machine.proofs.ByCopy.{stepped_by_copy, nothing_copied}
use Rattle.hart_machine.proofs.machine.Machine.step_copy.Goals as goal

core_in : (c : goal.After-self-3-1) → slice_get c.self.inside.cores.items c.args.h ≡ Some c.index_mut.result.now
core_in c =
    let inside : c.args.h < length c.self.inside.cores.items = omega (arith, c.requires, ap (λ (m : Patched). length m.cores) c.self.view_is) in
    slice_get_read c.self.inside.cores.items _ c.args.h c.index_mut.result.now refl inside c.index_mut.ensures.value

pub copy_core-copied-requires : goal.copy_core-copied-requires
copy_core-copied-requires c =
    let inside : c.args.h < length c.self.inside.cores.items = omega (arith, c.requires, ap (λ (m : Patched). length m.cores) c.self.view_is) in
    c.self.invariant c.args.h c.index_mut.result.now (slice_get_read c.self.inside.cores.items _ c.args.h c.index_mut.result.now refl inside c.index_mut.ensures.value)

pub invariant_of-self-2 : goal.invariant_of-self-2
invariant_of-self-2 c = set_counted c.self.inside.cores.items c.args.h c.copy_core-copied.new.core c.self.invariant c.copy_core-copied.ensures.copies

pub returns-clause-counts : goal.returns-clause-counts
returns-clause-counts c done = subst (λ (m : Patched). AreCounted m.cores) c.self.view_is c.self.invariant

pub returns-clause-steps : goal.returns-clause-steps
returns-clause-steps c done =
    let old = the_view c.self.inside in
    let e = c.deref_mut.ensures.value in
    let f = c.deref_mut-2.ensures.value in
    let d = c.copy_core-copied.new.core in
    let q = c.copy_core-copied.new.memory in
    let P : Patched → Type 0 = λ m. StepsByCopy m c.args.h c.args.word (record old { cores = slice_set old.cores c.args.h d; memory = q; slots = c.free.new.self }) in
    subst P c.self.view_is
    (stepped_by_copy old c.args.h c.args.word c.in-Some-claim.slot c.in-Some.instruction c.index_mut.result.now d q c.claim.new.self c.free.new.self (core_in c) (omega arith) c.in-Some.ensures (c.copy_core-copied.ensures.ran done)
    (rw e at c.in-Some-claim.ensures.slot) (rw e at c.claim.ensures.slots) (rw e at c.in-Some-claim.ensures.was_free) c.in-Some-claim.ensures.taken
    (rw e at c.in-Some-claim.ensures.others) (rw f at c.free.ensures.slots) c.free.ensures.freed (rw f at c.free.ensures.others))

pub returns-clause-kept : goal.returns-clause-kept
returns-clause-kept c not =
    let old = the_view c.self.inside in
    let e = c.deref_mut.ensures.value in
    let f = c.deref_mut-2.ensures.value in
    let same = c.copy_core-copied.ensures.kept not in
    nothing_copied old c.args.h c.in-Some-claim.slot (record { hart = c.args.h; word = c.args.word }) c.index_mut.result.now
    c.copy_core-copied.new.core c.copy_core-copied.new.memory c.claim.new.self c.free.new.self (core_in c) same.0 same.1
    (rw e at c.in-Some-claim.ensures.slot) (rw e at c.claim.ensures.slots) (rw f at c.free.ensures.slots) ∙ c.self.view_is
