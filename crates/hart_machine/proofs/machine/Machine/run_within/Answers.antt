use Rattle.std.proofs.Common.{◌≡◌, ◌<◌, length, refl, ap, subst, arith}
use Rattle.std.specs.Prelude.{slice_get, Some}
use Rattle.std.proofs.lemmas.Option.{slice_get_read}
use Rattle.hart_machine.specs.contracts.machine.Machine.{the_view}
use Rattle.hart_machine.specs.Patched.{Patched}
use Rattle.hart_machine.specs.Stepping.{AreCounted}
use Rattle.hart_machine.specs.Within.{is_among}
use Rattle.hart_machine.proofs.Counts.{set_counted}
use Rattle.hart_machine.proofs.Inner.{machine_ran_at}
use Rattle.hart_machine.proofs.machine.Machine.run_within.Goals as goal

core_in : (c : goal.After-self-1) → slice_get c.self.inside.cores.items c.args.h ≡ Some c.index_mut.result.now
core_in c =
    let inside : c.args.h < length c.self.inside.cores.items = omega (arith, c.requires, ap (λ (m : Patched). length m.cores) c.self.view_is) in
    slice_get_read c.self.inside.cores.items _ c.args.h c.index_mut.result.now refl inside c.index_mut.ensures.value

pub returns-clause-counts : goal.returns-clause-counts
returns-clause-counts c = subst (λ (m : Patched). AreCounted m.cores) c.self.view_is c.self.invariant

pub invariant_of-self : goal.invariant_of-self
invariant_of-self c = set_counted c.self.inside.cores.items c.args.h c.run_within.new.core c.self.invariant c.run_within.ensures.copies

pub returns-clause-runs : goal.returns-clause-runs
returns-clause-runs c =
    machine_ran_at (is_among c.args.bounds.start c.args.bounds.end) (the_view c.self.inside) c.args.self.now c.args.h c.index_mut.result.now
    c.run_within.new.core c.run_within.new.memory c.run_within.result.count c.run_within.result.last c.self.view_is (core_in c)
    c.run_within.ensures.runs
