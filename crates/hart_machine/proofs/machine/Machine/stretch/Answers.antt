use Rattle.std.proofs.Common.{◌≡◌, ℕ, ◌+◌, ◌-◌, ◌^◌, ◌<◌, length, min, refl, sym, ap, ◌∙◌, subst, arith, length-set}
use Rattle.std.specs.Prelude.{slice_get, Some}
use Rattle.std.proofs.lemmas.Option.{slice_get_read}
use Rattle.hart_machine.specs.contracts.machine.Machine.{the_view}
use Rattle.hart_machine.specs.declared.hart.Core.{Core}
use Rattle.hart_machine.specs.Patched.{Patched}
use Rattle.hart_machine.specs.Slices.{window}
use Rattle.hart_machine.proofs.Slices.{stretched, stretched_steps}
use Rattle.hart_machine.proofs.machine.Machine.stretch.Goals as goal

core_in : (c : goal.After-self-1) → slice_get c.self.inside.cores.items c.args.h ≡ Some c.index_mut-core.result.now
core_in c =
    let inside : c.args.h < length c.self.inside.cores.items = subst (λ (m : Patched). c.args.h < length m.cores) (sym c.self.view_is) c.requires in
    slice_get_read c.self.inside.cores.items _ c.args.h c.index_mut-core.result.now refl inside c.index_mut-core.ensures.value

counts : (c : goal.After-self-1) → c.saturating_add-core.result ≡ min (c.index_mut-core.result.now.retired + c.run_alone-count.result) (2 ^ 64 - 1)
counts c = c.saturating_add-core.ensures ∙ ap (λ (n : ℕ). min (c.index_mut-core.result.now.retired + n) (2 ^ 64 - 1)) c.from.ensures

pub returns-clause-limit : goal.returns-clause-limit
returns-clause-limit c = c.run_alone-count.ensures.limit

pub returns-clause-harts : goal.returns-clause-harts
returns-clause-harts c = length-set c.self.inside.cores.items c.args.h _ ∙ ap (λ (m : Patched). length m.cores) c.self.view_is

pub returns-clause-stretches : goal.returns-clause-stretches
returns-clause-stretches c =
    let m = the_view c.self.inside in
    let k : Core = c.index_mut-core.result.now in
    let at = c.pc-at.result in
    let words = window m.text at in
    let n = c.run_alone-count.result in
    let decoded = c.operations_in_place-operations.ensures.decoded in
    stretched m c.args.self.now c.args.h c.args.limit n at c.saturating_add-core.result k c.run_alone-count.new.regs c.self.view_is (core_in c) c.pc-at.ensures (c.run_alone-count.ensures.slice words decoded) (counts c)
    (λ i q few leads. c.run_alone-count.ensures.greatest words i q decoded few leads)

pub returns-clause-steps : goal.returns-clause-steps
returns-clause-steps c =
    let m = the_view c.self.inside in
    let k : Core = c.index_mut-core.result.now in
    let at = c.pc-at.result in
    let words = window m.text at in
    let n = c.run_alone-count.result in
    let low : k.retired < 2 ^ 64 = omega arith in
    stretched_steps m c.args.self.now c.args.h c.args.limit n at c.saturating_add-core.result k c.run_alone-count.new.regs c.self.view_is (core_in c) c.pc-at.ensures (c.run_alone-count.ensures.slice words c.operations_in_place-operations.ensures.decoded) (counts c)
    c.pc-at.type_inv low
