use Rattle.std.proofs.Common.{◌≡◌, ◌+◌, ◌-◌, ◌^◌, ◌<◌, length, min, refl, ap, sym, ◌∙◌, arith}
use Rattle.std.specs.Prelude.{slice_get, Some}
use Rattle.std.proofs.lemmas.Option.{slice_get_read}
use Rattle.hart_machine.specs.contracts.machine.Machine.{the_view}
use Rattle.hart_machine.specs.declared.hart.Core.{Core}
use Rattle.hart_machine.specs.Patched.{Patched}
use Rattle.hart_machine.proofs.Places.{same_some}
use Rattle.hart_machine.proofs.Slices.{slice_is_steps, takes_slice}
use Rattle.hart_machine.proofs.machine.Machine.take_slice.Goals as goal

pub returns-clause-steps : goal.returns-clause-steps
returns-clause-steps c f =
    let s = c.args.slice.now in
    let k : Core = c.index_mut-core.result.now in
    let inside : s.hart < length c.self.inside.cores.items = omega (arith, c.requires, ap (λ (m : Patched). length m.cores) c.self.view_is) in
    let at : slice_get c.self.inside.cores.items s.hart ≡ Some k = slice_get_read c.self.inside.cores.items _ s.hart k refl inside c.index_mut-core.ensures.value in
    let same : k ≡ f.core = same_some k f.core (sym at ∙ (ap (λ (m : Patched). slice_get m.cores s.hart) c.self.view_is ∙ f.there)) in
    let low : k.retired < 2 ^ 64 = omega arith in
    let few : f.core.retired < 2 ^ 64 = omega (arith, low, ap (λ (d : Core). d.retired) same) in
    let counts : c.saturating_add-core.result ≡ min (k.retired + s.count) (2 ^ 64 - 1) = omega (arith, c.saturating_add-core.ensures, c.from.ensures) in
    slice_is_steps c.args.self.now _ s.hart s.at s.count s.regs s.after s.words.items f few s.agrees
    (takes_slice (the_view c.self.inside) c.args.self.now s.hart s.count s.after k c.saturating_add-core.result c.self.view_is at counts)
