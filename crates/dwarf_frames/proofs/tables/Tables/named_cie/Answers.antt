use Rattle.std.proofs.Common.{◌≡◌, ℕ, List, Bool, true, false, Result, refl, sym, subst, ◌∙◌, ap}
use Rattle.std.specs.Prelude.{if◌then◌else◌}
use Rattle.std.specs.Result.{is_err}
use Rattle.dwarf_frames.specs.Entries.{Cie, cie_at}
use Rattle.dwarf_frames.specs.Gives.{GivesCie}
use Rattle.dwarf_frames.specs.Rules.{named_cie}
use Rattle.dwarf_frames.specs.declared.fault.FrameFault.{FrameFault}
use Rattle.dwarf_frames.proofs.Named.{cie_if, named_by}
use Rattle.dwarf_frames.proofs.tables.Tables.named_cie.Goals as goal

pub returns-then-is_err-clause-value : goal.returns-then-is_err-clause-value
returns-then-is_err-clause-value c =
    let i = c.self.inside in
    let none : is_err c.binary_search.result ≡ true = sym c.is_err.ensures.value ∙ c.if-is_err.true in
    sym (named_by c.args.place i.section.items i.section.items c.args.self.now c.deref.result.now i.cies.items c.binary_search.result
    refl c.self.view_is c.self.invariant.cies c.self.invariant.ordered c.deref.ensures.value c.binary_search.ensures.position)
    ∙ ap (λ (b : Bool). cie_if i.section.items c.args.place (if b then false else true)) none

pub returns-clause-value : goal.returns-clause-value
returns-clause-value c =
    let i = c.self.inside in
    let lent : List ℕ = c.deref-2.result.now in
    let some : is_err c.binary_search.result ≡ false = sym c.is_err.ensures.value ∙ c.if-is_err.false in
    let found : cie_at lent c.args.place ≡ named_cie c.args.self.now c.args.place =
    sym (ap (λ (b : Bool). cie_if lent c.args.place (if b then false else true)) some)
    ∙ named_by c.args.place lent i.section.items c.args.self.now c.deref.result.now i.cies.items c.binary_search.result
    c.deref-2.ensures.value c.self.view_is c.self.invariant.cies c.self.invariant.ordered c.deref.ensures.value c.binary_search.ensures.position in
    subst (λ (r : Result Cie FrameFault). GivesCie c.cie_at.result r) found c.cie_at.ensures.value
