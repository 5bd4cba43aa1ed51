use Rattle.std.proofs.Common.{◌≡◌, ℕ, Option, None, Some, Ok, Err, refl, rules, sym, ◌∙◌, ap}
use Rattle.std.specs.Option.{option_map}
use Rattle.dwarf_frames.specs.Entries.{fde_at}
use Rattle.dwarf_frames.specs.Gives.{seen_fde}
use Rattle.dwarf_frames.specs.Index.{fde_told}
use Rattle.dwarf_frames.specs.Starts.{seen_start}
use Rattle.dwarf_frames.specs.declared.entry.Fde.{Fde}
use Rattle.dwarf_frames.proofs.Described.{rules_at_fde, rules_from_fde, rules_told}
use Rattle.dwarf_frames.proofs.Kept.{is_read}
use Rattle.dwarf_frames.proofs.index.FrameIndex.rules_at.Goals as goal

pub returns-in_err-place-clause-value : goal.returns-in_err-place-clause-value
returns-in_err-place-clause-value c =
    let fault = rules_told c.self.inside.tables c.args.self.now c.args.pc (Err c.in_err-place.field-0.0) (Err c.in_err-place.field-0.0) c.self.view_is c.in_err-place.ensures refl in
    search (rules, fault)

pub returns-in_default-clause-value : goal.returns-in_default-clause-value
returns-in_default-clause-value c =
    let kept = c.self.inside.tables in
    sym (rules_told kept c.args.self.now c.args.pc (Ok c.in_ok-place.field-0) (Ok None) c.self.view_is c.in_ok-place.ensures (ap (λ (p : Option ℕ). fde_told kept (Ok p)) c.in_default.is))

pub returns-in_err-fde-clause-value : goal.returns-in_err-fde-clause-value
returns-in_err-fde-clause-value c =
    let kept = c.self.inside.tables in
    let fault = rules_told kept c.args.self.now c.args.pc (Ok c.in_ok-place.field-0) (Err c.in_err-fde.field-0.0) c.self.view_is c.in_ok-place.ensures (ap (λ (p : Option ℕ). fde_told kept (Ok p)) c.in-Some.is ∙ c.in_err-fde.ensures) in
    search (rules, fault)

pub returns-in_default-2-clause-value : goal.returns-in_default-2-clause-value
returns-in_default-2-clause-value c =
    let kept = c.self.inside.tables in
    let none : fde_at kept c.in-Some.place ≡ Ok None = is_read c.in_ok-fde.field-0 (fde_at kept c.in-Some.place) c.in_ok-fde.ensures ∙ ap (λ (d : Option Fde). Ok (option_map seen_fde d)) c.in_default-2.is in
    sym (rules_told kept c.args.self.now c.args.pc (Ok c.in_ok-place.field-0) (Ok None) c.self.view_is c.in_ok-place.ensures (ap (λ (p : Option ℕ). fde_told kept (Ok p)) c.in-Some.is ∙ none))

pub returns-in_err-start-clause-value : goal.returns-in_err-start-clause-value
returns-in_err-start-clause-value c =
    let kept = c.self.inside.tables in
    let d = seen_fde c.in-Some-2.fde in
    let read : fde_at kept c.in-Some.place ≡ Ok (Some d) = search rules in
    let fault = rules_at_fde kept c.args.self.now c.args.pc c.in-Some.place c.in_ok-place.field-0 d (Err c.in_err-start.field-0.0) c.self.view_is c.in_ok-place.ensures c.in-Some.is read c.in_err-start.ensures.value in
    search (rules, fault)

pub returns-in_err-rules_from-clause-value : goal.returns-in_err-rules_from-clause-value
returns-in_err-rules_from-clause-value c =
    let kept = c.self.inside.tables in
    let d = seen_fde c.in-Some-2.fde in
    let read : fde_at kept c.in-Some.place ≡ Ok (Some d) = search rules in
    let fault = rules_from_fde kept c.args.self.now c.args.pc c.in-Some.place c.in_ok-place.field-0 d (seen_start c.in_ok-start.start) (Err c.in_err-rules_from.field-0.0)
    c.self.view_is c.in_ok-place.ensures c.in-Some.is read c.in_ok-start.ensures.value c.in_err-rules_from.ensures.value in
    search (rules, fault)

pub returns-clause-value : goal.returns-clause-value
returns-clause-value c =
    let kept = c.self.inside.tables in
    let d = seen_fde c.in-Some-2.fde in
    let read : fde_at kept c.in-Some.place ≡ Ok (Some d) = search rules in
    sym (rules_from_fde kept c.args.self.now c.args.pc c.in-Some.place c.in_ok-place.field-0 d (seen_start c.in_ok-start.start) (Ok c.in_ok-rules_from.field-0)
    c.self.view_is c.in_ok-place.ensures c.in-Some.is read c.in_ok-start.ensures.value c.in_ok-rules_from.ensures.value)
