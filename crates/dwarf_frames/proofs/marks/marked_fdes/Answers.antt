use Rattle.std.proofs.Common.{◌≡◌, ℕ, List, Option, Some, Ok, sym, subst, ◌∙◌, ap}
use Rattle.std.specs.Option.{IfSome, option_map}
use Rattle.std.proofs.lemmas.List.Elements.{All-push}
use Rattle.dwarf_frames.specs.Entries.{fde_at, fde_of}
use Rattle.dwarf_frames.specs.Gives.{seen_fde}
use Rattle.dwarf_frames.specs.Marks.{IsMarked}
use Rattle.dwarf_frames.specs.declared.entry.Fde.{Fde}
use Rattle.dwarf_frames.specs.declared.marks.MarkedFde.{MarkedFde}
use Rattle.dwarf_frames.proofs.Covering.{at_place}
use Rattle.dwarf_frames.proofs.Kept.{is_read}
use Rattle.dwarf_frames.proofs.marks.marked_fdes.Goals as goal

pub marked_fde-requires-clause-fde : goal.marked_fde-requires-clause-fde
marked_fde-requires-clause-fde c =
    let section = c.section-section.result.now in
    let body = c.in-Ok.body.now in
    let read : fde_of body ≡ Ok (Some (seen_fde c.in-Some.fde)) = is_read c.in-Ok-fde_of.fde (fde_of body) c.in-Ok-fde_of.ensures ∙ ap (λ (d : Option Fde). Ok (option_map seen_fde d)) c.in-Some.is in
    ap (λ (bytes : List ℕ). fde_at bytes c.loop-at.at) (sym c.section-section.ensures) ∙ sym (at_place section body c.loop-at.at c.in-Ok.next (Some (seen_fde c.in-Some.fde)) c.in-Ok.ensures.value read)

pub loop-at-preserved-in_ok-push : goal.loop-at-preserved-in_ok-push
loop-at-preserved-in_ok-push c =
    let tables = c.args.tables.now in
    let marked : IsMarked tables c.in-Some-2.marked = subst (λ (o : Option MarkedFde). IfSome o (IsMarked tables)) c.in-Some-2.is c.in_ok-marked.ensures in
    rw c.in_ok-push.ensures.items (All-push (IsMarked tables) c.loop-at.found.items c.in-Some-2.marked c.loop-at.invariant marked)
