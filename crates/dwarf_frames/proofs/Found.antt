-- The marks that a search among FDEs finds.
use Rattle.std.proofs.Common.{◌≡◌, ◌<◌, ℕ, List, length, get_or, All, Some, Ok, sym, subst, ◌∙◌, ap}
use Rattle.dwarf_frames.specs.Entries.{Fde, fde_at}
use Rattle.dwarf_frames.specs.Marks.{AreMarks, IsMarked}
use Rattle.dwarf_frames.specs.Starts.{Start, start_at}
use Rattle.dwarf_frames.specs.declared.mark.Mark.{Mark}
use Rattle.dwarf_frames.specs.declared.marks.MarkedFde.{MarkedFde}

pub marks_found : (kept shown : List ℕ) (table lent : List MarkedFde) (count place : ℕ) (m : MarkedFde) (marks : List Mark) (d : Fde) (s : Start)
    → All (IsMarked kept) table → kept ≡ shown → lent ≡ table → count < length lent → m ≡ get_or lent count m → m.place ≡ place
    → fde_at shown place ≡ Ok (Some d) → start_at shown d.cie_pointer ≡ Ok s → marks ≡ m.marks.items → AreMarks s d marks
marks_found kept shown table lent count place m marks d s all k l within here at f st e =
    let is : IsMarked kept m = subst (IsMarked kept) (sym (here ∙ ap (λ (list : List MarkedFde). get_or list count m) l)) (all count m (subst (λ (list : List MarkedFde). count < length list) l within)) in
    subst (AreMarks s d) (sym e) (is.marks d s (ap (λ (bytes : List ℕ). fde_at bytes m.place) k ∙ ap (fde_at shown) at ∙ f) (ap (λ (bytes : List ℕ). start_at bytes d.cie_pointer) k ∙ st))
