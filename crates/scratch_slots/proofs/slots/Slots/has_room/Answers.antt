use Rattle.std.proofs.Common.{sym, ap, ◌∙◌, take}
use Rattle.std.specs.Prelude.{is_some}
use Rattle.scratch_slots.specs.Table.{least_free}
use Rattle.scratch_slots.proofs.Uses.{none_in, first_in}
use Rattle.scratch_slots.proofs.slots.Slots.has_room.Goals as goal

pub returns-in_default : goal.returns-in_default
returns-in_default c =
    sym (ap (λ t. is_some (least_free t)) (sym c.self.view_is) ∙ ap is_some (none_in c.self.inside.free c.self.inside.count c.self.inside.uses c.self.invariant.0 c.self.invariant.2 c.in_default.ensures.none))

pub returns : goal.returns
returns c =
    sym (ap (λ t. is_some (least_free t)) (sym c.self.view_is) ∙ ap is_some (first_in c.self.inside.free (take c.self.inside.count c.self.inside.uses) c.in-Some._k c.self.invariant.2 c.in-Some.ensures.some).0)
