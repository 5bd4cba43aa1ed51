use Rattle.std.proofs.Common.{ap, ◌∙◌, slice_set, None}
use Rattle.scratch_slots.specs.Table.{slot_number}
use Rattle.scratch_slots.proofs.Uses.{take_set}
use Rattle.scratch_slots.proofs.slots.Slots.free.Goals as goal

pub returns-clause-slots : goal.returns-clause-slots
returns-clause-slots c =
    take_set c.self.inside.count c.self.inside.uses (slot_number c.args.slot) None
    ∙ ap (λ t. slice_set t (slot_number c.args.slot) None) c.self.view_is
