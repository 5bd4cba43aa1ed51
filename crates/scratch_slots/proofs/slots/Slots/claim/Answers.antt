use Rattle.std.proofs.Common.{◌≡◌, sym, ap, ◌∙◌, take, slice_set, List, Some, None, refl}
use Rattle.std.specs.Option.{option_map}
use Rattle.scratch_slots.specs.Index.{IsFirst}
use Rattle.scratch_slots.specs.Table.{slot_address, least_free}
use Rattle.scratch_slots.proofs.Uses.{none_in, first_in, take_set, length_set, indexed_set}
use Rattle.scratch_slots.proofs.slots.Slots.claim.Goals as goal

none : (c : goal.In_default) → least_free c.args.self.now ≡ None
none c = ap least_free (sym c.self.view_is) ∙ none_in c.self.inside.free c.self.inside.count c.self.inside.uses c.self.invariant.0 c.self.invariant.2 c.in_default.ensures.none

pub returns-in_default-clause-slot : goal.returns-in_default-clause-slot
returns-in_default-clause-slot c = sym (ap (option_map slot_address) (none c))

pub returns-in_default-clause-slots : goal.returns-in_default-clause-slots
returns-in_default-clause-slots c = rw (none c) refl

pub invariant_of-self : goal.invariant_of-self
invariant_of-self c =
    let first : IsFirst c.self.inside.free c.in-Some.k = c.in-Some.ensures.some in
    let t : List _ = take c.self.inside.count c.self.inside.uses in (
      c.self.invariant.0,
      length_set _ _ _ ∙ c.self.invariant.1,
      rw (take_set c.self.inside.count c.self.inside.uses c.in-Some.k)
          (indexed_set c.self.inside.free _ t c.in-Some.k 0 (Some (record { hart = c.args.hart; word = c.args.word })) c.self.invariant.2 c.clear_bit.ensures (first_in c.self.inside.free t c.in-Some.k c.self.invariant.2 first).1 refl),
    )

found : (c : goal.After-way_told-1) → least_free c.args.self.now ≡ Some c.in-Some.k
found c = ap least_free (sym c.self.view_is) ∙ (first_in c.self.inside.free (take c.self.inside.count c.self.inside.uses) c.in-Some.k c.self.invariant.2 c.in-Some.ensures.some).0

pub returns-clause-slot : goal.returns-clause-slot
returns-clause-slot c = sym (ap (option_map slot_address) (found c))

pub returns-clause-slots : goal.returns-clause-slots
returns-clause-slots c =
    rw (found c)
    (take_set c.self.inside.count c.self.inside.uses c.in-Some.k (Some (record { hart = c.args.hart; word = c.args.word }))
    ∙ ap (λ t. slice_set t c.in-Some.k (Some (record { hart = c.args.hart; word = c.args.word }))) c.self.view_is)
