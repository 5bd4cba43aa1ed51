use Rattle.std.proofs.Common.{refl}
use Rattle.data_memory.proofs.Bytes.{new_length, new_absent}
use Rattle.data_memory.proofs.frames.Frames.new.Goals as goal

pub returns-clause-size : goal.returns-clause-size
returns-clause-size c =
    new_length c.in_ok-accesses.accesses.items c.in_ok-values.values.items 512 512 (c.in_ok-accesses.ensures.items_if_clones_equal (λ y e. e)) (c.in_ok-values.ensures.items_if_clones_equal (λ y e. e)) refl

pub returns-clause-absent : goal.returns-clause-absent
returns-clause-absent c i = new_absent c.in_ok-accesses.accesses.items c.in_ok-values.values.items 512 i (c.in_ok-accesses.ensures.items_if_clones_equal (λ y e. e))
