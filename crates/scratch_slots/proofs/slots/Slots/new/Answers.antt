use Rattle.std.proofs.Common.{arith, None}
use Rattle.std.proofs.lemmas.List.{take-replicate}
use Rattle.scratch_slots.proofs.Uses.{indexed_new, length_none}
use Rattle.scratch_slots.proofs.slots.Slots.new.Goals as goal

pub invariant_of-result : goal.invariant_of-result
invariant_of-result c = (c.requires, length_none 512, indexed_new c.loop-k.free c.args.count c.loop-k.k (omega arith) c.requires c.loop-k.invariant.1)

pub returns : goal.returns
returns c = take-replicate c.args.count 512 None c.requires
