use Rattle.std.proofs.Common.{refl}
use Rattle.data_memory.specs.Blocks.{item_at}
use Rattle.data_memory.proofs.Blocked.{length-listed, zero_blocks, zero_frames}
use Rattle.data_memory.proofs.page_table.PageTable.new.Goals as goal

pub invariant_of-result : goal.invariant_of-result
invariant_of-result c =
    zero_blocks 16384 512 c.in_ok-directory.directory.items c.in_ok-tables.tables.items (c.in_ok-directory.ensures.items_if_clones_equal (λ y e. e)) (c.in_ok-tables.ensures.items_if_clones_equal (λ y e. e)) refl

pub returns-clause-size : goal.returns-clause-size
returns-clause-size c = length-listed (item_at 0 c.in_ok-directory.directory.items c.in_ok-tables.tables.items) 0 8388608

pub returns-clause-none : goal.returns-clause-none
returns-clause-none c p l = zero_frames 512 8388608 p c.in_ok-directory.directory.items c.in_ok-tables.tables.items (c.in_ok-tables.ensures.items_if_clones_equal (λ y e. e)) l
