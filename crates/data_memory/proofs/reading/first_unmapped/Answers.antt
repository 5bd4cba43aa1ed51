use Rattle.std.proofs.Common.{sym, ◌∙◌}
use Rattle.data_memory.specs.Paged.{paged}
use Rattle.data_memory.proofs.RangesRead.{unread, none_from_test}
use Rattle.data_memory.proofs.reading.first_unmapped.Goals as goal

pub returns-then-is_none-clause-some : goal.returns-then-is_none-clause-some
returns-then-is_none-clause-some c =
    unread (paged c.args.pages.now c.args.frames.now) c.args.addr c.args.len c.check.i c.address_on-at.result c.check-test.true c.address_on-at.ensures c.check.invariant
    (sym c.byte_in.ensures ∙ none_from_test c.byte_in.result c.if-is_none.ensures)
