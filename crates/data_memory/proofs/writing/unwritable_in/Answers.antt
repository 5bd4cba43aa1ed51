use Rattle.std.proofs.Common.{sym, arith}
use Rattle.data_memory.specs.Paged.{paged}
use Rattle.data_memory.proofs.RangesWritten.{unwritable, none_unwritable}
use Rattle.data_memory.proofs.writing.unwritable_in.Goals as goal

pub returns-then-not-writable_in : goal.returns-then-not-writable_in
returns-then-not-writable_in c =
    unwritable (paged c.args.pages.now c.args.frames.now) c.args.addr c.args.len c.check.i c.address_on-at.result c.check-test.true c.address_on-at.ensures c.check.invariant
    (sym c.if-not-writable_in.ensures)

pub returns : goal.returns
returns c = none_unwritable (paged c.args.pages.now c.args.frames.now) c.args.addr c.args.len (λ k l. c.check.invariant k (omega arith))
