use Rattle.std.proofs.Common.{◌≡◌, arith, length, subst, Ok}
use Rattle.data_memory.specs.Paged.{paged}
use Rattle.data_memory.specs.Ranges.{range_at}
use Rattle.data_memory.proofs.RangesRead.{all_read}
use Rattle.data_memory.proofs.reading.read_into.Goals as goal

pub returns-clause-range : goal.returns-clause-range
returns-clause-range c =
    let same : length c.copy.into ≡ length c.args.into.now = c.copy.auto.into in
    subst (λ n. range_at (paged c.args.pages.now c.args.frames.now) c.args.addr n ≡ Ok c.copy.into) same
    (all_read (paged c.args.pages.now c.args.frames.now) c.args.addr c.copy.into (λ k l. c.copy.invariant k (omega arith)))
