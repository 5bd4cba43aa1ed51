use Rattle.elf_checks.proofs.Middles.{falls, rises_on}
use Rattle.elf_checks.proofs.overlaps.rise.Goals as goal

pub returns-then-sorted-k : goal.returns-then-sorted-k
returns-then-sorted-k c =
    falls c.args.sorted.now c.loop-k.k _ c.requires c.loop-k.auto.k c.loop-k-test.true (rw c.end.ensures at c.if-sorted-k.true)

pub loop-k-preserved : goal.loop-k-preserved
loop-k-preserved c =
    rises_on c.args.sorted.now c.loop-k.k _ c.loop-k.auto.k c.loop-k-test.true c.loop-k.invariant (rw c.end.ensures at c.if-sorted-k.false)
