use Rattle.elf32_read.proofs.Alike.{alike_on, rest}
use Rattle.elf32_read.proofs.fields.alike_front.Goals as goal

pub loop-front-preserved : goal.loop-front-preserved
loop-front-preserved c =
    let n = c.loop-front.front in
    alike_on c.args.left.now c.args.right.now n 32 c.loop-front.invariant
    (rw (rest n c.args.left.now, rest n c.args.right.now) at c.if-begin_alike.ensures)
