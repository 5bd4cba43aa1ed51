use Rattle.std.proofs.Common.{◌≤◌, length, drop, arith, length-drop}
use Rattle.leb_read.proofs.Numbers.{spelled_fits}
use Rattle.leb_read.proofs.leb.spelled.Goals as goal

pub overflow_mul-value : goal.overflow_mul-value
overflow_mul-value c =
    let short : length (drop c.loop-start.start c.args.bytes.now) ≤ 10 = simp length-drop (omega arith) in
    omega (arith, spelled_fits (drop c.loop-start.start c.args.bytes.now) short)
