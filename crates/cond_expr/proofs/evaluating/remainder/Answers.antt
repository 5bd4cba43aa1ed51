use Rattle.std.proofs.Common.{arith}
use Rattle.cond_expr.proofs.Words.{left_over}
use Rattle.cond_expr.proofs.evaluating.remainder.Goals as goal

pub returns : goal.returns
returns c =
    rw (c.if-unsigned.false)
    (left_over c.args.n c.args.m _ _ _ _ (omega arith) (omega arith) c.cast_signed.ensures c.cast_signed-2.ensures c.wrapping_rem.ensures c.cast_unsigned.ensures)
