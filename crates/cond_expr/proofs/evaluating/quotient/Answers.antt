use Rattle.std.proofs.Common.{arith}
use Rattle.cond_expr.proofs.Words.{divided}
use Rattle.cond_expr.proofs.evaluating.quotient.Goals as goal

pub returns : goal.returns
returns c =
    rw (c.if-unsigned.false)
    (divided c.args.n c.args.m _ _ _ _ (omega arith) (omega arith) c.cast_signed.ensures c.cast_signed-2.ensures c.wrapping_div.ensures c.cast_unsigned.ensures)
