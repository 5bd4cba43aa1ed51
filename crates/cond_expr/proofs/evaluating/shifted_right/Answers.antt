use Rattle.std.proofs.Common.{arith, ◌%◌}
use Rattle.cond_expr.proofs.Words.{shifted}
use Rattle.cond_expr.proofs.evaluating.shifted_right.Goals as goal

pub returns : goal.returns
returns c =
    rw (c.if-unsigned.false)
    (shifted c.args.n (c.args.k % 32) _ _ _ (omega arith) c.cast_signed.ensures c.wrapping_shr-2.ensures c.cast_unsigned.ensures)
