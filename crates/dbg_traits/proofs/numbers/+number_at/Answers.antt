use Rattle.std.proofs.Common.{◌-◌, arith}
use Rattle.dbg_traits.proofs.Sizes.{one_more, three_bytes}
use Rattle.dbg_traits.proofs.numbers.+number_at.Goals as goal

pub overflow_mul-result : goal.overflow_mul-result
overflow_mul-result g t c = omega (arith, three_bytes (c.args.count - 1) (omega (arith, c.requires)), c.in_ok-high.ensures.below)

pub overflow_add-result : goal.overflow_add-result
overflow_add-result g t c = omega (arith, three_bytes (c.args.count - 1) (omega (arith, c.requires)), c.in_ok-high.ensures.below, c.from.ensures)

pub returns-clause-below : goal.returns-clause-below
returns-clause-below g t c = one_more c.args.count c.from.result c.in_ok-high.high (omega (arith, c.if-count-eq0.false)) (omega (arith, c.from.ensures)) c.in_ok-high.ensures.below
