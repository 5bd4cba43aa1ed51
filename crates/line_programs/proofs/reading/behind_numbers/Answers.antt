use Rattle.std.proofs.Common.{◌∙◌, sym, arith}
use Rattle.line_programs.proofs.Numbers.{numbers_more}
use Rattle.line_programs.proofs.reading.behind_numbers.Goals as goal

pub loop-number-preserved : goal.loop-number-preserved
loop-number-preserved c = record {
  same = sym (numbers_more c.args.count c.loop-number._number c.args.unit.now c.loop-number.next _ _ (omega arith) (sym c.in_ok-next.ensures.value)) ∙ c.loop-number.invariant.same;
  from = omega (arith, c.in_ok-next.ensures.within);
  within = omega (arith, c.in_ok-next.ensures.within);
}
