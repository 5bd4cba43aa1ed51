use Rattle.std.proofs.Common.{◌≡◌, map, take}
use Rattle.dbg_model.specs.Data.{valued}
use Rattle.dbg_answers.proofs.registers.valued.Given as goal

abbrev pub invariant-loop-number : goal.invariant-loop-number
invariant-loop-number l = l.registers.items ≡ map (valued l.fn.regs) (take l.number-index l.numbers)
