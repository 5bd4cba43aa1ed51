use Rattle.std.proofs.Common.{◌-◌, length}
use Rattle.elf32_read.specs.Fields.{IsAlike}
use Rattle.elf32_read.proofs.fields.alike_front.Given as goal

abbrev pub invariant-loop-front : goal.invariant-loop-front
invariant-loop-front l = IsAlike l.front l.left l.right

abbrev pub decreases-loop-front : goal.decreases-loop-front
decreases-loop-front l = length l.left - l.front
