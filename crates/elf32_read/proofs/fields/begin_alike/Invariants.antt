-- The bytes that the loop has passed are alike, unless it has met others.
use Rattle.std.specs.Bool.{OnTrue}
use Rattle.elf32_read.proofs.Alike.{Agree}
use Rattle.elf32_read.proofs.fields.begin_alike.Given as goal

abbrev pub invariant-loop-k : goal.invariant-loop-k
invariant-loop-k l = OnTrue l.alike (Agree l.k l.left l.right)
