use Rattle.std.proofs.Common.{◌≡◌}
use Rattle.mi_commands.specs.Bytes.{first_of}
use Rattle.mi_commands.proofs.bytes.first_of.Given as goal

abbrev pub invariant-repeat : goal.invariant-repeat
invariant-repeat l = l.written.items ≡ first_of l.fn.bytes l.k
