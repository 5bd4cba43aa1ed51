use Rattle.std.proofs.Common.{◌≡◌, map}
use Rattle.plain_machine.specs.PlainRun.{first_harts}
use Rattle.unpatched_machine.specs.Unpatched.{registers_of}
use Rattle.unpatched_machine.proofs.plain.first_harts.Given as goal

abbrev pub invariant-loop-hart : goal.invariant-loop-hart
invariant-loop-hart l = l.all.items ≡ map registers_of (first_harts l.image l.harts l.hart)
