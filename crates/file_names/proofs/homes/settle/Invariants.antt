use Rattle.file_names.proofs.Settled.{Puts}
use Rattle.file_names.proofs.homes.settle.Given as goal

abbrev pub invariant-loop-place : goal.invariant-loop-place
invariant-loop-place l = Puts l.bytes l.places l.size l.place-index l.initial.homes l.homes l.met
