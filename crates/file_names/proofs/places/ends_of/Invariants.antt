use Rattle.file_names.proofs.Steps.{AreEmpty}
use Rattle.file_names.proofs.places.ends_of.Given as goal

abbrev pub invariant-loop-place : goal.invariant-loop-place
invariant-loop-place l = AreEmpty l.bytes l.places.items l.place
