use Rattle.file_names.proofs.Steps.{AreBefore}
use Rattle.file_names.proofs.places.places_before.Given as goal

abbrev pub invariant-loop-place : goal.invariant-loop-place
invariant-loop-place l = AreBefore l.bytes l.places l.before.items l.size l.place-index
