use Rattle.file_names.proofs.Numbered.{AreNumbered}
use Rattle.file_names.proofs.numbers.number_places.Given as goal

abbrev pub invariant-loop-place : goal.invariant-loop-place
invariant-loop-place l = AreNumbered l.fn.names.texts l.places l.homes l.known l.names l.numbers.items l.place-index
