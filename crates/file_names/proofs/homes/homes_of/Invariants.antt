use Rattle.file_names.specs.Homes.{AreHomesTo, ArePlaces}
use Rattle.file_names.proofs.homes.homes_of.Given as goal

abbrev pub invariant-loop-size : goal.invariant-loop-size
invariant-loop-size l = AreHomesTo l.bytes l.homes.items l.size × ArePlaces l.bytes l.places.items l.size
