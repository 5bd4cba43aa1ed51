-- None of the units so far ends behind the place.
use Rattle.debug_info.proofs.Words.{◌≡◌, drop, find, nat_lt}
use Rattle.debug_info.proofs.unit.unit_with.Given as goal

abbrev pub invariant-loop-span : goal.invariant-loop-span
invariant-loop-span l = find (λ s. nat_lt l.place s.end) l.units ≡ find (λ s. nat_lt l.place s.end) (drop l.span-index l.units)
