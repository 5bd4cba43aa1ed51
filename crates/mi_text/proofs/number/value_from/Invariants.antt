use Rattle.std.proofs.Common.{◌≡◌, ◌<◌, ◌^◌, drop}
use Rattle.mi_text.specs.Number.{value_from}
use Rattle.mi_text.proofs.number.value_from.Given as goal

abbrev pub invariant-loop-digit : goal.invariant-loop-digit
invariant-loop-digit l = (l.value < 2 ^ 32) × (value_from l.base l.so_far l.digits ≡ value_from l.base l.value (drop l.digit-index l.digits))
