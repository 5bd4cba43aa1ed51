use Rattle.std.proofs.Common.{◌≡◌, ◌+◌, drop}
use Rattle.std.specs.Option.{option_map}
use Rattle.mi_input.specs.Lines.{lf_at}
use Rattle.mi_input.proofs.lines.lf_at.Given as goal

abbrev pub invariant-loop-i : goal.invariant-loop-i
invariant-loop-i l = lf_at l.rest ≡ option_map (λ k. k + l.i) (lf_at (drop l.i l.rest))
