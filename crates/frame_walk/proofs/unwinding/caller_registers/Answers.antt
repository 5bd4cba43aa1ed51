use Rattle.std.proofs.Common.{arith, ◌<◌, sym, ◌∙◌}
use Rattle.frame_walk.proofs.Values.{all_there, one_missing}
use Rattle.frame_walk.proofs.unwinding.caller_registers.Goals as goal

pub returns-in_err-values : goal.returns-in_err-values
returns-in_err-values g c =
    let before : c.loop-n.n < 32 = omega arith in
    c.from_residual.ensures ∙ sym (one_missing _ 32 c.loop-n.n before (sym c.value_by.ensures ∙ c.in_err-values.was))

pub returns : goal.returns
returns g c = all_there _ c.loop-n.values 32 c.loop-n.invariant.0 (λ k h. c.loop-n.invariant.1 k (omega arith))
