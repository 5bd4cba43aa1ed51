use Rattle.std.proofs.Common.{List, ap, arith, length, ℕ}
use Rattle.run_tape.proofs.Codes.{few_marks}
use Rattle.run_tape.proofs.coder.Coder.marks.Goals as goal

pub returns-clause-few : goal.returns-clause-few
returns-clause-few c =
    rw (← c.self.view_is) (let few = few_marks c.self.inside.bytes.items in omega (arith, few, ap (λ (bs : List ℕ). length bs) c.as_slice-bytes.ensures.value))
