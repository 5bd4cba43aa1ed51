use Rattle.std.proofs.Common.{◌≡◌, ◌+◌, ◌-◌, ◌∙◌, ap, arith, drop, length, length-take-le, refl, replicate, take}
use Rattle.std.proofs.lemmas.List.{length-drop}
use Rattle.data_memory.proofs.Parts.{values_over_zeros}
use Rattle.data_memory.proofs.frames.fill_values.Goals as goal

pub returns-clause-each : goal.returns-clause-each
returns-clause-each c i =
    let all : c.args.at + c.args.len - c.args.at ≡ c.args.len = omega arith in
    let some : c.args.at + length c.args.given.now - c.args.at ≡ length c.args.given.now = omega arith in
    let many : length (take c.args.len (drop c.args.at c.args.values.now)) ≡ c.args.len =
    length-take-le c.args.len (drop c.args.at c.args.values.now) (omega (arith, c.requires.within, length-drop c.args.at c.args.values.now)) in
    rw (all, some, c.copy_from_slice.ensures.after)
    (values_over_zeros c.args.at c.args.len (length c.args.given.now) i c.args.values.now c.fill.new.self c.args.given.now c.requires.within c.requires.given refl
    ((let z = c.fill.ensures.after (λ y e. e) in rw all at z) ∙ ap (λ n. replicate n 0) many))
