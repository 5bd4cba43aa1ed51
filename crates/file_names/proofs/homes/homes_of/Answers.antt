use Rattle.std.proofs.Common.{◌≡◌, length, rules, arith}
use Rattle.file_names.proofs.Settled.{all_homes, no_longer}
use Rattle.file_names.proofs.homes.homes_of.Goals as goal

pub returns-then-is_empty : goal.returns-then-is_empty
returns-then-is_empty c =
    let none : length c.loop-size.places.items ≡ 0 = search rules in
    no_longer c.args.bytes.now c.loop-size.homes.items c.loop-size.places.items c.loop-size.size c.loop-size.invariant.0 c.loop-size.invariant.1 none

pub returns : goal.returns
returns c =
    let past = c.loop-size-test.false in
    all_homes c.args.bytes.now c.loop-size.homes.items c.loop-size.size c.loop-size.invariant.0 (omega (arith, past))
