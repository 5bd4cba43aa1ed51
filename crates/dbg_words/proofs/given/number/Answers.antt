use Rattle.std.proofs.Common.{rules, arith}
use Rattle.std.proofs.lemmas.Bool.Decides.{nat_tests}
use Rattle.dbg_words.proofs.Numbers.{number_err, number_ok}
use Rattle.dbg_words.proofs.given.number.Goals as goal

pub returns-in_default-clause-value : goal.returns-in_default-clause-value
returns-in_default-clause-value c = let v = c.in_default.ensures.value in number_err c.args.text.now c.args.low c.args.high v.0 (search rules)

pub returns-then-n-high-clause-value : goal.returns-then-n-high-clause-value
returns-then-n-high-clause-value c =
    let v = c.in-Ok.ensures.value in
    let low = c.if-low-n.true in
    let high = c.if-n-high.true in
    number_ok c.args.text.now c.in-Ok.n c.args.low c.args.high v.0.0.0 v.0.1 (grind (arith, nat_tests)) (grind (arith, nat_tests))
