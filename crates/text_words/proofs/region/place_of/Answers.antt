use Rattle.std.proofs.Common.{arith, sym}
use Rattle.text_words.proofs.Regions.{index_found, index_none, index_unaligned, is_there}
use Rattle.text_words.proofs.region.place_of.Goals as goal

pub returns-then-addr-ne0-clause-value : goal.returns-then-addr-ne0-clause-value
returns-then-addr-ne0-clause-value c = sym (index_unaligned c.args.regions.now c.args.addr c.if-addr-ne0.true)

pub returns-in-Some-clause-value : goal.returns-in-Some-clause-value
returns-in-Some-clause-value c = sym (index_found c.args.regions.now c.in-Some.region c.args.addr (omega (arith, c.if-addr-ne0.false)) (sym c.in-Some.ensures))

pub returns-in-Some-clause-range : goal.returns-in-Some-clause-range
returns-in-Some-clause-range c =
    let at = is_there c.args.regions.now c.in-Some.region c.args.len c.args.addr c.requires (sym c.in-Some.ensures) in
    omega (arith, at.low, at.high, at.within)

pub returns-in-None-clause-value : goal.returns-in-None-clause-value
returns-in-None-clause-value c = sym (index_none c.args.regions.now c.args.addr (sym c.in-None.ensures))

pub overflow_sub-result : goal.overflow_sub-result
overflow_sub-result c = (is_there c.args.regions.now c.in-Some.region c.args.len c.args.addr c.requires (sym c.in-Some.ensures)).low

pub overflow_add-result : goal.overflow_add-result
overflow_add-result c =
    let at = is_there c.args.regions.now c.in-Some.region c.args.len c.args.addr c.requires (sym c.in-Some.ensures) in
    omega (arith, at.low, at.high, at.within)
