use Rattle.std.proofs.Common.{arith, refl, sym}
use Rattle.text_words.proofs.Regions.{is_there, reaches, reaches_none, same_region, whole_span}
use Rattle.text_words.proofs.region.span_around.Goals as goal

pub span_in-requires-clause-there : goal.span_in-requires-clause-there
span_in-requires-clause-there c =
    let r = c.in-Some.region in
    let at = is_there c.args.regions.now r c.args.len c.args.addr c.requires (sym c.in-Some.ensures) in
    same_region c.args.regions.now r c.args.addr r.address c.requires.apart (sym c.in-Some.ensures) (omega (arith, at.low)) (omega (arith, at.low, at.high))

pub span_in-requires-clause-aligned : goal.span_in-requires-clause-aligned
span_in-requires-clause-aligned c = (is_there c.args.regions.now c.in-Some.region c.args.len c.args.addr c.requires (sym c.in-Some.ensures)).whole

pub returns-in-Some : goal.returns-in-Some
returns-in-Some c =
    let rs = c.args.regions.now in
    let r = c.in-Some.region in
    let s = c.span_in.result in
    whole_span rs c.args.len c.args.addr r.address s c.span_in.ensures.address c.span_in.ensures.within c.span_in.ensures.low c.span_in.ensures.found
    (reaches rs r c.args.len c.args.addr r.address s.count c.requires (sym c.in-Some.ensures) refl c.span_in.ensures.ends)

pub returns-in-None : goal.returns-in-None
returns-in-None c =
    let rs = c.args.regions.now in
    let s = c.span_from.result in
    whole_span rs c.args.len c.args.addr 0 s c.span_from.ensures.address c.span_from.ensures.within c.span_from.ensures.low c.span_from.ensures.found
    (reaches_none rs c.args.addr 0 s.count (sym c.in-None.ensures))
