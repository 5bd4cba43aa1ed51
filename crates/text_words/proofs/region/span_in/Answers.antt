use Rattle.std.proofs.Common.{◌≡◌, ◌+◌, ◌-◌, ◌*◌, ◌/◌, ◌∙◌, ap, arith, Some}
use Rattle.text_words.proofs.Regions.{gap_behind, index_found, index_none, is_there, same_region}
use Rattle.text_words.proofs.region.span_in.Goals as goal

pub overflow_sub-i : goal.overflow_sub-i
overflow_sub-i c = (is_there c.args.regions.now c.args.region c.args.len c.args.addr c.requires.layout c.requires.there).low

pub overflow_add-result : goal.overflow_add-result
overflow_add-result c =
    let at = is_there c.args.regions.now c.args.region c.args.len c.args.addr c.requires.layout c.requires.there in
    omega (arith, at.low, at.high, at.within)

pub overflow_sub-region : goal.overflow_sub-region
overflow_sub-region c =
    let at = is_there c.args.regions.now c.args.region c.args.len c.args.addr c.requires.layout c.requires.there in
    omega (arith, at.low, at.high)

pub returns-clause-within : goal.returns-clause-within
returns-clause-within c =
    let at = is_there c.args.regions.now c.args.region c.args.len c.args.addr c.requires.layout c.requires.there in
    omega (arith, at.low, at.high, at.within, c.min.ensures)

pub returns-clause-found : goal.returns-clause-found
returns-clause-found c k less =
    let r = c.args.region in
    let addr = c.args.addr in
    let at = is_there c.args.regions.now r c.args.len addr c.requires.layout c.requires.there in
    let a = addr + 4 * k in
    let place : r.first + (a - r.address) / 4 ≡ r.first + (addr - r.address) / 4 + k = omega (arith, at.low) in
    index_found c.args.regions.now r a (omega (arith, c.requires.aligned))
    (same_region c.args.regions.now r addr a c.requires.layout.apart c.requires.there (omega (arith, at.low)) (omega (arith, at.low, at.high, less, c.min.ensures, at.whole, c.requires.aligned)))
    ∙ ap Some place

pub returns-clause-ends : goal.returns-clause-ends
returns-clause-ends c small =
    let r = c.args.region in
    let addr = c.args.addr in
    let at = is_there c.args.regions.now r c.args.len addr c.requires.layout c.requires.there in
    index_none c.args.regions.now (addr + 4 * c.min.result)
    (gap_behind c.args.regions.now r addr (addr + 4 * c.min.result) c.requires.layout.apart c.requires.there
    (omega (arith, small, at.low, at.high, at.whole, c.min.ensures, c.requires.aligned)))
