use Rattle.std.proofs.Common.{◌+◌, ◌-◌, ◌≤◌, arith, drop, length, take}
use Rattle.text_words.proofs.Runs.{cut, ends_there, run_is, some_there}
use Rattle.text_words.proofs.text.TextWords.run_at.Goals as goal

pub returns-clause-run : goal.returns-clause-run
returns-clause-run c =
    let s = c.span_from-span.result in
    let few : s.first + s.count ≤ length c.self.inside.words.items = omega (arith, c.span_from-span.ensures.within, c.len.ensures, c.self.inside.words.ok.0) in
    run_is c.self.inside c.args.self.now c.args.addr s.first s.count c.as_slice.result.now (take (s.first + s.count - s.first) (drop s.first c.as_slice-2.result.now)) c.self.view_is c.self.invariant c.as_slice.ensures.value
    few c.span_from-span.ensures.low c.span_from-span.ensures.found (cut c.as_slice-2.result.now c.self.inside.stored.items s.first s.count c.as_slice-2.ensures.value)

pub returns-clause-found : goal.returns-clause-found
returns-clause-found c =
    let s = c.span_from-span.result in
    let few : s.first + s.count ≤ length c.self.inside.words.items = omega (arith, c.span_from-span.ensures.within, c.len.ensures, c.self.inside.words.ok.0) in
    some_there c.self.inside c.args.self.now c.args.addr s.first s.count c.as_slice.result.now c.as_slice-2.result.now c.self.inside.stored.items c.self.view_is c.self.invariant c.as_slice.ensures.value c.ranges.addr.fits
    few c.self.invariant.stored.whole c.span_from-span.ensures.ends c.as_slice-2.ensures.value

pub returns-clause-ends : goal.returns-clause-ends
returns-clause-ends c =
    let s = c.span_from-span.result in
    let few : s.first + s.count ≤ length c.self.inside.words.items = omega (arith, c.span_from-span.ensures.within, c.len.ensures, c.self.inside.words.ok.0) in
    ends_there c.self.inside c.args.self.now c.args.addr s.first s.count c.as_slice.result.now c.as_slice-2.result.now c.self.inside.stored.items c.self.view_is c.self.invariant c.as_slice.ensures.value
    few c.self.invariant.stored.whole c.span_from-span.ensures.ends c.as_slice-2.ensures.value
