use Rattle.std.proofs.Common.{◌+◌, ◌-◌, ◌≤◌, arith, drop, length, take}
use Rattle.text_words.proofs.Operations.{operations_are}
use Rattle.text_words.proofs.Runs.{among_there, cut}
use Rattle.text_words.proofs.text.TextWords.find_region.Goals as goal

pub returns-clause-operations : goal.returns-clause-operations
returns-clause-operations c =
    let s = c.span_around-span.result in
    let whole = c.span_around-span.ensures in
    let few : s.first + s.count ≤ length c.self.inside.words.items = omega (arith, whole.within, c.len.ensures, c.self.inside.words.ok.0) in
    operations_are c.self.inside c.args.self.now s.address s.first s.count c.as_slice.result.now (take (s.first + s.count - s.first) (drop s.first c.as_slice-2.result.now)) c.self.view_is c.self.invariant c.as_slice.ensures.value
    few whole.low whole.found (cut c.as_slice-2.result.now c.self.inside.operations.items s.first s.count c.as_slice-2.ensures.value)

pub returns-clause-here : goal.returns-clause-here
returns-clause-here c =
    let s = c.span_around-span.result in
    let whole = c.span_around-span.ensures in
    let few : s.first + s.count ≤ length c.self.inside.words.items = omega (arith, whole.within, c.len.ensures, c.self.inside.words.ok.0) in
    among_there c.self.inside c.args.self.now c.args.addr s c.as_slice.result.now c.as_slice-2.result.now c.self.inside.operations.items c.self.view_is c.self.invariant c.as_slice.ensures.value c.ranges.addr.fits
    few c.self.invariant.operations.whole whole.here c.as_slice-2.ensures.value
