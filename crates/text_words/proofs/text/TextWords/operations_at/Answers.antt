use Rattle.std.proofs.Common.{◌+◌, ◌-◌, ◌≤◌, arith, drop, length, take}
use Rattle.text_words.proofs.Operations.{operations_are}
use Rattle.text_words.proofs.Runs.{cut, ends_there}
use Rattle.text_words.proofs.text.TextWords.operations_at.Goals as goal

pub returns-clause-operations : goal.returns-clause-operations
returns-clause-operations c =
    let s = c.span_from-span.result in
    let few : s.first + s.count ≤ length c.self.inside.words.items = omega (arith, c.span_from-span.ensures.within, c.len.ensures, c.self.inside.words.ok.0) in
    operations_are c.self.inside c.args.self.now c.args.addr s.first s.count c.as_slice.result.now (take (s.first + s.count - s.first) (drop s.first c.as_slice-2.result.now)) c.self.view_is c.self.invariant c.as_slice.ensures.value
    few c.span_from-span.ensures.low c.span_from-span.ensures.found (cut c.as_slice-2.result.now c.self.inside.operations.items s.first s.count c.as_slice-2.ensures.value)

pub returns-clause-ends : goal.returns-clause-ends
returns-clause-ends c =
    let s = c.span_from-span.result in
    let few : s.first + s.count ≤ length c.self.inside.words.items = omega (arith, c.span_from-span.ensures.within, c.len.ensures, c.self.inside.words.ok.0) in
    ends_there c.self.inside c.args.self.now c.args.addr s.first s.count c.as_slice.result.now c.as_slice-2.result.now c.self.inside.operations.items c.self.view_is c.self.invariant c.as_slice.ensures.value
    few c.self.invariant.operations.whole c.span_from-span.ensures.ends c.as_slice-2.ensures.value
