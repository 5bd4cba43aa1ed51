use Rattle.std.proofs.Common.{◌+◌, ◌-◌, ◌≤◌, arith, drop, length, take}
use Rattle.text_words.proofs.Operations.{operations_are}
use Rattle.text_words.proofs.Runs.{cut}
use Rattle.text_words.proofs.text.TextWords.region_at.Goals as goal

pub returns-then-place-region-clause-operations : goal.returns-then-place-region-clause-operations
returns-then-place-region-clause-operations c =
    let s = c.guessed_span-span.result in
    let is = c.guessed_span-span.ensures in
    let few : s.first + s.count ≤ length c.self.inside.words.items = omega (arith, is.within, c.len.ensures, c.self.inside.words.ok.0) in
    operations_are c.self.inside c.args.self.now s.address s.first s.count c.as_slice.result.now (take (s.first + s.count - s.first) (drop s.first c.as_slice-3.result.now)) c.self.view_is c.self.invariant c.as_slice.ensures.value
    few is.low is.found (cut c.as_slice-3.result.now c.self.inside.operations.items s.first s.count c.as_slice-3.ensures.value)
