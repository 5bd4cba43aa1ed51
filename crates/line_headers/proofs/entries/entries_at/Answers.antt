use Rattle.std.proofs.lemmas.Result.{err_from_is_err_and}
use Rattle.line_headers.proofs.Loops.{entries_more, gives_err, then_value}
use Rattle.line_headers.proofs.entries.entries_at.Goals as goal

pub returns-in_err-name : goal.returns-in_err-name
returns-in_err-name c =
    let p = err_from_is_err_and c.from_residual.result c.from_residual.ensures.1 in
    rw (p.1, p.2) (gives_err _ _ _ _ _ _ c.loop.invariant (entries_more _ _ _ c.loop.counter c.args.bytes.now c.loop.place c.loop-test.true) c.in_err-name.ensures)

pub loop-preserved : goal.loop-preserved
loop-preserved c =
    rw c.in_ok-push.ensures.items (then_value _ _ _ _ _ _ _ c.loop.invariant (entries_more _ _ _ c.loop.counter c.args.bytes.now c.loop.place c.loop-test.true) c.in_ok-name.ensures)
