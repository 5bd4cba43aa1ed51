use Rattle.std.proofs.Common.{◌≡◌, ◌<◌, ◌+◌, length, ap, ◌∙◌, arith}
use Rattle.std.proofs.lemmas.List.{length_push}
use Rattle.std.proofs.lemmas.Result.{err_from_is_err_and}
use Rattle.line_headers.proofs.Loops.{gives_err, names_more, then_name}
use Rattle.line_headers.proofs.names.names_at.Goals as goal

pub returns-in_err-entry : goal.returns-in_err-entry
returns-in_err-entry c =
    let p = err_from_is_err_and c.from_residual.result c.from_residual.ensures.1 in
    let within = c.loop-names.invariant.within in
    let room : length c.loop-names.names.items < length c.args.bytes.now + 1 = omega arith in
    rw (p.1, p.2)
    (gives_err _ _ _ _ _ _ c.loop-names.invariant.same (names_more _ _ _ c.args.bytes.now c.loop-names.place room) c.in_err-entry.ensures.value)

pub loop-names-preserved : goal.loop-names-preserved
loop-names-preserved c =
    let within = c.loop-names.invariant.within in
    let pushed = c.in_ok-push-in-Some.ensures.items in
    let behind = c.in_ok-entry.ensures.within in
    let passed = c.loop-names.invariant.passed in
    let size : length c.push.new.self.items ≡ length c.loop-names.names.items + 1 = ap length pushed ∙ length_push _ _ in
    record {
      same = then_name _ _ _ _ _ _ _ _ _ _ c.loop-names.invariant.same (omega arith) c.in_ok-entry.ensures.value c.in-Some.is pushed;
      passed = omega arith;
      within = omega arith;
    }
