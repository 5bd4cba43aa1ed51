use Rattle.std.proofs.Common.{◌≡◌, ◌<◌, ◌-◌, suc, ap, arith, drop, length, sym, ◌∙◌}
use Rattle.mi_commands.specs.Locations.{last_colon}
use Rattle.mi_commands.proofs.Colons.{colon_nowhere, colon_none, colon_there}
use Rattle.mi_commands.proofs.location.last_colon.Goals as goal

pub bytes-init : goal.bytes-init
bytes-init c = (omega arith, colon_nowhere c.args.bytes.now)

pub returns-then-bytes-place-eq58-clause-place : goal.returns-then-bytes-place-eq58-clause-place
returns-then-bytes-place-eq58-clause-place c =
    let some : 0 < c.bytes.place = (let h = c.bytes-test.true in omega arith) in
    let one : suc (c.bytes.place - 1) ≡ c.bytes.place = omega arith in
    let inside : c.bytes.place - 1 < length c.args.bytes.now = (let h = c.bytes.invariant.0 in omega arith) in
    sym (colon_there c.args.bytes.now (c.bytes.place - 1) _ inside c.if-bytes-place-eq58.true (ap (λ n. last_colon (drop n c.args.bytes.now)) one ∙ c.bytes.invariant.1))

pub bytes-preserved : goal.bytes-preserved
bytes-preserved c =
    let some : 0 < c.bytes.place = (let h = c.bytes-test.true in omega arith) in
    let one : suc (c.bytes.place - 1) ≡ c.bytes.place = omega arith in
    let inside : c.bytes.place - 1 < length c.args.bytes.now = (let h = c.bytes.invariant.0 in omega arith) in
    (omega (arith, inside), colon_none c.args.bytes.now (c.bytes.place - 1) _ inside c.if-bytes-place-eq58.false (ap (λ n. last_colon (drop n c.args.bytes.now)) one ∙ c.bytes.invariant.1))
