use Rattle.std.proofs.Common.{◌≡◌, ◌≤◌, length, ap, arith, length-append}
use Rattle.session_check.specs.Findings.{most_input}
use Rattle.session_check.proofs.Polling.{polls_more, polls_none}
use Rattle.session_check.proofs.input.poll_all.Goals as goal

pub more-init : goal.more-init
more-init g c = rw c.new-bytes.ensures.items (record { within = omega arith; polls = polls_none (g.W.World.told c.args.world.now) c.requires })

pub more-preserved : goal.more-preserved
more-preserved g c =
    let told = g.W.World.told in
    let old = c.more.bytes.items in
    let few : length old ≤ most_input = omega (arith, c.more-test.true, c.len.ensures) in
    let took = c.in-Took.ensures in
    record {
      within = omega (arith, few, took.2, took.3, ap length took.4, length-append old took.0);
      polls = polls_more old c.input_once.new.buffer.items c.in-Took.field-0 (told c.args.world.now) (told c.more.world) (told c.input_once.new.world) few c.more.invariant.polls c.in-Took.ensures;
    }
