use Rattle.std.proofs.Common.{◌<◌, length, arith}
use Rattle.mi_values.specs.Line.{line_view}
use Rattle.session_parts.proofs.Showing.{less_left, shows_all, shows_more, tail_is}
use Rattle.session_parts.proofs.shown.shown_in.Goals as goal

pub records-smaller : goal.records-smaller
records-smaller c =
    let low : length c.records.again.items < length c.args.text.now = omega (arith, c.records-test.true, c.len.ensures) in
    less_left c.args.text.now c.records.again.items c.write_line.new.into.items (line_view c.in-Ok.line) low c.in_ok-write_line.ensures.written

pub records-preserved : goal.records-preserved
records-preserved c =
    shows_more c.args.text.now c.records.again.items c.write_line.new.into.items _ c.records.count c.shown-count.result (line_view c.in-Ok.line)
    (tail_is c.args.text.now c.records.again.items c.len-in-records.result (omega (arith, c.len-in-records.ensures))) c.records.invariant c.shown-count.ensures c.in_ok-write_line.ensures.written c.in-Ok.ensures.reads c.in-Ok.ensures.again

pub returns : goal.returns
returns c = shows_all c.args.text.now c.records.again.items c.records.count c.records.invariant (omega (arith, c.records-test.false, c.len.ensures))
