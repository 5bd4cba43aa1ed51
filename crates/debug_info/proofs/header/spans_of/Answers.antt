use Rattle.debug_info.proofs.Words.{◌<◌, arith, rules, sym, All-push, All-same, IsSpan, Span}
use Rattle.debug_info.proofs.Spanned.{spanned_end, spanned_fault, spanned_next, spanned_start}
use Rattle.debug_info.proofs.header.spans_of.Goals as goal

pub units-init : goal.units-init
units-init c = record {
  spans = rw c.new-units.ensures.items (search rules);
  read = spanned_start c.args.info.now _ c.new-units.ensures.items;
}

pub units-preserved : goal.units-preserved
units-preserved c =
    let info = c.args.info.now in
    let span : Span = record { at = c.units.at; end = c.in-Ok.end } in
    let behind = c.in-Ok.ensures.behind in
    let further : span.at < span.end = omega arith in
    let push = c.in_ok-push-in-Ok.ensures.items in
    record {
      spans = All-same (IsSpan info) _ _ push (All-push (IsSpan info) c.units.units.items span c.units.invariant.spans (record { header = behind; within = c.in-Ok.ensures.within }));
      read = spanned_next info c.units.units.items _ c.units.at c.in-Ok.end push c.units-test.true further (sym c.in-Ok.ensures.value) c.units.invariant.read;
    }

pub returns-in-Err : goal.returns-in-Err
returns-in-Err c = record {
  spans = c.units.invariant.spans;
  value = rw c.fault_at.ensures (spanned_fault c.args.info.now c.units.units.items c.units.at c.in-Err.fault c.units-test.true (sym c.in-Err.ensures.value) c.units.invariant.read);
}

pub returns : goal.returns
returns c = record {
  spans = c.units.invariant.spans;
  value = spanned_end c.args.info.now c.units.units.items c.units.at c.units-test.false c.units.invariant.read;
}
