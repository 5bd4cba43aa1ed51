use Rattle.std.proofs.Common.{◌-◌, rules, arith, sym}
use Rattle.debug_info.proofs.Marking.{marked_end, marked_fault, marked_next, marked_start}
use Rattle.debug_info.proofs.Rising.{rises_from, rises_next}
use Rattle.debug_info.proofs.mark.marks_at.Goals as goal

pub entries-init : goal.entries-init
entries-init c =
    let s = c.args.source.now in
    record {
      read = marked_start s.abbrevs.now s.strs.now s.info.now c.args.table.now.at c.args.unit c.args.at c.new-marks.result.items c.requires.within c.new-marks.ensures.items;
      rising = rw c.new-marks.ensures.items (omega arith);
      level = omega arith;
      unit = c.requires.unit;
    }

pub returns-in_err-entry-clause-value : goal.returns-in_err-entry-clause-value
returns-in_err-entry-clause-value c =
    let s = c.args.source.now in
    let e = marked_fault _ s.abbrevs.now s.strs.now s.info.now c.args.table.now.at c.args.unit c.entries.marks.items c.entries.level c.entries.place _ c.entries-test.true (sym c.in_err-entry.ensures.value) c.entries.invariant.read in
    search (rules, e)

pub entries-preserved : goal.entries-preserved
entries-preserved c =
    let s = c.args.source.now in
    let later = c.in_ok-entry.ensures.behind in
    let unit = c.entries.invariant.unit in
    record {
      read = marked_next _ s.abbrevs.now s.strs.now s.info.now c.args.table.now.at c.args.unit c.entries.marks.items c.push_mark.new.marks.items c.entries.level c.entries.place
          c.level_behind-level.result c.in_ok-entry.next c.in_ok-entry.entry
          unit c.entries-test.true (sym c.in_ok-entry.ensures.value) later c.in_ok-entry.ensures.within c.level_behind-level.ensures.value c.in_ok-entry.ensures.below c.in_ok-entry.ensures.deep
          c.in_ok-entry.ensures.offset c.in_ok-push_mark.ensures c.entries.invariant.read;
      rising = rises_next 0 (c.entries.place - c.args.unit) (c.in_ok-entry.next - c.args.unit) c.entries.marks.items c.push_mark.new.marks.items c.in_ok-entry.entry c.entries.invariant.rising
          c.in_ok-entry.ensures.offset (omega arith) c.in_ok-push_mark.ensures;
      level = c.level_behind-level.ensures.range;
      unit = omega arith;
    }

pub returns-clause-rising : goal.returns-clause-rising
returns-clause-rising c = rw c.shrink_to_fit.ensures.items (rises_from 0 (c.entries.place - c.args.unit) c.entries.marks.items c.entries.invariant.rising)

pub returns-clause-value : goal.returns-clause-value
returns-clause-value c =
    let s = c.args.source.now in
    marked_end _ s.abbrevs.now s.strs.now s.info.now c.args.table.now.at c.args.unit c.entries.marks.items _ c.entries.level c.entries.place c.entries-test.false c.shrink_to_fit.ensures.items c.entries.invariant.read
