use Rattle.std.proofs.Common.{rules, arith, sym}
use Rattle.debug_info.proofs.Listed.{is_short, listed_end, listed_fault, listed_next, listed_start}
use Rattle.debug_info.proofs.functions.functions_at.Goals as goal

pub entries-init : goal.entries-init
entries-init c =
    let s = c.args.source.now in
    record {
      read = listed_start s.abbrevs.now s.strs.now s.info.now c.args.table.now.at c.args.unit c.args.at c.new-functions.result.items c.requires.within c.new-functions.ensures.items;
      level = omega arith;
      unit = c.requires.unit;
    }

pub push_function-requires : goal.push_function-requires
push_function-requires c =
    let under = c.entries-test.true in
    let short = c.requires.source.short in
    is_short c.in_ok-entry.entry c.args.unit c.entries.place c.in_ok-entry.ensures.offset c.entries.invariant.unit (omega arith)

pub returns-in_err-entry : goal.returns-in_err-entry
returns-in_err-entry c =
    let s = c.args.source.now in
    let e = listed_fault _ s.abbrevs.now s.strs.now s.info.now c.args.table.now.at c.args.unit c.entries.functions.items c.entries.level c.entries.place _
    c.entries-test.true (sym c.in_err-entry.ensures.value) c.entries.invariant.read in
    search (rules, e)

pub entries-preserved : goal.entries-preserved
entries-preserved c =
    let s = c.args.source.now in
    let later = c.in_ok-entry.ensures.behind in
    let unit = c.entries.invariant.unit in
    record {
      read = listed_next _ s.abbrevs.now s.strs.now s.info.now c.args.table.now.at c.args.unit c.entries.functions.items c.push_function.new.functions.items
          c.entries.level c.entries.place c.level_behind-level.result c.in_ok-entry.next c.in_ok-entry.entry
          c.entries-test.true (sym c.in_ok-entry.ensures.value) c.in_ok-entry.ensures.behind c.in_ok-entry.ensures.within c.level_behind-level.ensures.value c.in_ok-push_function.ensures c.entries.invariant.read;
      level = c.level_behind-level.ensures.range;
      unit = omega arith;
    }

pub returns : goal.returns
returns c =
    let s = c.args.source.now in
    let past = c.entries-test.false in
    let read = listed_end _ s.abbrevs.now s.strs.now s.info.now c.args.table.now.at c.args.unit c.entries.functions.items c.entries.level c.entries.place past c.entries.invariant.read in
    search (rules, read, c.shrink_to_fit.ensures.items)
