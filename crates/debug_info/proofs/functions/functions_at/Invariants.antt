use Rattle.debug_info.proofs.Words.{length, ◌-◌, ◌≤◌, ◌+◌, entries_from}
use Rattle.debug_info.proofs.Listed.{Listed}
use Rattle.debug_info.proofs.functions.functions_at.Given as goal

abbrev pub invariant-entries : goal.invariant-entries
invariant-entries l =
    record {
      read : Listed (entries_from (length l.source.info.now + 1) l.source.abbrevs.now l.source.strs.now l.source.info.now l.table.at l.unit 0 l.at) l.source.abbrevs.now l.source.strs.now
          l.source.info.now l.table.at l.unit l.functions.items l.level l.place;
      level : l.level ≤ 64;
      unit : l.unit ≤ l.place;
    }

abbrev pub decreases-entries : goal.decreases-entries
decreases-entries l = length l.source.info.now - l.place
