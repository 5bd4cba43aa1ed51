-- The declarations from the other place up to where its table is gone over now.
use Rattle.debug_info.proofs.Words.{◌≤◌, ◌-◌, length, reverse, IsTable, LeadTo}
use Rattle.debug_info.proofs.tables.Table.meet.Given as goal

abbrev pub invariant-places : goal.invariant-places
invariant-places l =
    record {
      table : IsTable l.abbrevs l.self;
      before : LeadTo l.abbrevs l.at l.place (reverse l.before.items);
      within : l.place ≤ length l.abbrevs;
    }

abbrev pub decreases-places : goal.decreases-places
decreases-places l = length l.abbrevs - l.place
