-- The declarations that are left lead to the table's first one.
use Rattle.debug_info.proofs.Words.{reverse, vec_len, IsTable, LeadTo}
use Rattle.debug_info.proofs.tables.Table.move_to.Given as goal

abbrev pub invariant-declarations : goal.invariant-declarations
invariant-declarations l =
    record {
      table : IsTable l.abbrevs l.self;
      before : LeadTo l.abbrevs l.fn.place.at l.self.at (reverse l.before.items);
    }

abbrev pub decreases-declarations : goal.decreases-declarations
decreases-declarations l = vec_len l.before
