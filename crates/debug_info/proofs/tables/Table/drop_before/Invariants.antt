use Rattle.debug_info.proofs.Words.{vec_len, IsTable}
use Rattle.debug_info.proofs.tables.Table.drop_before.Given as goal

abbrev pub invariant-declarations : goal.invariant-declarations
invariant-declarations l = IsTable l.abbrevs l.self

abbrev pub decreases-declarations : goal.decreases-declarations
decreases-declarations l = vec_len l.self.listed
