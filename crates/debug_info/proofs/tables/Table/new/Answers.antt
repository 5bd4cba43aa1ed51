use Rattle.std.proofs.Common.{arith}
use Rattle.debug_info.proofs.Tabled.{none_kept, nothing_last}
use Rattle.debug_info.proofs.tables.Table.new.Goals as goal

pub returns : goal.returns
returns c = none_kept c.args.abbrevs.now _ _ _ c.new-2.result c.new.ensures.items c.new-2.ensures.empty (omega arith) (nothing_last c.args.abbrevs.now)
