use Rattle.debug_info.proofs.Tabled.{none_kept}
use Rattle.debug_info.proofs.tables.Table.end_at.Goals as goal

pub returns-clause-table : goal.returns-clause-table
returns-clause-table c = none_kept c.args.abbrevs.now c.args.end c.args.at _ c.new-2.result c.new.ensures.items c.new-2.ensures.empty c.requires.within c.requires.end
