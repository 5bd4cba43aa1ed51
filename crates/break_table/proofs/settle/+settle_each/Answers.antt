use Rattle.break_table.proofs.Placing.{changed_each-first}
use Rattle.break_table.proofs.settle.+settle_each.Goals as goal

pub returns : goal.returns
returns g t c = changed_each-first _ c.args.places.now c.args.entries.now _ _ _ _ c.in-len1-up.len_at_least c.settle_entry.ensures c.settle_each.ensures
