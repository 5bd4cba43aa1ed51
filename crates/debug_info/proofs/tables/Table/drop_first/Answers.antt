use Rattle.std.proofs.Common.{sym, ◌∙◌}
use Rattle.debug_info.proofs.Tabled.{less_kept, none_popped}
use Rattle.debug_info.proofs.tables.Table.drop_first.Goals as goal

pub returns-in_ok-set-in-Some-code_in-clause-table : goal.returns-in_ok-set-in-Some-code_in-clause-table
returns-in_ok-set-in-Some-code_in-clause-table c =
    less_kept c.args.abbrevs.now _ _ c.in-Some-code_in.code c.in-Some-code_in.next c.in-Some.first _ _ c.args.self.now.places c.set.new.places c.requires.table c.in-Some.ensures.items
    (sym c.code_in.ensures ∙ c.in-Some-code_in.is) c.in_ok-set-in-Some-code_in.ensures

pub returns-in-None : goal.returns-in-None
returns-in-None c = absurd (none_popped c.args.abbrevs.now _ _ c.in-Some.first _ _ _ c.requires.table c.in-Some.ensures.items (sym c.code_in.ensures ∙ c.in-None.is))
