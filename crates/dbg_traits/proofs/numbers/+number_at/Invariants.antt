use Rattle.dbg_traits.proofs.numbers.+number_at.Given as goal

abbrev pub decreases-number_at : goal.decreases-number_at
decreases-number_at g l = l.count
