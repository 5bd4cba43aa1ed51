use Rattle.mi_text.proofs.Kept.{keeps_more, keeps_on}
use Rattle.mi_values.proofs.write.write_name.Goals as goal

pub returns-clause-kept : goal.returns-clause-kept
returns-clause-kept c = keeps_on _ _ _ (keeps_on _ _ _ c.in_ok-separate.ensures.kept (keeps_more _ _ _ c.in_ok-extend_from_slice.ensures.items)) c.write_byte.ensures.kept
