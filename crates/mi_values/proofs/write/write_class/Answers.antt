use Rattle.mi_text.proofs.Kept.{keeps_more, keeps_on}
use Rattle.mi_values.proofs.write.write_class.Goals as goal

pub returns-clause-kept : goal.returns-clause-kept
returns-clause-kept c = keeps_on _ _ _ (keeps_more _ _ _ c.in_ok-extend_from_slice.ensures.items) c.write_fields.ensures.kept
