use Rattle.mi_text.proofs.Kept.{keeps_more, keeps_on}
use Rattle.session_log.proofs.put.put.Goals as goal

pub returns-clause-kept : goal.returns-clause-kept
returns-clause-kept c = keeps_on _ _ _ (keeps_more _ _ _ c.in_ok-extend_from_slice.ensures.items) (keeps_more _ _ _ c.in_ok-push.ensures.items)
