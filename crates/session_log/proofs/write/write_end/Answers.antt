use Rattle.mi_text.proofs.Kept.{keeps_on}
use Rattle.session_log.proofs.write.write_end.Goals as goal

pub returns-clause-kept : goal.returns-clause-kept
returns-clause-kept c = keeps_on _ _ _ c.in_ok-put.ensures.kept c.put_u64.ensures.kept
