use Rattle.mi_text.proofs.Kept.{keeps_on}
use Rattle.session_log.proofs.write.write_why.Goals as goal

pub returns-in_ok-put_named-in-Break-clause-kept : goal.returns-in_ok-put_named-in-Break-clause-kept
returns-in_ok-put_named-in-Break-clause-kept c = keeps_on _ _ _ c.in_ok-put_named-in-Break.ensures.kept c.write_error.ensures.kept
