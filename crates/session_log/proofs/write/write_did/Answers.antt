use Rattle.mi_text.proofs.Kept.{keeps_on}
use Rattle.session_log.proofs.write.write_did.Goals as goal

pub returns-clause-kept : goal.returns-clause-kept
returns-clause-kept c = keeps_on _ _ _ c.in_ok-put.ensures.kept c.put_hex.ensures.kept
