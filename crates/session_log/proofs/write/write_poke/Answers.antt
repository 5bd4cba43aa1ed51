use Rattle.mi_text.proofs.Kept.{keeps_on}
use Rattle.session_log.proofs.write.write_poke.Goals as goal

pub returns-in_ok-put_named-in-Bytes-clause-kept : goal.returns-in_ok-put_named-in-Bytes-clause-kept
returns-in_ok-put_named-in-Bytes-clause-kept c = keeps_on _ _ _ c.in_ok-put_named-in-Bytes.ensures.kept c.put_hex.ensures.kept
