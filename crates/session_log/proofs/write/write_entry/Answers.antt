use Rattle.mi_text.proofs.Kept.{keeps_on}
use Rattle.session_log.proofs.write.write_entry.Goals as goal

pub returns-in_ok-put_named-in-Ran-clause-kept : goal.returns-in_ok-put_named-in-Ran-clause-kept
returns-in_ok-put_named-in-Ran-clause-kept c = keeps_on _ _ _ c.in_ok-put_named-in-Ran.ensures.kept c.put_u64.ensures.kept

pub returns-in_ok-put_named-in-Stopped-clause-kept : goal.returns-in_ok-put_named-in-Stopped-clause-kept
returns-in_ok-put_named-in-Stopped-clause-kept c = keeps_on _ _ _ c.in_ok-put_named-in-Stopped.ensures.kept c.write_why.ensures.kept

pub returns-in_ok-put_named-in-Left-clause-kept : goal.returns-in_ok-put_named-in-Left-clause-kept
returns-in_ok-put_named-in-Left-clause-kept c = keeps_on _ _ _ c.in_ok-put_named-in-Left.ensures.kept c.put_u32.ensures.kept
