use Rattle.std.proofs.Common.{sym}
use Rattle.rv_exec.proofs.Causes.{refused_load, refused_store, refused_amo}
use Rattle.rv_exec.proofs.executing.execute.Goals as goal

pub returns-in-Err-clause-cause : goal.returns-in-Err-clause-cause
returns-in-Err-clause-cause g c = refused_load _ _ _ _ (sym c.in-Err.ensures.value)

pub returns-in-Err-store-clause-cause : goal.returns-in-Err-store-clause-cause
returns-in-Err-store-clause-cause g c = refused_store _ _ _ _ _ (sym c.in-Err-store.ensures.value)

pub returns-in-Err-amo-clause-cause : goal.returns-in-Err-amo-clause-cause
returns-in-Err-amo-clause-cause g c = refused_amo _ _ _ _ _ (sym c.in-Err-amo.ensures.value)
