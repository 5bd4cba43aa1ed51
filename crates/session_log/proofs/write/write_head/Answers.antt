use Rattle.std.specs.Prelude.{codes}
use Rattle.std.proofs.lemmas.Result.{on_ok_weaker}
use Rattle.mi_text.proofs.Kept.{keeps_on}
use Rattle.session_log.proofs.Adding.{then_named, then_word}
use Rattle.session_log.proofs.write.write_head.Goals as goal

pub returns-clause-written : goal.returns-clause-written
returns-clause-written c =
    on_ok_weaker c.put_u32-3.result
    (λ e.
    then_named _ _ _ (codes "#settings") _ _ 32 _ c.in_ok-put_named.ensures.written
    (then_word _ _ _ _ _ _ c.in_ok-put_u32.ensures.written
    (then_word _ _ _ _ _ _ c.in_ok-put_u32-2.ensures.written
    (then_word _ _ _ _ _ _ c.in_ok-put_u64.ensures.written e))))
    c.put_u32-3.ensures.written

pub returns-clause-kept : goal.returns-clause-kept
returns-clause-kept c =
    keeps_on _ _ _ c.in_ok-put_named.ensures.kept
    (keeps_on _ _ _ c.in_ok-put_u32.ensures.kept
    (keeps_on _ _ _ c.in_ok-put_u32-2.ensures.kept
    (keeps_on _ _ _ c.in_ok-put_u64.ensures.kept c.put_u32-3.ensures.kept)))
