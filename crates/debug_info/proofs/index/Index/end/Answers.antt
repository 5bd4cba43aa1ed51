use Rattle.debug_info.proofs.Words.{◌+◌, length, sym, subst, ◌∙◌, ap, IfOk, IsBehind, behind_last}
use Rattle.debug_info.proofs.Behind.{all_end}
use Rattle.debug_info.proofs.index.Index.end.Goals as goal

pub returns-clause-within : goal.returns-clause-within
returns-clause-within c =
    subst (λ r. IfOk r (λ end. IsBehind c.args.abbrevs.now c.args.at end)) (sym (ap behind_last c.in_ok-end.ensures.value ∙ c.run-last.ensures.end)) (all_end (length c.args.abbrevs.now + 1) c.args.abbrevs.now c.args.at)
