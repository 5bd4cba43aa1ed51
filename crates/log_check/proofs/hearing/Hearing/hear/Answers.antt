use Rattle.std.proofs.Common.{rules, ◌≡◌, ◌-◌, ℕ, List, true, length, ap, arith, subst, take, drop, length-drop, nat_eq, refl}
use Rattle.std.proofs.lemmas.List.{take_rest}
use Rattle.log_check.specs.Agreeing.{IsCommon}
use Rattle.log_check.proofs.Comparing.{hears_on}
use Rattle.log_check.proofs.hearing.Hearing.hear.Goals as goal

pub returns-clause-hears : goal.returns-clause-hears
returns-clause-hears c =
    let old = c.args.self.now in
    let text = old.text.now in
    let n = c.common_length-common.result in
    let piece : c.as_slice.result.now ≡ old.piece.items = search rules in
    let common = subst (λ (l : List ℕ). IsCommon (take (length text - old.at) (drop old.at text)) l n) piece c.common_length-common.ensures in
    let same : old.same ≡ true = search rules in
    let count : c.len.result ≡ length old.piece.items = search rules in
    record {
      text = refl;
      within = omega (arith, ap length (take_rest text old.at), length-drop old.at text, c.common_length-common.ensures.text_has);
      agrees = λ said is. hears_on text said old.piece.items old.at n old.same (nat_eq n c.len.result) same is common (ap (nat_eq n) count);
    }
