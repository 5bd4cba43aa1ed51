use Rattle.std.proofs.Common.{◌≡◌, ◌++◌, [], ◌∷◌, length, take, true, false, cond, sym, ap, ◌∙◌, arith}
use Rattle.std.specs.Prelude.{◌==◌}
use Rattle.std.proofs.lemmas.Bool.Decides.{nat_tests}
use Rattle.std.proofs.Math.Seq.{take-append_seam, take-length}
use Rattle.mi_input.specs.Lines.{without_cr}
use Rattle.mi_input.proofs.LineSplits.{without_cr-append}
use Rattle.mi_input.proofs.lines.text_length.Goals as goal

pub returns-then-last-eq13-clause-text : goal.returns-then-last-eq13-clause-text
returns-then-last-eq13-clause-text c =
    let front = c.in-Some.front.now in
    let last = c.in-Some.last.now in
    let is : (c.in-Some.last.now == 13) ≡ true = grind (arith, nat_tests) in
    ap (take (length front)) c.in-Some.ensures.cases.0 ∙ take-append_seam front (last ∷ []) ∙ sym (ap without_cr c.in-Some.ensures.cases.0 ∙ (without_cr-append front last ∙ ap (λ b. cond b front (front ++ last ∷ [])) is))

pub returns-else-last-eq13-clause-text : goal.returns-else-last-eq13-clause-text
returns-else-last-eq13-clause-text c =
    let front = c.in-Some.front.now in
    let last = c.in-Some.last.now in
    let is : (c.in-Some.last.now == 13) ≡ false = grind (arith, nat_tests) in
    take-length c.args.line.now ∙ c.in-Some.ensures.cases.0 ∙ sym (ap without_cr c.in-Some.ensures.cases.0 ∙ (without_cr-append front last ∙ ap (λ b. cond b front (front ++ last ∷ [])) is))
