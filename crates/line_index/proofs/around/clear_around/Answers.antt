use Rattle.std.proofs.Common.{◌≡◌, ◌≤◌, ◌+◌, ℕ, refl, sym, ap, ◌∙◌, arith}
use Rattle.std.specs.Prelude.{Some, None}
use Rattle.line_index.specs.Lines.{addresses, below, least_from}
use Rattle.line_index.specs.Marks.{has}
use Rattle.line_index.proofs.Nearby.{clear_row, found_above, found_below}
use Rattle.line_index.proofs.around.clear_around.Goals as goal

found : (c : goal.After-from-end) → below c.args.span.end (least_from (c.args.pc + 1) (addresses (has c.args.mark) c.args.rows.now)) ≡ Some c.in-Some.address
found c = ap (λ (n : ℕ). below c.args.span.end (least_from (n + 1) (addresses (has c.args.mark) c.args.rows.now))) (sym c.from.ensures) ∙ (sym c.first_marked.ensures ∙ c.in-Some.is)

pub returns-in-Some-clause-there : goal.returns-in-Some-clause-there
returns-in-Some-clause-there c =
    let above = found_above c.args.pc c.args.span.end c.in-Some.address (addresses (has c.args.mark) c.args.rows.now) (found c) in
    (omega (arith, c.max-start.ensures, c.behind_marked.ensures.low, c.requires.there.0), omega (arith, c.from-end.ensures, above))

pub returns-in-Some-clause-clear : goal.returns-in-Some-clause-clear
returns-in-Some-clause-clear c =
    λ k d within from less apart.
    clear_row c.args.mark c.args.rows.now c.args.pc c.max-start.result c.args.span.end c.behind_marked.result c.in-Some.address k d (Some c.in-Some.address) (found c)
    (omega (arith, c.max-start.ensures)) (omega (arith, found_below c.args.span.end c.in-Some.address _ (found c))) (λ f e. (let same : c.in-Some.address ≡ f = cc in omega (arith, same))) c.behind_marked.ensures.clear within from
    (omega (arith, less, c.from-end.ensures)) apart _ refl

pub returns-in-None-clause-clear : goal.returns-in-None-clause-clear
returns-in-None-clause-clear c =
    let none = ap (λ (n : ℕ). below c.args.span.end (least_from (n + 1) (addresses (has c.args.mark) c.args.rows.now))) (sym c.from.ensures) ∙ (sym c.first_marked.ensures ∙ c.in-None.is) in
    λ k d within from less apart.
    clear_row c.args.mark c.args.rows.now c.args.pc c.max-start.result c.args.span.end c.behind_marked.result c.args.span.end k d None none
    (omega (arith, c.max-start.ensures)) (omega arith) (λ f e. cc) c.behind_marked.ensures.clear within from less apart _ refl
