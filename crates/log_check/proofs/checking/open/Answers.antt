use Rattle.std.proofs.Common.{◌≡◌, ◌∙◌, ◌++◌, List, ℕ, ap}
use Rattle.log_check.specs.declared.hearing.Hearing.{Hearing}
use Rattle.log_check.proofs.Going.{opened}
use Rattle.log_check.proofs.checking.open.Goals as goal

pub returns-clause-agrees : goal.returns-clause-agrees
returns-clause-agrees g c =
    let v = g.S.Speaker.voice in
    let o = c.args.opening.now in
    let first = c.new-hearing.ensures in
    let piece = c.opening.new.into.items in
    let h : Hearing = record c.new-hearing.result { piece = c.opening.new.into } in
    let said : piece ≡ v.opening o = c.in_ok-opening.ensures.written ∙ ap (λ (l : List ℕ). l ++ v.opening o) first.piece in
    opened v o piece h c.hear.new.self first.at first.same said c.hear.ensures.hears
