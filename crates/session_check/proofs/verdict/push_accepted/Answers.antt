use Rattle.std.proofs.Common.{◌≡◌, ◌∙◌, ◌++◌, ◌∷◌, [], ℕ, List, ap, append_assoc}
use Rattle.std.specs.Prelude.{codes}
use Rattle.std.specs.Fmt.{decimal}
use Rattle.session_check.proofs.verdict.push_accepted.Goals as goal

pub returns-clause-written : goal.returns-clause-written
returns-clause-written c =
    let word = codes "check accepted " in
    let behind = decimal c.args.entries in
    c.in_ok-push.ensures.items
    ∙ ap (λ (l : List ℕ). l ++ 10 ∷ []) c.in_ok-write_decimal.ensures.written
    ∙ ap (λ (l : List ℕ). (l ++ behind) ++ 10 ∷ []) c.in_ok-extend_from_slice.ensures.items
    ∙ append_assoc (c.args.into.now.items ++ word) behind (10 ∷ [])
    ∙ append_assoc c.args.into.now.items word (behind ++ 10 ∷ [])
