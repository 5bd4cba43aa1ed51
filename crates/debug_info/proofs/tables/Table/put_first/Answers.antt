use Rattle.debug_info.proofs.Words.{◌≡◌, Some, ℕ, sym, ◌∙◌, ap, declaration_at, code_in}
use Rattle.debug_info.proofs.Tabled.{more_kept, not_none, same_code}
use Rattle.debug_info.proofs.tables.Table.put_first.Goals as goal

pub returns-in_ok-push-in-Some-clause-table : goal.returns-in_ok-push-in-Some-clause-table
returns-in_ok-push-in-Some-clause-table c =
    let at = c.args.self.now.at in
    let b = c.requires.before in
    let code : b.code ≡ c.in-Some.code = same_code _ _ _ _ (sym b.is ∙ sym c.code_in.ensures ∙ c.in-Some.is) in
    let read : code_in (declaration_at c.args.abbrevs.now c.args.at) ≡ Some (c.in-Some.code, at) = b.is ∙ ap (λ (n : ℕ). Some (n, at)) code in
    more_kept c.args.abbrevs.now _ at c.args.at c.in-Some.code _ _ _ c.args.self.now.places c.insert.new.self c.requires.table read c.in_ok-hidden-in-Some.ensures.old c.in_ok-hidden-in-Some.ensures.updates c.in_ok-push-in-Some.ensures.items

pub returns-in-None : goal.returns-in-None
returns-in-None c =
    let b = c.requires.before in
    absurd (not_none _ _ (sym b.is ∙ sym c.code_in.ensures ∙ c.in-None.is))
