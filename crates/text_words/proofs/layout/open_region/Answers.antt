use Rattle.std.proofs.Common.{◌∙◌, append-nil, arith, refl, sym, inl, inr}
use Rattle.text_words.proofs.layout.open_region.Goals as goal

pub returns-in-Some : goal.returns-in-Some
returns-in-Some c = inr (record { region = c.in-Some.last; was = c.in-Some.ensures.items; address_is = refl; first_is = refl; joins = omega (arith, c.if-from-end.true, c.from.ensures) })

pub returns-in_default : goal.returns-in_default
returns-in_default c =
    inl (record { same = sym (c.in_default.ensures.items ∙ append-nil c.pop.new.self.items); address_is = refl; first_is = refl; gap = inr (omega (arith, c.in_default.ensures.cases.0, c.args.regions.now.ok.0)) })

pub returns-else-from-end : goal.returns-else-from-end
returns-else-from-end c = inl (record { same = refl; address_is = refl; first_is = refl; gap = inl (λ e. c.if-from-end.false (c.from.ensures ∙ e)) })
