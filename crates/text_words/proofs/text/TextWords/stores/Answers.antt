use Rattle.std.proofs.Common.{◌≡◌, arith, inl, inr, sym, ◌∙◌, subst, ap}
use Rattle.std.specs.Prelude.{slice_get, slice_index}
use Rattle.std.proofs.lemmas.Bool.{cases_lt}
use Rattle.std.proofs.lemmas.Option.{slice_get-get_or, slice_get_within, get_or_from_slice_get}
use Rattle.text_words.specs.Words.{IsStoredAt}
use Rattle.text_words.proofs.Runs.{agree, differ, held, held_stored}
use Rattle.text_words.proofs.text.TextWords.stores.Goals as goal

pub returns-then-ne-clause-no : goal.returns-then-ne-clause-no
returns-then-ne-clause-no c all =
    absurd
    (differ _ _ (sym c.ne.ensures ∙ c.if-ne.true)
    (held c.args.self.now c.args.addr c.run_at-run.result.now c.args.words.now c.min-near.result c.run_at-run.ensures.run (omega (arith, c.min-near.ensures)) (omega (arith, c.min-near.ensures)) all))

pub loop-i-init : goal.loop-i-init
loop-i-init c = λ k w l e.
    held_stored c.args.self.now c.args.addr c.run_at-run.result.now c.args.words.now c.min-near.result k w c.run_at-run.ensures.run (omega (arith, c.min-near.ensures))
    (agree _ _ (sym c.ne.ensures ∙ c.if-ne.false)) l e

pub returns-then-not-stores_at-clause-no : goal.returns-then-not-stores_at-clause-no
returns-then-not-stores_at-clause-no c all =
    sym c.if-not-stores_at.true ∙ c.stores_at.ensures.no (all c.loop-i.i (slice_index c.args.words.now c.loop-i.i) (slice_get-get_or c.args.words.now c.loop-i.i 0 (omega arith)))

pub loop-i-preserved : goal.loop-i-preserved
loop-i-preserved c = λ k w l e.
    elim (cases_lt k c.loop-i.i) [
      | inl less ↦ c.loop-i.invariant k w less e
      | inr more ↦
          let same : c.loop-i.i ≡ k = omega arith in
          let is : slice_index c.args.words.now c.loop-i.i ≡ w = get_or_from_slice_get c.args.words.now c.loop-i.i w 0 (ap (slice_get c.args.words.now) same ∙ e) in
          subst (λ j. IsStoredAt c.args.self.now c.args.addr j w) same (subst (IsStoredAt c.args.self.now c.args.addr c.loop-i.i) is (c.stores_at.ensures.yes c.if-not-stores_at.false))
    ]

pub returns-clause-yes : goal.returns-clause-yes
returns-clause-yes c all = λ i w e. c.loop-i.invariant i w (let l = slice_get_within c.args.words.now i w e in omega (arith, l)) e
