use Rattle.std.proofs.Common.{rules, ◌≡◌, ◌∙◌, ◌+◌, ℕ, suc, List, [], ◌∷◌, length, refl, sym, ap, subst, arith}
use Rattle.log_check.specs.Agreeing.{Hears, repeated}
use Rattle.log_check.proofs.Further.{nothing_more, silence}
use Rattle.log_check.proofs.Going.{hears_more}
use Rattle.log_check.proofs.hearing.Hearing.hear_often.Goals as goal

-- a list without items
none_in : (xs : List ℕ) → length xs ≡ 0 → xs ≡ []
none_in [] is = refl
none_in (x ∷ xs) is = absurd (omega arith)

pub returns-then-is_empty : goal.returns-then-is_empty
returns-then-is_empty c =
    let h = c.args.self.now in
    let few : length h.piece.items ≡ 0 = search rules in
    let none : h.piece.items ≡ [] = none_in h.piece.items few in
    subst (λ l. Hears l h h) (sym (silence h.piece.items c.args.count none)) (nothing_more h c.requires)

pub loop-said-init : goal.loop-said-init
loop-said-init c = record { hears = nothing_more c.args.self.now c.requires; piece = refl }

pub loop-said-preserved : goal.loop-said-preserved
loop-said-preserved c =
    let h = c.args.self.now in
    let l = c.loop-said in
    let more : l.said + 1 ≡ suc l.said = omega arith in
    let heard = subst (λ (piece : List ℕ). Hears piece l.self c.hear.new.self) (ap (λ p. p.items) l.invariant.piece) c.hear.ensures.hears in
    record {
      hears =
          subst (λ n. Hears (repeated h.piece.items n) h c.hear.new.self) (sym more)
          (hears_more (repeated h.piece.items l.said) h.piece.items h l.self c.hear.new.self l.invariant.hears heard);
      piece = c.hear.ensures.piece ∙ l.invariant.piece;
    }
