-- What is a tree has no fault.
use Rattle.std.proofs.Common.{◌≡◌, ℕ, ◌+◌, ◌≤◌, List, [], ◌∷◌, refl, ap, ◌∙◌, arith, None}
use Rattle.cond_expr.specs.declared.token.Spot.{Spot}
use Rattle.cond_expr.specs.Term.{Term}
use Rattle.cond_expr.specs.Grammar.{Spells, stronger, operation, prefixed, inside, single, IsTree}
use Rattle.cond_expr.specs.Fault.{wanting, behind, first_fault}
use Rattle.cond_expr.proofs.Climb.{strength_le}
use Rattle.cond_expr.proofs.Scan.{wanting-operand, wanting-before, wanting-opens, behind-joins, behind-closes, behind-end}

passes : {depth level : ℕ} {tokens rest : List Spot} {x : Term} → Spells depth level tokens rest x → (end : ℕ) (parens : List ℕ) (outer : ℕ) → (level ≤ 10 → outer ≡ depth)
    → wanting end parens outer depth tokens ≡ behind end parens outer rest
passes (stronger h) end parens outer p = passes h end parens outer (λ le. p (omega arith))
passes (operation {middle = m} s op joins left right) end parens outer p =
    let e = p (strength_le op) in
    passes left end parens outer p ∙ behind-joins end parens outer s m op joins ∙ ap (λ (d : ℕ). wanting end parens outer d m) e ∙ passes right end parens outer (λ _. e)
passes {depth = d} (prefixed {tokens = ts} s op starts room h) end parens outer p =
    wanting-before end parens outer d s ts op starts room ∙ passes h end parens outer (λ le. absurd (omega arith))
passes {depth = d} {rest = r} (inside {tokens = ts} s last opens closes room h) end parens outer p =
    wanting-opens end parens outer d s ts opens room ∙ passes h end (outer ∷ parens) (d + 1) (λ _. refl) ∙ behind-closes end outer parens (d + 1) last r closes
passes {depth = d} {rest = r} (single s a starts) end parens outer p = wanting-operand end parens outer d s r a starts

pub no_fault : (end : ℕ) (tokens : List Spot) (x : Term) → IsTree tokens x → first_fault end tokens ≡ None
no_fault end tokens x h = passes h end [] 0 (λ _. refl) ∙ behind-end end 0
