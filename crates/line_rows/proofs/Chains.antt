-- Ranges that stand one behind another.
use Rattle.std.proofs.Common.{◌≡◌, ℕ, ◌<◌, ◌≤◌, List, [], ◌∷◌, ◌++◌, take, drop, refl, ◌∙◌, sym, subst, arith}
use Rattle.std.specs.Prelude.{All}
use Rattle.std.proofs.lemmas.List.{take-append-drop}
use Rattle.std.proofs.lemmas.List.Elements.{All-cons, All-nil}
use Rattle.line_rows.specs.KeptSequences.{Chained, IsRowRange}
use Rattle.line_rows.specs.declared.sequences.RowRange.{RowRange}

-- one range more behind the others
pub chain_push : (at : ℕ) (rs : List RowRange) (mid : ℕ) (r : RowRange) → Chained at rs mid → r.start ≡ mid → r.start < r.past → Chained at (rs ++ r ∷ []) r.past
chain_push at [] mid r h e some = (e ∙ sym h, some, refl)
chain_push at (x ∷ rs) mid r h e some = (h.0, h.1, chain_push x.past rs mid r h.2 e some)

pub chain_ordered : (at : ℕ) (rs : List RowRange) (past : ℕ) → Chained at rs past → at ≤ past
chain_ordered at [] past h = omega (arith, h)
chain_ordered at (r ∷ rs) past h = omega (arith, h.0, h.1, chain_ordered r.past rs past h.2)

pub chain_ranges : (at : ℕ) (rs : List RowRange) (past : ℕ) → Chained at rs past → All (IsRowRange past) rs
chain_ranges at [] past h = All-nil (IsRowRange past)
chain_ranges at (r ∷ rs) past h =
    let order = h.1 in
    let within = chain_ordered r.past rs past h.2 in
    All-cons (IsRowRange past) r rs (record { ordered = omega (arith, order); within = within }) (chain_ranges r.past rs past h.2)

chain_join : (at : ℕ) (rs : List RowRange) (mid : ℕ) (more : List RowRange) (past : ℕ) → Chained at rs mid → Chained mid more past → Chained at (rs ++ more) past
chain_join at [] mid more past h behind = subst (λ (n : ℕ). Chained n more past) (sym h) behind
chain_join at (r ∷ rs) mid more past h behind = (h.0, h.1, chain_join r.past rs mid more past h.2 behind)

-- the ranges before a place and those behind it
pub whole_chain : (k : ℕ) (rs : List RowRange) (mid past : ℕ) → Chained 0 (take k rs) mid → Chained mid (drop k rs) past → Chained 0 rs past
whole_chain k rs mid past front back = subst (λ (l : List RowRange). Chained 0 l past) (take-append-drop k rs) (chain_join 0 (take k rs) mid (drop k rs) past front back)

pub whole_ranges : (k : ℕ) (rs : List RowRange) (mid past : ℕ) → Chained 0 (take k rs) mid → Chained mid (drop k rs) past → All (IsRowRange past) rs
whole_ranges k rs mid past front back = chain_ranges 0 rs past (whole_chain k rs mid past front back)
