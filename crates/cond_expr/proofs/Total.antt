-- Tokens with no fault are a tree.
use Rattle.std.proofs.Common.{◌≡◌, ℕ, zero, suc, ◌+◌, ◌<◌, ◌≤◌, List, [], ◌∷◌, length, refl, sym, ap, subst, ◌∙◌, arith, inl, inr, None}
use Rattle.std.proofs.lemmas.Bool.{cases_lt}
use Rattle.cond_expr.specs.declared.fault.FaultKind.{FaultKind}
use Rattle.cond_expr.specs.declared.token.Binary.{Binary}
use Rattle.cond_expr.specs.declared.token.Spot.{Spot}
use Rattle.cond_expr.specs.declared.token.Start.{Start}
use Rattle.cond_expr.specs.declared.token.Start.TheVariants.{Operand, Before, Opens, CutOff, Refused}
use Rattle.cond_expr.specs.declared.token.Follow.{Follow}
use Rattle.cond_expr.specs.declared.token.Follow.TheVariants.{Joins, Closes, Neither}
use Rattle.cond_expr.specs.Token.{strength, start_of, follow_of}
use Rattle.cond_expr.specs.Term.{Term, leaf, prefix, binary}
use Rattle.cond_expr.specs.Grammar.{Spells, operation, prefixed, inside, single, IsTree}
use Rattle.cond_expr.specs.Fault.{fault, wanting, behind, first_fault}
use Rattle.cond_expr.specs.Stops.{Stops, IsWeaker}
use Rattle.cond_expr.proofs.Climb.{strength_le, strength_pos, weaker, stops_12, joins_below, is_weaker}
use Rattle.cond_expr.proofs.Unique.{stops_11}
use Rattle.cond_expr.proofs.Scan.{wanting-operand, wanting-before, wanting-before_full, wanting-opens, wanting-opens_full, wanting-cut_off, wanting-cut_off_full}
use Rattle.cond_expr.proofs.Scan.{wanting-refused, wanting-nothing, behind-joins, behind-closes, behind-neither, behind-open, behind-extra}

record Found (end : ℕ) (parens : List ℕ) (outer depth level : ℕ) (tokens : List Spot) : Type 0 where
  x : Term
  rest : List Spot
  spelled : Spells depth level tokens rest x
  stops : Stops level rest
  passes : behind end parens outer rest ≡ None
  shorter : length rest < length tokens

abbrev OperandAt : ℕ → Type 0
OperandAt m = (tokens : List Spot) (end : ℕ) (parens : List ℕ) (outer depth : ℕ) → length tokens ≤ m → wanting end parens outer depth tokens ≡ None → Found end parens outer depth 11 tokens

abbrev LevelAt : ℕ → Type 0
LevelAt m = (tokens : List Spot) (end : ℕ) (parens : List ℕ) (depth least : ℕ) → least ≤ 11 → length tokens ≤ m → wanting end parens depth depth tokens ≡ None → Found end parens depth depth least tokens

no_fault_is_none : (kind : FaultKind) (at : ℕ) → fault kind at ≡ None → ⊥
no_fault_is_none kind at e = cc

-- behind what a parenthesis holds
closing : (end before : ℕ) (parens : List ℕ) (outer : ℕ) (rest : List Spot) → Stops 1 rest → behind end (before ∷ parens) outer rest ≡ None
    → (last : Spot) × (more : List Spot) × (rest ≡ last ∷ more) × (follow_of last.token ≡ Closes) × (behind end parens before more ≡ None)
closing end before parens outer [] stops h = absurd (no_fault_is_none _ _ (sym (behind-open end before parens outer) ∙ h))
closing end before parens outer (s ∷ rest) stops h = by_follow (follow_of s.token) refl
  where
    by_follow : (f : Follow) → follow_of s.token ≡ f → (last : Spot) × (more : List Spot) × (s ∷ rest ≡ last ∷ more) × (follow_of last.token ≡ Closes) × (behind end parens before more ≡ None)
    by_follow (Joins op) e = absurd (omega (arith, joins_below 1 (follow_of s.token) op e stops, strength_pos op))
    by_follow Closes e = (s, rest, refl, e, sym (behind-closes end before parens outer s rest e) ∙ h)
    by_follow Neither e = absurd (no_fault_is_none _ _ (sym (behind-neither end (before ∷ parens) outer s rest e) ∙ h))

operand_step : (m : ℕ) → OperandAt m → LevelAt m → OperandAt (suc m)
operand_step m operand level [] end parens outer depth len h = absurd (no_fault_is_none _ _ (sym (wanting-nothing end parens outer depth) ∙ h))
operand_step m operand level (s ∷ ts) end parens outer depth len h = by_start (start_of s.token) refl
  where
    by_start : (st : Start) → start_of s.token ≡ st → Found end parens outer depth 11 (s ∷ ts)
    by_start (Operand a) e = record { x = leaf a; rest = ts; spelled = single s a e; stops = stops_11 ts; passes = sym (wanting-operand end parens outer depth s ts a e) ∙ h; shorter = omega arith }
    by_start (Before op) e =
        elim (cases_lt depth 32) [
          | inl lt ↦
              let r = operand ts end parens outer (depth + 1) (omega arith) (sym (wanting-before end parens outer depth s ts op e lt) ∙ h) in
              record { x = prefix op r.x; rest = r.rest; spelled = prefixed s op e lt r.spelled; stops = stops_11 r.rest; passes = r.passes; shorter = omega (arith, r.shorter) }
          | inr le ↦ absurd (no_fault_is_none _ _ (sym (wanting-before_full end parens outer depth s ts op e le) ∙ h))
        ]
    by_start Opens e =
        elim (cases_lt depth 32) [
          | inl lt ↦
              let r = level ts end (outer ∷ parens) (depth + 1) 1 (omega arith) (omega arith) (sym (wanting-opens end parens outer depth s ts e lt) ∙ h) in
              let q = closing end outer parens (depth + 1) r.rest r.stops r.passes in
              record {
                x = r.x;
                rest = q.1;
                spelled = inside s q.0 e q.3 lt (subst (λ (l : List Spot). Spells (depth + 1) 1 ts l r.x) q.2 r.spelled);
                stops = stops_11 q.1;
                passes = q.4;
                shorter = omega (arith, r.shorter, ap length q.2);
              }
          | inr le ↦ absurd (no_fault_is_none _ _ (sym (wanting-opens_full end parens outer depth s ts e le) ∙ h))
        ]
    by_start (CutOff place) e =
        elim (cases_lt depth 32) [
          | inl lt ↦ absurd (no_fault_is_none _ _ (sym (wanting-cut_off end parens outer depth s ts place e lt) ∙ h))
          | inr le ↦ absurd (no_fault_is_none _ _ (sym (wanting-cut_off_full end parens outer depth s ts place e le) ∙ h))
        ]
    by_start (Refused kind) e = absurd (no_fault_is_none _ _ (sym (wanting-refused end parens outer depth s ts kind e) ∙ h))

module _ (m : ℕ) (level_at : LevelAt m) (end : ℕ) (parens : List ℕ) (depth least : ℕ) (tokens : List Spot) where
  climb : (k : ℕ) (rest : List Spot) (level : ℕ) (x : Term) → k ≤ m → length rest ≤ k → least ≤ level → Spells depth level tokens rest x → Stops (level + 1) rest → behind end parens depth rest ≡ None → length rest < length tokens
      → Found end parens depth depth least tokens
  climb k [] level x km len le h stops passes short = record { x = x; rest = []; spelled = weaker least le h; stops = tt; passes = passes; shorter = short }
  climb zero (s ∷ more) level x km len le h stops passes short = absurd (omega arith)
  climb (suc k) (s ∷ more) level x km len le h stops passes short =
      by_follow (λ rest level x len le h stops passes short. climb k rest level x (omega arith) len le h stops passes short) (follow_of s.token) refl
    where
      done : IsWeaker least (follow_of s.token) → Found end parens depth depth least tokens
      done w = record { x = x; rest = s ∷ more; spelled = weaker least le h; stops = w; passes = passes; shorter = short }

      goes_on : (op : Binary) → follow_of s.token ≡ Joins op → least ≤ strength op → (r : Found end parens depth depth (strength op + 1) more)
          → ((rest : List Spot) (level : ℕ) (x : Term) → length rest ≤ k → least ≤ level → Spells depth level tokens rest x → Stops (level + 1) rest
          → behind end parens depth rest ≡ None → length rest < length tokens → Found end parens depth depth least tokens)
          → Found end parens depth depth least tokens
      goes_on op e low r again =
          let below = joins_below (level + 1) (follow_of s.token) op e stops in
          again r.rest (strength op) (binary op x r.x) (omega (arith, r.shorter)) low (operation s op e (weaker (strength op) (omega arith) h) r.spelled) r.stops r.passes (omega (arith, r.shorter))

      by_follow : ((rest : List Spot) (level : ℕ) (x : Term) → length rest ≤ k → least ≤ level → Spells depth level tokens rest x
          → Stops (level + 1) rest → behind end parens depth rest ≡ None → length rest < length tokens → Found end parens depth depth least tokens)
          → (f : Follow) → follow_of s.token ≡ f → Found end parens depth depth least tokens
      by_follow again (Joins op) e =
          elim (cases_lt (strength op) least) [
            | inl lt ↦ done (is_weaker least (follow_of s.token) op e lt)
            | inr low ↦
                goes_on op e low (level_at more end parens depth (strength op + 1) (omega (arith, strength_le op)) (omega arith) (sym (behind-joins end parens depth s more op e) ∙ passes))
                again
          ]
      by_follow again Closes e = done (rw e tt)
      by_follow again Neither e = done (rw e tt)

both_at : (m : ℕ) → OperandAt m × LevelAt m
both_at zero = (λ tokens end parens outer depth len h. absurd (nothing tokens end parens outer depth len h), λ tokens end parens depth least le len h. absurd (nothing tokens end parens depth depth len h))
  where
    nothing : (tokens : List Spot) (end : ℕ) (parens : List ℕ) (outer depth : ℕ) → length tokens ≤ 0 → wanting end parens outer depth tokens ≡ None → ⊥
    nothing [] end parens outer depth len h = no_fault_is_none _ _ (sym (wanting-nothing end parens outer depth) ∙ h)
    nothing (s ∷ ts) end parens outer depth len h = omega arith
both_at (suc m) =
    let p = both_at m in
    let o = operand_step m p.0 p.1 in (
      o,
      λ tokens end parens depth least le len h.
          let r = o tokens end parens depth depth len h in
          climb m p.1 end parens depth least tokens m r.rest 11 r.x (omega arith) (omega (arith, r.shorter)) le r.spelled (stops_12 r.rest) r.passes r.shorter,
    )

whole : (end : ℕ) (rest : List Spot) → Stops 1 rest → behind end [] 0 rest ≡ None → rest ≡ []
whole end [] stops h = refl
whole end (s ∷ rest) stops h = by_follow (follow_of s.token) refl
  where
    by_follow : (f : Follow) → follow_of s.token ≡ f → s ∷ rest ≡ []
    by_follow (Joins op) e = absurd (omega (arith, joins_below 1 (follow_of s.token) op e stops, strength_pos op))
    by_follow Closes e = absurd (no_fault_is_none _ _ (sym (behind-extra end 0 s rest e) ∙ h))
    by_follow Neither e = absurd (no_fault_is_none _ _ (sym (behind-neither end [] 0 s rest e) ∙ h))

pub no_fault_tree : (end : ℕ) (tokens : List Spot) → first_fault end tokens ≡ None → (x : Term) × IsTree tokens x
no_fault_tree end tokens h =
    let r = (both_at (length tokens)).1 tokens end [] 0 1 (omega arith) (omega arith) h in
    (r.x, subst (λ (l : List Spot). Spells 0 1 tokens l r.x) (whole end r.rest r.stops r.passes) r.spelled)
