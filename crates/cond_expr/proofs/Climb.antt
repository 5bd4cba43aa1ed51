-- Reading as far as it goes, from the left.
use Rattle.std.proofs.Common.{◌≡◌, ℕ, zero, suc, ◌+◌, ◌-◌, ◌<◌, ◌≤◌, List, [], ◌∷◌, length, refl, sym, ap, subst, ◌∙◌, arith}
use Rattle.std.specs.Prelude.{Option}
use Rattle.cond_expr.specs.declared.fault.ExprFault.{ExprFault}
use Rattle.cond_expr.specs.declared.token.Binary.{Binary}
use Rattle.cond_expr.specs.declared.token.Binary.TheVariants.{OrElse, AndThen, Or, Xor, And, Equal, NotEqual, Less, LessEqual, Greater, GreaterEqual, ShiftLeft, ShiftRight, Add, Subtract, Multiply, Divide, Remainder}
use Rattle.cond_expr.specs.declared.fault.FaultKind.TheVariants.{Text}
use Rattle.cond_expr.specs.declared.token.Prefix.{Prefix}
use Rattle.cond_expr.specs.declared.token.Leaf.{Leaf}
use Rattle.cond_expr.specs.declared.token.Start.TheVariants.{Operand, Before, Opens}
use Rattle.cond_expr.specs.declared.token.Spot.{Spot}
use Rattle.cond_expr.specs.declared.token.Follow.{Follow}
use Rattle.cond_expr.specs.declared.token.Follow.TheVariants.{Joins, Closes, Neither}
use Rattle.cond_expr.specs.Token.{strength, start_of, follow_of}
use Rattle.cond_expr.specs.Term.{Term, leaf, prefix, binary}
use Rattle.cond_expr.specs.Grammar.{Spells, stronger, operation, prefixed, inside, single}
use Rattle.cond_expr.specs.Fault.{fault, go_on, wanting, behind}
use Rattle.cond_expr.specs.Stops.{Stops, IsWeaker}
use Rattle.cond_expr.proofs.Scan.{behind-joins}

pub strength_le : (op : Binary) → strength op ≤ 10
strength_le OrElse = omega arith
strength_le AndThen = omega arith
strength_le Or = omega arith
strength_le Xor = omega arith
strength_le And = omega arith
strength_le Equal = omega arith
strength_le NotEqual = omega arith
strength_le Less = omega arith
strength_le LessEqual = omega arith
strength_le Greater = omega arith
strength_le GreaterEqual = omega arith
strength_le ShiftLeft = omega arith
strength_le ShiftRight = omega arith
strength_le Add = omega arith
strength_le Subtract = omega arith
strength_le Multiply = omega arith
strength_le Divide = omega arith
strength_le Remainder = omega arith

pub strength_pos : (op : Binary) → 1 ≤ strength op
strength_pos OrElse = omega arith
strength_pos AndThen = omega arith
strength_pos Or = omega arith
strength_pos Xor = omega arith
strength_pos And = omega arith
strength_pos Equal = omega arith
strength_pos NotEqual = omega arith
strength_pos Less = omega arith
strength_pos LessEqual = omega arith
strength_pos Greater = omega arith
strength_pos GreaterEqual = omega arith
strength_pos ShiftLeft = omega arith
strength_pos ShiftRight = omega arith
strength_pos Add = omega arith
strength_pos Subtract = omega arith
strength_pos Multiply = omega arith
strength_pos Divide = omega arith
strength_pos Remainder = omega arith

-- an expression is one of each lower strength
weaker_by : (k : ℕ) {depth level : ℕ} {tokens rest : List Spot} {x : Term} → Spells depth (k + level) tokens rest x → Spells depth level tokens rest x
weaker_by zero {depth} {level} {tokens} {rest} {x} h = let P : ℕ → Type 0 = λ n. Spells depth n tokens rest x in subst P (omega arith) h
weaker_by (suc k) {depth} {level} {tokens} {rest} {x} h =
    let P : ℕ → Type 0 = λ n. Spells depth n tokens rest x in
    let e : suc k + level ≡ (k + level) + 1 = omega arith in
    weaker_by k (stronger (subst P e h))

pub weaker : {depth level : ℕ} {tokens rest : List Spot} {x : Term} (least : ℕ) → least ≤ level → Spells depth level tokens rest x → Spells depth least tokens rest x
weaker {depth} {level} {tokens} {rest} {x} least le h =
    let P : ℕ → Type 0 = λ n. Spells depth n tokens rest x in
    let e : level ≡ (level - least) + least = omega arith in
    weaker_by (level - least) (subst P e h)

pub record Climbs (end depth least : ℕ) (tokens rest : List Spot) (x : Term) : Type 0 where
  pub level : ℕ
  pub least_le : least ≤ level
  pub spelled : Spells depth level tokens rest x
  pub stops : Stops (level + 1) rest
  pub shorter : length rest < length tokens
  pub met : (parens : List ℕ) → wanting end parens depth depth tokens ≡ behind end parens depth rest

is_weaker_12 : (f : Follow) → IsWeaker 12 f
is_weaker_12 (Joins op) = omega (arith, strength_le op)
is_weaker_12 Closes = tt
is_weaker_12 Neither = tt

pub stops_12 : (rest : List Spot) → Stops 12 rest
stops_12 [] = tt
stops_12 (s ∷ rest) = is_weaker_12 (follow_of s.token)

pub begins : (end depth least : ℕ) (tokens rest : List Spot) (x : Term) → least ≤ 11 → Spells depth 11 tokens rest x → length rest < length tokens
    → ((parens : List ℕ) (outer : ℕ) → wanting end parens outer depth tokens ≡ behind end parens outer rest) → Climbs end depth least tokens rest x
begins end depth least tokens rest x le h short met = record {
  level = 11;
  least_le = le;
  spelled = h;
  stops = stops_12 rest;
  shorter = short;
  met = λ parens. met parens depth;
}

pub joins_below : (least : ℕ) (f : Follow) (op : Binary) → f ≡ Joins op → IsWeaker least f → strength op < least
joins_below least (Joins o) op e h = let same : o ≡ op = cc in rw (← same) h
joins_below least Closes op e h = absurd cc
joins_below least Neither op e h = absurd cc

-- one more operation and its right side
pub turns : (end depth least : ℕ) (tokens rest more after : List Spot) (s : Spot) (op : Binary) (x y z : Term) (n : ℕ) → Climbs end depth least tokens rest x → rest ≡ s ∷ more → follow_of s.token ≡ Joins op
    → n ≡ strength op → least ≤ n → Spells depth (n + 1) more after y → Stops (n + 1) after → length after < length more
    → ((parens : List ℕ) → wanting end parens depth depth more ≡ behind end parens depth after) → z ≡ binary op x y → Climbs end depth least tokens after z
turns end depth least tokens rest more after s op x y z n c e joins n-is le h stops short met z-is =
    let stopped : Stops (c.level + 1) (s ∷ more) = subst (λ (ts : List Spot). Stops (c.level + 1) ts) e c.stops in
    let below : strength op < c.level + 1 = joins_below (c.level + 1) (follow_of s.token) op joins stopped in
    let left : Spells depth (strength op) tokens (s ∷ more) x = subst (λ (ts : List Spot). Spells depth (strength op) tokens ts x) e (weaker (strength op) (omega arith) c.spelled) in
    let right : Spells depth (strength op + 1) more after y = subst (λ (m : ℕ). Spells depth (m + 1) more after y) n-is h in record {
      level = strength op;
      least_le = omega arith;
      spelled = subst (λ (t : Term). Spells depth (strength op) tokens after t) (sym z-is) (operation s op joins left right);
      stops = subst (λ (m : ℕ). Stops (m + 1) after) n-is stops;
      shorter = omega (arith, c.shorter, ap length e);
      met = λ parens. c.met parens ∙ ap (behind end parens depth) e ∙ behind-joins end parens depth s more op joins ∙ met parens;
    }

pub ends : (end depth least : ℕ) (tokens rest : List Spot) (x : Term) → Climbs end depth least tokens rest x → Spells depth least tokens rest x
ends end depth least tokens rest x c = weaker least c.least_le c.spelled

no_joins : (least : ℕ) (f : Follow) → ((op : Binary) → f ≡ Joins op → ⊥) → IsWeaker least f
no_joins least (Joins op) h = absurd (h op refl)
no_joins least Closes h = tt
no_joins least Neither h = tt

pub stops_else : (least : ℕ) (rest more : List Spot) (s : Spot) (f : Follow) → rest ≡ s ∷ more → f ≡ follow_of s.token → ((op : Binary) → f ≡ Joins op → ⊥) → Stops least rest
stops_else least rest more s f e f-is h = rw (e, ← f-is) (no_joins least f h)

pub is_weaker : (least : ℕ) (f : Follow) (op : Binary) → f ≡ Joins op → strength op < least → IsWeaker least f
is_weaker least f op e h = rw e h

pub stops_below : (least : ℕ) (rest more : List Spot) (s : Spot) (op : Binary) (n : ℕ) → rest ≡ s ∷ more → follow_of s.token ≡ Joins op → n ≡ strength op → n < least → Stops least rest
stops_below least rest more s op n e f n-is h = rw e (is_weaker least (follow_of s.token) op f (omega arith))

unclosed_by : (f : Follow) (at : ℕ) (a b : Option ExprFault) → IsWeaker 1 f → (f ≡ Closes → ⊥) → go_on at f a b ≡ fault Text at
unclosed_by (Joins op) at a b w h = absurd (omega (arith, w, strength_pos op))
unclosed_by Closes at a b w h = absurd (h refl)
unclosed_by Neither at a b w h = refl

-- what stands in place of the parenthesis
pub unclosed : (end before : ℕ) (parens : List ℕ) (outer : ℕ) (s : Spot) (rest : List Spot) (f : Follow) → f ≡ follow_of s.token → Stops 1 (s ∷ rest) → (f ≡ Closes → ⊥)
    → behind end (before ∷ parens) outer (s ∷ rest) ≡ fault Text s.at
unfolding wanting
unclosed end before parens outer s rest f f-is stops h =
    unclosed_by (follow_of s.token) s.at _ _ stops (λ e. h (f-is ∙ e))

extra_by : (f : Follow) (at : ℕ) (a : Option ExprFault) → IsWeaker 1 f → go_on at f a (fault Text at) ≡ fault Text at
extra_by (Joins op) at a w = absurd (omega (arith, w, strength_pos op))
extra_by Closes at a w = refl
extra_by Neither at a w = refl

-- what stands behind the whole
pub extra : (end outer : ℕ) (s : Spot) (rest : List Spot) → Stops 1 (s ∷ rest) → behind end [] outer (s ∷ rest) ≡ fault Text s.at
unfolding wanting
extra end outer s rest stops = extra_by (follow_of s.token) s.at _ stops

module _ (depth : ℕ) (tokens more rest : List Spot) (s : Spot) (e : tokens ≡ s ∷ more) where
  pub spells_single : (a : Leaf) → start_of s.token ≡ Operand a → Spells depth 11 tokens more (leaf a)
  spells_single a h = subst (λ (ts : List Spot). Spells depth 11 ts more (leaf a)) (sym e) (single s a h)

  pub spells_prefixed : (op : Prefix) (x z : Term) → start_of s.token ≡ Before op → depth < 32 → Spells (depth + 1) 11 more rest x → z ≡ prefix op x → Spells depth 11 tokens rest z
  spells_prefixed op x z h lt inner z-is =
      subst (λ (t : Term). Spells depth 11 tokens rest t) (sym z-is) (subst (λ (ts : List Spot). Spells depth 11 ts rest (prefix op x)) (sym e) (prefixed s op h lt inner))

  pub spells_inside : (middle : List Spot) (last : Spot) (x : Term) → start_of s.token ≡ Opens → depth < 32 → Spells (depth + 1) 1 more middle x → middle ≡ last ∷ rest → follow_of last.token ≡ Closes
      → Spells depth 11 tokens rest x
  spells_inside middle last x h lt inner m closes =
      subst (λ (ts : List Spot). Spells depth 11 ts rest x) (sym e) (inside s last h closes lt (subst (λ (ts : List Spot). Spells (depth + 1) 1 more ts x) m inner))
