-- Tokens spell one tree at most: reading as far as it goes gives one answer, and every tree is what such a reading gives.
use Rattle.std.proofs.Common.{◌≡◌, ℕ, ◌+◌, ◌≤◌, List, [], ◌∷◌, refl, sym, ap, subst, ◌∙◌, arith}
use Rattle.cond_expr.specs.declared.token.Binary.{Binary}
use Rattle.cond_expr.specs.declared.token.Prefix.{Prefix}
use Rattle.cond_expr.specs.declared.token.Leaf.{Leaf}
use Rattle.cond_expr.specs.declared.token.Spot.{Spot}
use Rattle.cond_expr.specs.declared.token.Start.{Start}
use Rattle.cond_expr.specs.declared.token.Start.TheVariants.{Operand, Before, Opens}
use Rattle.cond_expr.specs.declared.token.Follow.{Follow}
use Rattle.cond_expr.specs.declared.token.Follow.TheVariants.{Joins, Closes, Neither}
use Rattle.cond_expr.specs.Token.{strength, start_of, follow_of}
use Rattle.cond_expr.specs.Term.{Term, leaf, prefix, binary}
use Rattle.cond_expr.specs.Grammar.{Spells, stronger, operation, prefixed, inside, single, IsTree}
use Rattle.cond_expr.specs.Stops.{Stops, IsWeaker}
use Rattle.cond_expr.proofs.Climb.{strength_le, is_weaker, stops_12, joins_below}

-- what is read: an operand, an expression from its first operand on, or what goes on behind a tree that was read
data Part : Type 0 where
  one : Part
  all : ℕ → Part
  more : ℕ → Term → Part

data Greedy : Part → List Spot → List Spot → Term → Type 0 where
  at_single : {rest : List Spot} → (s : Spot) (a : Leaf) → start_of s.token ≡ Operand a → Greedy one (s ∷ rest) rest (leaf a)
  at_prefix : {tokens rest : List Spot} {x : Term} → (s : Spot) (op : Prefix) → start_of s.token ≡ Before op → Greedy one tokens rest x → Greedy one (s ∷ tokens) rest (prefix op x)
  at_parens : {tokens rest : List Spot} {x : Term} → (s last : Spot) → start_of s.token ≡ Opens → Greedy (all 1) tokens (last ∷ rest) x → Greedy one (s ∷ tokens) rest x
  first : {least : ℕ} {tokens middle rest : List Spot} {x y : Term} → Greedy one tokens middle x → Greedy (more least x) middle rest y → Greedy (all least) tokens rest y
  stop : {least : ℕ} {rest : List Spot} {x : Term} → Stops least rest → Greedy (more least x) rest rest x
  go : {least : ℕ} {tokens middle rest : List Spot} {x y z : Term} → (s : Spot) (op : Binary) → follow_of s.token ≡ Joins op → least ≤ strength op
      → Greedy (all (strength op + 1)) tokens middle y → Greedy (more least (binary op x y)) middle rest z → Greedy (more least x) (s ∷ tokens) rest z

stops_more : (least k : ℕ) (f : Follow) → least ≤ k → IsWeaker least f → IsWeaker k f
stops_more least k (Joins op) le h = omega arith
stops_more least k Closes le h = tt
stops_more least k Neither le h = tt

pub stops_up : (least k : ℕ) (rest : List Spot) → least ≤ k → Stops least rest → Stops k rest
stops_up least k [] le h = tt
stops_up least k (s ∷ rest) le h = stops_more least k (follow_of s.token) le h

-- no operation is as strong as 11
at_most_10 : {k : Part} {tokens rest : List Spot} {y : Term} → Greedy k tokens rest y → (x : Term) → k ≡ more 11 x → (tokens ≡ rest) × (x ≡ y)
at_most_10 (at_single s a h) x e = absurd cc
at_most_10 (at_prefix s op h g) x e = absurd cc
at_most_10 (at_parens s last h g) x e = absurd cc
at_most_10 (first g h) x e = absurd cc
at_most_10 (stop h) x e = (refl, cc)
at_most_10 (go {least = l} s op h le g g') x e = let same : l ≡ 11 = cc in absurd (omega (arith, strength_le op))

operand_of : {k : Part} {tokens rest : List Spot} {y : Term} → Greedy k tokens rest y → k ≡ all 11 → Greedy one tokens rest y
operand_of (at_single s a h) e = absurd cc
operand_of (at_prefix s op h g) e = absurd cc
operand_of (at_parens s last h g) e = absurd cc
operand_of (first {least = l} {tokens = ts} {rest = end} {x = x0} g h) e =
    let same : l ≡ 11 = cc in
    let p = at_most_10 h x0 (ap (λ (n : ℕ). more n x0) same) in
    subst (λ (t : Term). Greedy one ts end t) p.1 (subst (λ (r : List Spot). Greedy one ts r x0) p.0 g)
operand_of (stop h) e = absurd cc
operand_of (go s op h le g g') e = absurd cc

pub stops_11 : (rest : List Spot) → Stops 11 rest
stops_11 [] = tt
stops_11 (s ∷ rest) = weak (follow_of s.token)
  where
    weak : (f : Follow) → IsWeaker 11 f
    weak (Joins op) = omega (arith, strength_le op)
    weak Closes = tt
    weak Neither = tt

pub closed : (k : ℕ) (f : Follow) → f ≡ Closes → IsWeaker k f
closed k f e = rw e tt

-- a tree is read by reading as far as it goes, if what goes on behind it is read so too
complete : {depth level : ℕ} {tokens rest : List Spot} {x : Term} → Spells depth level tokens rest x → Stops (level + 1) rest → (least : ℕ) → least ≤ level
    → (end : List Spot) (z : Term) → Greedy (more least x) rest end z → Greedy (all least) tokens end z
complete {level = l} {rest = r} (stronger h) stops least le end z g = complete h (stops_up (l + 1) (l + 1 + 1) r (omega arith) stops) least (omega arith) end z g
complete {rest = r} (operation {middle = m} {y = y} s op joins left right) stops least le end z g =
    let behind_left : Stops (strength op + 1) (s ∷ m) = is_weaker (strength op + 1) (follow_of s.token) op joins (omega arith) in
    let read_right = complete right (stops_up (strength op + 1) (strength op + 1 + 1) r (omega arith) stops) (strength op + 1) (omega arith) r y (stop stops) in
    complete left behind_left least le end z (go s op joins le read_right g)
complete {rest = r} (prefixed {x = x} s op starts room h) stops least le end z g =
    first (at_prefix s op starts (operand_of (complete h (stops_12 r) 11 (omega arith) r x (stop (stops_11 r))) refl)) g
complete {rest = r} {x = x} (inside s last opens closes room h) stops least le end z g =
    first (at_parens s last opens (complete h (closed 2 (follow_of last.token) closes) 1 (omega arith) (last ∷ r) x (stop (closed 1 (follow_of last.token) closes)))) g
complete (single s a starts) stops least le end z g = first (at_single s a starts) g

same_start : (s s' : Spot) (p q : Start) → s ≡ s' → start_of s.token ≡ p → start_of s'.token ≡ q → p ≡ q
same_start s s' p q e h h' = sym h ∙ ap (λ (t : Spot). start_of t.token) e ∙ h'

same_follow : (s s' : Spot) (p q : Follow) → s ≡ s' → follow_of s.token ≡ p → follow_of s'.token ≡ q → p ≡ q
same_follow s s' p q e h h' = sym h ∙ ap (λ (t : Spot). follow_of t.token) e ∙ h'

stops_not : (least least' : ℕ) (rest tokens : List Spot) (s : Spot) (op : Binary) → least ≡ least' → rest ≡ s ∷ tokens → Stops least rest → follow_of s.token ≡ Joins op → least' ≤ strength op → ⊥
stops_not least least' rest tokens s op e f h joins le =
    omega (arith, joins_below least (follow_of s.token) op joins (subst (λ (ts : List Spot). Stops least ts) f h))

same : {k k' : Part} {tokens tokens' rest rest' : List Spot} {x x' : Term} → Greedy k tokens rest x → Greedy k' tokens' rest' x' → k ≡ k' → tokens ≡ tokens' → (rest ≡ rest') × (x ≡ x')
same (at_single s a h) (at_single s' a' h') e f = let st = same_start s s' (Operand a) (Operand a') (cc) h h' in (cc, ap leaf (let ea : a ≡ a' = cc in ea))
same (at_single s a h) (at_prefix s' op h' g') e f = let st = same_start s s' (Operand a) (Before op) (cc) h h' in absurd cc
same (at_single s a h) (at_parens s' last h' g') e f = let st = same_start s s' (Operand a) Opens (cc) h h' in absurd cc
same (at_single s a h) g e f = absurd cc
same (at_prefix s op h g) (at_single s' a h') e f = let st = same_start s s' (Before op) (Operand a) (cc) h h' in absurd cc
same (at_prefix s op h g) (at_prefix s' op' h' g') e f =
    let st = same_start s s' (Before op) (Before op') (cc) h h' in let ih = same g g' refl (cc) in (ih.0, cc)
same (at_prefix s op h g) (at_parens s' last h' g') e f = let st = same_start s s' (Before op) Opens (cc) h h' in absurd cc
same (at_prefix s op h g) g' e f = absurd cc
same (at_parens s last h g) (at_single s' a h') e f = let st = same_start s s' Opens (Operand a) (cc) h h' in absurd cc
same (at_parens s last h g) (at_prefix s' op h' g') e f = let st = same_start s s' Opens (Before op) (cc) h h' in absurd cc
same (at_parens s last h g) (at_parens s' last' h' g') e f = let ih = same g g' refl (cc) in (cc, ih.1)
same (at_parens s last h g) g' e f = absurd cc
same (first {least = l} {x = x0} g h) (first {least = l'} {x = x1} g' h') e f =
    let ih = same g g' refl f in let eq : more l x0 ≡ more l' x1 = cc in same h h' eq ih.0
same (first g h) g' e f = absurd cc
same (stop h) (stop h') e f = (f, cc)
same (stop {least = l} {rest = r} h) (go {least = l'} {tokens = ts} s op joins le g g') e f = absurd (stops_not l l' r ts s op (cc) f h joins le)
same (stop h) g' e f = absurd cc
same (go {least = l'} {tokens = ts} s op joins le g g') (stop {least = l} {rest = r} h) e f = absurd (stops_not l l' r ts s op (cc) (sym f) h joins le)
same (go {least = l} {x = x0} {y = y0} s op joins le g h) (go {least = l'} {x = x1} {y = y1} s' op' joins' le' g' h') e f =
    let fo = same_follow s s' (Joins op) (Joins op') (cc) joins joins' in
    let ops : op ≡ op' = cc in
    let ih = same g g' (ap (λ (o : Binary). all (strength o + 1)) ops) (cc) in
    let eq : more l (binary op x0 y0) ≡ more l' (binary op' x1 y1) = cc in
    same h h' eq ih.0
same (go s op joins le g h) g' e f = absurd cc

-- the tokens are one tree at most
pub unique : (tokens : List Spot) (x y : Term) → IsTree tokens x → IsTree tokens y → x ≡ y
unique tokens x y h h' = (same (complete h tt 1 (omega arith) [] x (stop tt)) (complete h' tt 1 (omega arith) [] y (stop tt)) refl refl).1
