-- What the reader by strengths reads is the tree that the tokens spell.
use Rattle.std.proofs.Common.{◌≡◌, ℕ, zero, suc, ◌+◌, ◌-◌, ◌<◌, ◌≤◌, true, false, List, [], ◌∷◌, length, refl, ap, subst, ◌∙◌, nat_lt, arith}
use Rattle.std.specs.Prelude.{Some, None, Ok, Err, ◌==◌}
use Rattle.std.proofs.lemmas.Bool.Decides.{nat_tests}
use Rattle.elf_symbols.specs.Names.{Names}
use Rattle.cond_expr.specs.declared.fault.ExprFault.{ExprFault}
use Rattle.cond_expr.specs.declared.fault.FaultKind.TheVariants.{Long}
use Rattle.cond_expr.specs.declared.token.Binary.{Binary}
use Rattle.cond_expr.specs.declared.token.Prefix.{Prefix}
use Rattle.cond_expr.specs.declared.token.Leaf.{Leaf}
use Rattle.cond_expr.specs.declared.token.Start.TheVariants.{Operand, Before, Opens}
use Rattle.cond_expr.specs.declared.token.Spot.{Spot}
use Rattle.cond_expr.specs.declared.token.Follow.{Follow}
use Rattle.cond_expr.specs.declared.token.Follow.TheVariants.{Joins, Closes, Neither}
use Rattle.cond_expr.specs.Token.{strength, start_of, follow_of}
use Rattle.cond_expr.specs.Term.{Term, leaf, prefix, binary}
use Rattle.cond_expr.specs.Grammar.{Spells, stronger, operation, prefixed, inside, single, IsTree}
use Rattle.cond_expr.specs.Fault.{first_fault}
use Rattle.cond_expr.specs.Stops.{Stops, IsWeaker}
use Rattle.cond_expr.specs.Lex.{tokens_of}
use Rattle.cond_expr.specs.Condition.{Tree}
use Rattle.cond_expr.specs.Reader.{Read, operation_of, joined, expression, operand, read_tree, parsed}
use Rattle.cond_expr.proofs.Climb.{strength_le, stops_12, is_weaker}
use Rattle.cond_expr.proofs.Unique.{stops_up, closed}
use Rattle.cond_expr.proofs.NoFault.{no_fault}

at_most_11 : {depth k : ℕ} {tokens rest : List Spot} {x : Term} → Spells depth k tokens rest x → k ≤ 11
at_most_11 (stronger h) = omega (arith, at_most_11 h)
at_most_11 (operation s op joins left right) = omega (arith, strength_le op)
at_most_11 (prefixed s op starts room h) = omega arith
at_most_11 (inside s last opens closes room h) = omega arith
at_most_11 (single s a starts) = omega arith

shorter : {depth k : ℕ} {tokens rest : List Spot} {x : Term} → Spells depth k tokens rest x → length rest < length tokens
shorter (stronger h) = shorter h
shorter (operation s op joins left right) = omega (arith, shorter left, shorter right)
shorter (prefixed s op starts room h) = omega (arith, shorter h)
shorter (inside s last opens closes room h) = omega (arith, shorter h)
shorter (single s a starts) = omega arith

weaker_is_none : (k : ℕ) (f : Follow) → IsWeaker k f → operation_of k f ≡ None
weaker_is_none k (Joins op) w = let other : strength op == k ≡ false = grind (arith, nat_tests) in rw other refl
weaker_is_none k Closes w = refl
weaker_is_none k Neither w = refl

joins_is_some : (k : ℕ) (f : Follow) (op : Binary) → f ≡ Joins op → strength op ≡ k → operation_of k f ≡ Some op
joins_is_some k f op e h = let same : strength op == k ≡ true = grind (arith, nat_tests) in rw (e, same) refl

-- no operation of the strength goes on
joined_stops : (m k : ℕ) (side : List Spot → Read) (x : Term) (rest : List Spot) → Stops k rest → joined m k side x rest ≡ (x, rest)
unfolding joined
joined_stops zero k side x rest stops = refl
joined_stops (suc m) k side x [] stops = refl
joined_stops (suc m) k side x (s ∷ rest) stops = rw (weaker_is_none k (follow_of s.token) stops) refl

-- one more operation
joined_goes_on : (m k : ℕ) (side : List Spot → Read) (x y : Term) (s : Spot) (middle rest : List Spot) (op : Binary) → follow_of s.token ≡ Joins op → strength op ≡ k → side middle ≡ (y, rest)
    → joined (suc m) k side x (s ∷ middle) ≡ joined m k side (binary op x y) rest
unfolding joined
joined_goes_on m k side x y s middle rest op joins same read = rw (joins_is_some k (follow_of s.token) op joins same, read) refl

-- what is read at a strength before the rest is looked at: in so many turns the tree and the rest
abbrev Turned : ℕ → ℕ → List Spot → List Spot → Term → Type 0
Turned n zero tokens rest x = operand n tokens ≡ (x, rest)
Turned n (suc below) tokens rest x = (turns : ℕ) × (turns + length rest ≤ length tokens) ×
    ((m : ℕ) → joined (turns + m) (10 - below) (expression n below (operand n)) (expression n below (operand n) tokens).0
    (expression n below (operand n) tokens).1 ≡ joined m (10 - below) (expression n below (operand n)) x rest)

-- no turn was needed
turned_none : (m k : ℕ) (side : List Spot → Read) (tokens rest : List Spot) (x : Term) → side tokens ≡ (x, rest) → joined (0 + m) k side (side tokens).0 (side tokens).1 ≡ joined m k side x rest
turned_none m k side tokens rest x h = ap (λ (j : ℕ). joined j k side (side tokens).0 (side tokens).1) (omega arith) ∙ ap (λ (r : Read). joined m k side r.0 r.1) h

-- one turn more
turned_once : (m k turns : ℕ) (side : List Spot → Read) (first : Read) → joined ((turns + 1) + m) k side first.0 first.1 ≡ joined (turns + suc m) k side first.0 first.1
turned_once m k turns side first = ap (λ (j : ℕ). joined j k side first.0 first.1) (omega arith)

-- where no operation of the strength goes on, it is read
whole : (n below k : ℕ) (tokens rest : List Spot) (x : Term) → k + below ≡ 11 → length tokens ≤ n → Stops k rest → Turned n below tokens rest x → expression n below (operand n) tokens ≡ (x, rest)
unfolding expression
whole n zero k tokens rest x e le stops t = t
whole n (suc below) k tokens rest x e le stops t =
    let here : Stops (10 - below) rest = subst (λ (j : ℕ). Stops j rest) (omega arith) stops in
    let bound = t.1 in
    let all : n ≡ t.0 + (n - t.0) = omega arith in
    ap (λ (j : ℕ). joined j (10 - below) (expression n below (operand n)) (expression n below (operand n) tokens).0
    (expression n below (operand n) tokens).1) all ∙ t.2 (n - t.0) ∙ joined_stops (n - t.0) (10 - below) (expression n below (operand n)) x rest here

read_single : (n : ℕ) (s : Spot) (rest : List Spot) (a : Leaf) → start_of s.token ≡ Operand a → operand (suc n) (s ∷ rest) ≡ (leaf a, rest)
unfolding operand
read_single n s rest a e = rw e refl

read_prefixed : (n : ℕ) (s : Spot) (tokens rest : List Spot) (op : Prefix) (x : Term) → start_of s.token ≡ Before op → operand n tokens ≡ (x, rest) → operand (suc n) (s ∷ tokens) ≡ (prefix op x, rest)
unfolding operand
read_prefixed n s tokens rest op x e h = rw (e, h) refl

read_inside : (n : ℕ) (s last : Spot) (tokens rest : List Spot) (x : Term) → start_of s.token ≡ Opens → expression n 10 (operand n) tokens ≡ (x, last ∷ rest) → operand (suc n) (s ∷ tokens) ≡ (x, rest)
unfolding operand
read_inside n s last tokens rest x e h = rw (e, h) refl

-- what is spelled is read
reading : {depth k : ℕ} {tokens rest : List Spot} {x : Term} → Spells depth k tokens rest x → (below n : ℕ) → k + below ≡ 11 → length tokens ≤ n → Stops (k + 1) rest → Turned n below tokens rest x
reading (stronger h) zero n e le stops = absurd (omega (arith, at_most_11 h))
reading {k = k} {tokens = ts} {rest = r} {x = x} (stronger h) (suc below) n e le stops =
    let read : expression n below (operand n) ts ≡ (x, r) = whole n below (k + 1) ts r x (omega arith) le stops (reading h below n (omega arith) le (stops_up (k + 1) (k + 1 + 1) r (omega arith) stops)) in
    (0, omega (arith, shorter h), λ m. turned_none m (10 - below) (expression n below (operand n)) ts r x read)
reading (operation s op joins left right) zero n e le stops = absurd (omega (arith, strength_le op))
reading {tokens = ts} {rest = r} (operation {middle = middle} {x = x} {y = y} s op joins left right) (suc below) n e le stops =
    let k : ℕ = strength op in
    let t = reading left (suc below) n e le (is_weaker (strength op + 1) (follow_of s.token) op joins (omega arith)) in
    let bound = t.1 in
    let short = shorter left in
    let up = reading right below n (omega arith) (omega arith) (stops_up (strength op + 1) (strength op + 1 + 1) r (omega arith) stops) in
    let side : expression n below (operand n) middle ≡ (y, r) = whole n below (strength op + 1) middle r y (omega arith) (omega arith) stops up in (
      t.0 + 1,
      omega (arith, shorter right),
      λ m. turned_once m (10 - below) t.0 (expression n below (operand n)) (expression n below (operand n) ts) ∙
          t.2 (suc m) ∙ joined_goes_on m (10 - below) (expression n below (operand n)) x y s middle r op joins (omega arith) side,
    )
reading {rest = r} (prefixed {tokens = ts} {x = x} s op starts room h) below zero e le stops = absurd (omega arith)
reading (prefixed s op starts room h) (suc below) (suc n) e le stops = absurd (omega arith)
reading {rest = r} (prefixed {tokens = ts} {x = x} s op starts room h) zero (suc n) e le stops =
    read_prefixed n s ts r op x starts (reading h 0 n refl (omega arith) (stops_12 r))
reading (inside s last opens closes room h) below zero e le stops = absurd (omega arith)
reading (inside s last opens closes room h) (suc below) (suc n) e le stops = absurd (omega arith)
reading {rest = r} {x = x} (inside {tokens = ts} s last opens closes room h) zero (suc n) e le stops =
    read_inside n s last ts r x opens (whole n 10 1 ts (last ∷ r) x refl (omega arith) (closed 1 (follow_of last.token) closes) (reading h 10 n refl (omega arith) (closed 2 (follow_of last.token) closes)))
reading (single s a starts) below zero e le stops = absurd (omega arith)
reading (single s a starts) (suc below) (suc n) e le stops = absurd (omega arith)
reading {rest = r} (single s a starts) zero (suc n) e le stops = read_single n s r a starts

pub read_is_tree : (tokens : List Spot) (x : Term) → IsTree tokens x → read_tree tokens ≡ x
read_is_tree tokens x h =
    ap (λ (r : Read). r.0) (whole (length tokens) 10 1 tokens [] x refl (omega arith) tt (reading h 10 (length tokens) refl (omega arith) tt))

pub parsed_tree : (names : Names) (text : List ℕ) (x : Term) → Tree text names x → parsed names text ≡ Ok x
unfolding parsed
parsed_tree names text x h =
    let le = h.0 in
    let short : nat_lt 256 (length text) ≡ false = grind (arith, nat_tests) in
    rw (short, no_fault (length text) (tokens_of names text) x h.1, read_is_tree (tokens_of names text) x h.1) refl

pub parsed_fault : (names : Names) (text : List ℕ) (f : ExprFault) → length text ≤ 256 → first_fault (length text) (tokens_of names text) ≡ Some f → parsed names text ≡ Err f
unfolding parsed
parsed_fault names text f le h =
    let short : nat_lt 256 (length text) ≡ false = grind (arith, nat_tests) in
    rw (short, h) refl

pub parsed_long : (names : Names) (text : List ℕ) → 256 < length text → parsed names text ≡ Err (record { kind = Long; at = 256 })
unfolding parsed
parsed_long names text lt = let long : nat_lt 256 (length text) ≡ true = grind (arith, nat_tests) in rw long refl
