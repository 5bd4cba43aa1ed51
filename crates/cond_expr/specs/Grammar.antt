-- The grammar over tokens (C17, 6.5.5 to 6.5.14; GDB manual, "Expressions"). Operations of strength 1 to 10 group to the left; a
-- prefix binds more strongly than they do (C17, 6.5.3).
use Rattle.std.specs.Prelude.{◌≡◌, ℕ, ◌+◌, ◌<◌, List, [], ◌∷◌}
use Rattle.cond_expr.specs.declared.token.Binary.{Binary}
use Rattle.cond_expr.specs.declared.token.Prefix.{Prefix}
use Rattle.cond_expr.specs.declared.token.Leaf.{Leaf}
use Rattle.cond_expr.specs.declared.token.Spot.{Spot}
use Rattle.cond_expr.specs.declared.token.Start.TheVariants.{Operand, Before, Opens}
use Rattle.cond_expr.specs.declared.token.Follow.TheVariants.{Joins, Closes}
use Rattle.cond_expr.specs.Token.{strength, start_of, follow_of}
use Rattle.cond_expr.specs.Term.{Term, leaf, prefix, binary}

-- how many prefixes and parentheses may be open at once
abbrev pub max_open : ℕ
max_open = 32

-- Inside `depth` open prefixes and parentheses the tokens begin with an expression of a strength, with a rest behind it. Strength 11 is an operand.
pub data Spells : ℕ → ℕ → List Spot → List Spot → Term → Type 0 where
  stronger : {depth strength : ℕ} {tokens rest : List Spot} {x : Term} → Spells depth (strength + 1) tokens rest x → Spells depth strength tokens rest x
  operation : {depth : ℕ} {tokens middle rest : List Spot} {x y : Term} → (s : Spot) (op : Binary) → follow_of s.token ≡ Joins op
      → Spells depth (strength op) tokens (s ∷ middle) x → Spells depth (strength op + 1) middle rest y → Spells depth (strength op) tokens rest (binary op x y)
  prefixed : {depth : ℕ} {tokens rest : List Spot} {x : Term} → (s : Spot) (op : Prefix) → start_of s.token ≡ Before op
      → depth < max_open → Spells (depth + 1) 11 tokens rest x → Spells depth 11 (s ∷ tokens) rest (prefix op x)
  inside : {depth : ℕ} {tokens rest : List Spot} {x : Term} → (s last : Spot) → start_of s.token ≡ Opens → follow_of last.token ≡ Closes
      → depth < max_open → Spells (depth + 1) 1 tokens (last ∷ rest) x → Spells depth 11 (s ∷ tokens) rest x
  single : {depth : ℕ} {rest : List Spot} → (s : Spot) (a : Leaf) → start_of s.token ≡ Operand a → Spells depth 11 (s ∷ rest) rest (leaf a)

-- the tokens are the expression, all of them
abbrev pub IsTree : List Spot → Term → Type 0
IsTree tokens x = Spells 0 1 tokens [] x
