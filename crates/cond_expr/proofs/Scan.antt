-- One step of the scan, by the token.
use Rattle.std.proofs.Common.{◌≡◌, ℕ, ◌+◌, ◌<◌, ◌≤◌, List, [], ◌∷◌, refl, None}
use Rattle.std.proofs.lemmas.Bool.{lt-ltb, le-ltb}
use Rattle.cond_expr.specs.declared.fault.FaultKind.{FaultKind}
use Rattle.cond_expr.specs.declared.fault.FaultKind.TheVariants.{Text, Deep}
use Rattle.cond_expr.specs.declared.token.Binary.{Binary}
use Rattle.cond_expr.specs.declared.token.Prefix.{Prefix}
use Rattle.cond_expr.specs.declared.token.Leaf.{Leaf}
use Rattle.cond_expr.specs.declared.token.Spot.{Spot}
use Rattle.cond_expr.specs.declared.token.Start.TheVariants.{Operand, Before, Opens, CutOff, Refused}
use Rattle.cond_expr.specs.declared.token.Follow.TheVariants.{Joins, Closes, Neither}
use Rattle.cond_expr.specs.Token.{start_of, follow_of}
use Rattle.cond_expr.specs.Fault.{fault, wanting, behind}

module _ (end : ℕ) (parens : List ℕ) (outer depth : ℕ) (s : Spot) (rest : List Spot) where
  pub wanting-operand : (a : Leaf) → start_of s.token ≡ Operand a → wanting end parens outer depth (s ∷ rest) ≡ behind end parens outer rest
  unfolding wanting
  wanting-operand a h = rw h refl

  pub wanting-before : (op : Prefix) → start_of s.token ≡ Before op → depth < 32 → wanting end parens outer depth (s ∷ rest) ≡ wanting end parens outer (depth + 1) rest
  unfolding wanting
  wanting-before op h lt = rw (h, lt-ltb depth 32 lt) refl

  pub wanting-opens : start_of s.token ≡ Opens → depth < 32 → wanting end parens outer depth (s ∷ rest) ≡ wanting end (outer ∷ parens) (depth + 1) (depth + 1) rest
  unfolding wanting
  wanting-opens h lt = rw (h, lt-ltb depth 32 lt) refl

  pub wanting-before_full : (op : Prefix) → start_of s.token ≡ Before op → 32 ≤ depth → wanting end parens outer depth (s ∷ rest) ≡ fault Deep s.at
  unfolding wanting
  wanting-before_full op h le = rw (h, le-ltb depth 32 le) refl

  pub wanting-opens_full : start_of s.token ≡ Opens → 32 ≤ depth → wanting end parens outer depth (s ∷ rest) ≡ fault Deep s.at
  unfolding wanting
  wanting-opens_full h le = rw (h, le-ltb depth 32 le) refl

  pub wanting-cut_off : (place : ℕ) → start_of s.token ≡ CutOff place → depth < 32 → wanting end parens outer depth (s ∷ rest) ≡ fault Text place
  unfolding wanting
  wanting-cut_off place h lt = rw (h, lt-ltb depth 32 lt) refl

  pub wanting-cut_off_full : (place : ℕ) → start_of s.token ≡ CutOff place → 32 ≤ depth → wanting end parens outer depth (s ∷ rest) ≡ fault Deep s.at
  unfolding wanting
  wanting-cut_off_full place h le = rw (h, le-ltb depth 32 le) refl

  pub wanting-refused : (kind : FaultKind) → start_of s.token ≡ Refused kind → wanting end parens outer depth (s ∷ rest) ≡ fault kind s.at
  unfolding wanting
  wanting-refused kind h = rw h refl

pub wanting-nothing : (end : ℕ) (parens : List ℕ) (outer depth : ℕ) → wanting end parens outer depth [] ≡ fault Text end
unfolding wanting
wanting-nothing end parens outer depth = refl

pub behind-joins : (end : ℕ) (parens : List ℕ) (outer : ℕ) (s : Spot) (rest : List Spot) (op : Binary) → follow_of s.token ≡ Joins op → behind end parens outer (s ∷ rest) ≡ wanting end parens outer outer rest
unfolding wanting
behind-joins end [] outer s rest op h = rw h refl
behind-joins end (before ∷ parens) outer s rest op h = rw h refl

pub behind-closes : (end before : ℕ) (parens : List ℕ) (outer : ℕ) (s : Spot) (rest : List Spot) → follow_of s.token ≡ Closes → behind end (before ∷ parens) outer (s ∷ rest) ≡ behind end parens before rest
unfolding wanting
behind-closes end before parens outer s rest h = rw h refl

pub behind-neither : (end : ℕ) (parens : List ℕ) (outer : ℕ) (s : Spot) (rest : List Spot) → follow_of s.token ≡ Neither → behind end parens outer (s ∷ rest) ≡ fault Text s.at
unfolding wanting
behind-neither end [] outer s rest h = rw h refl
behind-neither end (before ∷ parens) outer s rest h = rw h refl

pub behind-open : (end before : ℕ) (parens : List ℕ) (outer : ℕ) → behind end (before ∷ parens) outer [] ≡ fault Text end
unfolding wanting
behind-open end before parens outer = refl

pub behind-extra : (end outer : ℕ) (s : Spot) (rest : List Spot) → follow_of s.token ≡ Closes → behind end [] outer (s ∷ rest) ≡ fault Text s.at
unfolding wanting
behind-extra end outer s rest h = rw h refl

pub behind-end : (end outer : ℕ) → behind end [] outer [] ≡ None
unfolding wanting
behind-end end outer = refl
