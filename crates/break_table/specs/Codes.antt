-- How the logic stores a condition's tree: as the list of its parts, each operation behind its operands.
use Rattle.std.specs.Prelude.{◌≡◌, List, [], ◌∷◌, ◌⊎◌, refl}
use Rattle.std.specs.Coded.{Coded, code_by, coded⊎, coded_list}
use Rattle.std.proofs.Common.{◌∙◌, ap, inl, inr}
use Rattle.cond_expr.specs.declared.token.Binary.{Binary}
use Rattle.cond_expr.specs.declared.token.Prefix.{Prefix}
use Rattle.cond_expr.specs.declared.token.Leaf.{Leaf}
use Rattle.cond_expr.specs.declared.token.Leaf.TheVariants.{Number}
use Rattle.cond_expr.specs.contracts.token.Leaf as leaves
use Rattle.cond_expr.specs.contracts.token.Prefix as prefixes
use Rattle.cond_expr.specs.contracts.token.Binary as binaries
use Rattle.cond_expr.specs.Term.{Term, leaf, prefix, binary}

pub data Part : Type 0 where
  operand : Leaf → Part
  before : Prefix → Part
  between : Binary → Part

-- the parts of a tree, and then these
abbrev parts_of : Term → List Part → List Part
parts_of (leaf a) rest = operand a ∷ rest
parts_of (prefix op x) rest = parts_of x (before op ∷ rest)
parts_of (binary op x y) rest = parts_of x (parts_of y (between op ∷ rest))

-- what a part makes of the trees before it, the last one first
abbrev put : Part → List Term → List Term
put (operand a) stack = leaf a ∷ stack
put (before op) [] = []
put (before op) (x ∷ stack) = prefix op x ∷ stack
put (between op) [] = []
put (between op) (y ∷ []) = []
put (between op) (y ∷ x ∷ stack) = binary op x y ∷ stack

abbrev built : List Part → List Term → List Term
built [] stack = stack
built (p ∷ rest) stack = built rest (put p stack)

abbrev first : List Term → Term
first [] = leaf (Number 0)
first (x ∷ stack) = x

built-parts_of : (x : Term) (rest : List Part) (stack : List Term) → built (parts_of x rest) stack ≡ built rest (x ∷ stack)
built-parts_of (leaf a) rest stack = refl
built-parts_of (prefix op x) rest stack = built-parts_of x (before op ∷ rest) stack
built-parts_of (binary op x y) rest stack = built-parts_of x (parts_of y (between op ∷ rest)) stack ∙ built-parts_of y (between op ∷ rest) (x ∷ stack)

pub first-built : (x : Term) → first (built (parts_of x []) []) ≡ x
first-built x = ap first (built-parts_of x [] [])

abbrev part_cases : Part → Leaf ⊎ (Prefix ⊎ Binary)
part_cases (operand a) = inl a
part_cases (before op) = inr (inl op)
part_cases (between op) = inr (inr op)

abbrev part_of : Leaf ⊎ (Prefix ⊎ Binary) → Part
part_of (inl a) = operand a
part_of (inr (inl op)) = before op
part_of (inr (inr op)) = between op

pub part_of-part_cases : (p : Part) → part_of (part_cases p) ≡ p
part_of-part_cases (operand a) = refl
part_of-part_cases (before op) = refl
part_of-part_cases (between op) = refl

abbrev pub parts_code : Coded (List Part)
parts_code = coded_list (code_by (Leaf ⊎ (Prefix ⊎ Binary)) (coded⊎ leaves.the_row.coded (coded⊎ prefixes.the_row.coded binaries.the_row.coded)) part_cases part_of part_of-part_cases)

abbrev pub term_code : Coded Term
term_code = code_by (List Part) parts_code (λ x. parts_of x []) (λ parts. first (built parts [])) first-built
