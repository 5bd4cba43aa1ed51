-- Trees with neither a register nor a read, and values that no register and no memory changes.
use Rattle.std.specs.Prelude.{◌≡◌, ℕ, ◌&&◌, Bool, true, false, Option}
use Rattle.cond_expr.specs.declared.token.Binary.{Binary}
use Rattle.cond_expr.specs.declared.token.Prefix.{Prefix}
use Rattle.cond_expr.specs.declared.token.Prefix.TheVariants.{Read}
use Rattle.cond_expr.specs.declared.token.Leaf.TheVariants.{Register}
use Rattle.cond_expr.specs.declared.evaluating.Value.{Value}
use Rattle.cond_expr.specs.Term.{Term, leaf, prefix, binary}
use Rattle.cond_expr.specs.Value.{value_of}

-- a register, or a read of memory
abbrev pub IsOutside : Term → Type 0
IsOutside (leaf (Register r)) = Unit {0}
IsOutside (prefix (Read kind) x) = Unit {0}
IsOutside _ = ⊥

-- the first tree stands in the second one, or is it
pub data Within : Term → Term → Type 0 where
  whole : {x : Term} → Within x x
  behind : {x y : Term} → (op : Prefix) → Within x y → Within x (prefix op y)
  left : {x y : Term} → (op : Binary) (z : Term) → Within x y → Within x (binary op y z)
  right : {x z : Term} → (op : Binary) (y : Term) → Within x z → Within x (binary op y z)

abbrev pub IsConstant : Term → Type 0
IsConstant e = (x : Term) → Within x e → ¬ (IsOutside x)

-- the same, tested by cases on the tree
abbrev pub is_constant : Term → Bool
is_constant (leaf (Register r)) = false
is_constant (leaf _) = true
is_constant (prefix (Read kind) x) = false
is_constant (prefix _ x) = is_constant x
is_constant (binary op x y) = is_constant x && is_constant y

-- the value over all registers and bytes
abbrev pub IsWorth : Term → Value → Type 0
IsWorth e v = (registers : ℕ → ℕ) (bytes : ℕ → Option ℕ) → value_of registers bytes e ≡ v
