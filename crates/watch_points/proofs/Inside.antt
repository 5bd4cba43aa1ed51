-- The test for constant trees and what it tests.
use Rattle.std.proofs.Common.{◌≡◌, ◌&&◌, Bool, true, false, refl}
use Rattle.cond_expr.specs.declared.token.Binary.{Binary}
use Rattle.cond_expr.specs.declared.token.Prefix.{Prefix}
use Rattle.cond_expr.specs.declared.token.Prefix.TheVariants.{Negate, Complement, Not, Read}
use Rattle.cond_expr.specs.declared.token.Leaf.TheVariants.{Number, Register, Address}
use Rattle.cond_expr.specs.Term.{Term, leaf, prefix, binary}
use Rattle.watch_points.specs.Constant.{IsOutside, Within, whole, behind, left, right, IsConstant, is_constant}

both : (a b : Bool) → (a && b) ≡ true → (a ≡ true) × (b ≡ true)
both true b h = (refl, h)
both false b h = absurd cc

second : (a b : Bool) → a ≡ true → (a && b) ≡ false → b ≡ false
second true b e h = h
second false b e h = absurd cc

plain : (op : Prefix) (x : Term) → is_constant (prefix op x) ≡ true → is_constant x ≡ true
plain Negate x h = h
plain Complement x h = h
plain Not x h = h
plain (Read kind) x h = absurd cc

outside : (x : Term) → is_constant x ≡ true → IsOutside x → ⊥
outside (leaf (Number n)) h o = o
outside (leaf (Register r)) h o = absurd cc
outside (leaf (Address a)) h o = o
outside (prefix Negate x) h o = o
outside (prefix Complement x) h o = o
outside (prefix Not x) h o = o
outside (prefix (Read kind) x) h o = absurd cc
outside (binary op x y) h o = o

inside : {x y : Term} → Within x y → is_constant y ≡ true → IsOutside x → ⊥
inside (whole {x = z}) h o = outside z h o
inside (behind {y = z} op w) h o = inside w (plain op z h) o
inside (left {y = y} op z w) h o = inside w ((both (is_constant y) (is_constant z) h).0) o
inside (right {z = z} op y w) h o = inside w ((both (is_constant y) (is_constant z) h).1) o

pub constant : (x : Term) → is_constant x ≡ true → IsConstant x
constant x h y w o = inside w h o

abbrev Found : Term → Type 0
Found x = (y : Term) × Within y x × IsOutside y

found_side : (op : Binary) (x y : Term) → (is_constant x ≡ false → Found x) → (is_constant y ≡ false → Found y) → is_constant (binary op x y) ≡ false
    → (b : Bool) → is_constant x ≡ b → Found (binary op x y)
found_side op x y first next h false e = let f = first e in (f.0, left op y f.1, f.2)
found_side op x y first next h true e = let f = next (second (is_constant x) (is_constant y) e h) in (f.0, right op x f.1, f.2)

found : (x : Term) → is_constant x ≡ false → Found x
found (leaf (Number n)) h = absurd cc
found (leaf (Register r)) h = (leaf (Register r), whole, tt)
found (leaf (Address a)) h = absurd cc
found (prefix Negate x) h = let f = found x h in (f.0, behind Negate f.1, f.2)
found (prefix Complement x) h = let f = found x h in (f.0, behind Complement f.1, f.2)
found (prefix Not x) h = let f = found x h in (f.0, behind Not f.1, f.2)
found (prefix (Read kind) x) h = (prefix (Read kind) x, whole, tt)
found (binary op x y) h = found_side op x y (λ e. found x e) (λ e. found y e) h (is_constant x) refl

pub not_constant : (x : Term) → is_constant x ≡ false → ¬ (IsConstant x)
not_constant x h k = let f = found x h in k f.0 f.1 f.2
