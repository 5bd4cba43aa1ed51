-- Options and guards.
use Rattle.std.proofs.Common.{◌≡◌, Bool, true, false, cond, refl}
use Rattle.std.specs.Prelude.{Option, Some, None, option_and_then}
use Rattle.std.specs.Option.{option_map}

pub bind_some : {A B : Type 0} (f : A → Option B) (r : Option A) (y : B) → option_and_then f r ≡ Some y → (x : A) × (r ≡ Some x) × (f x ≡ Some y)
bind_some f None y h = cc
bind_some f (Some x) y h = (x, refl, h)

pub guard_some : {B : Type 0} (b : Bool) (r : Option B) (y : B) → cond b r None ≡ Some y → (b ≡ true) × (r ≡ Some y)
guard_some true r y h = (refl, h)
guard_some false r y h = cc

-- one bind after another
pub bind_bind : {A B C : Type 0} (f : A → Option C) (g : A → Option B) (h : B → Option C) (r : Option A) → ((x : A) → f x ≡ option_and_then h (g x)) → option_and_then f r ≡ option_and_then h (option_and_then g r)
bind_bind f g h None each = refl
bind_bind f g h (Some x) each = each x

pub bind_return : {A : Type 0} (r : Option A) → option_and_then (λ x. Some x) r ≡ r
bind_return None = refl
bind_return (Some x) = refl

pub same_some : {A : Type 0} (x y : A) → Some x ≡ Some y → x ≡ y
same_some x y h = cc

pub map_some : {A B : Type 0} (f : A → B) (r : Option A) (y : B) → option_map f r ≡ Some y → (x : A) × (r ≡ Some x) × (f x ≡ y)
map_some f None y h = cc
map_some f (Some x) y h = (x, refl, same_some (f x) y h)
