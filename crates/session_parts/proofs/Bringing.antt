-- When a slice is committed, and when it is forgotten.
use Rattle.std.proofs.Common.{◌≡◌, ◌<◌, ℕ, true, false, refl, sym, subst, arith}
use Rattle.std.specs.Prelude.{◌&&◌, Option, Some, None, is_none, is_some, nat_lt}
use Rattle.std.proofs.lemmas.Bool.Decides.{nat_tests}
use Rattle.reg_slices.specs.declared.slice.Slice.{Slice}
use Rattle.session_parts.specs.declared.status.Status.{Status}
use Rattle.session_parts.specs.Round.{Moment}
use Rattle.session_parts.specs.Crew.{TakesBy}

-- the status was set
pub left_over : (o : Option Status) (slice : Slice) (p : Moment) → is_some o ≡ true → TakesBy (is_none o && nat_lt 0 slice.count) slice p p
left_over None slice p set = cc
left_over (Some s) slice p set = refl

none_of : (n : ℕ) → n ≡ 0 → nat_lt 0 n ≡ false
none_of n is = grind (arith, nat_tests)

-- no instruction was executed
pub left_empty : (o : Option Status) (slice : Slice) (p : Moment) → slice.count ≡ 0 → TakesBy (is_none o && nat_lt 0 slice.count) slice p p
left_empty None slice p none = subst (λ b. TakesBy b slice p p) (sym (none_of slice.count none)) refl
left_empty (Some s) slice p none = refl

some_of : (n : ℕ) → 0 < n → nat_lt 0 n ≡ true
some_of n some = grind (arith, nat_tests)

pub wanted : (o : Option Status) (slice : Slice) (p q : Moment) → is_some o ≡ false → 0 < slice.count → TakesBy true slice p q → TakesBy (is_none o && nat_lt 0 slice.count) slice p q
wanted None slice p q set some t = subst (λ b. TakesBy b slice p q) (sym (some_of slice.count some)) t
wanted (Some s) slice p q set some t = cc
