use Rattle.std.proofs.Common.{◌≡◌, ◌<◌, ◌+◌, ◌∷◌, ℕ, length, get_or, sym, ap, subst, arith}
use Rattle.std.specs.Prelude.{Some, List, slice_get, take, drop, ◌-◌}
use Rattle.std.proofs.lemmas.Option.{slice_get-get_or}
use Rattle.engine_parts.specs.declared.mind.Mind.{Mind}
use Rattle.engine_parts.specs.Minds.{first_mind}
use Rattle.engine_parts.specs.Homecoming.{IsSlotted, AllGoHome}
use Rattle.engine_parts.proofs.Homecoming.{all_home_next, rest_slotted, home_rest}
use Rattle.engine_parts.proofs.Homes.{first_of}
use Rattle.engine_parts.proofs.homing.+go_home_each.Goals as goal

pub go_home-requires-clause-slot : goal.go_home-requires-clause-slot
go_home-requires-clause-slot t c =
    let low : 0 < length c.args.minds.now = omega (arith, c.in-len1-up.len_at_least) in
    let none : c.args.h + 0 ≡ c.args.h = omega arith in
    let P : ℕ → Type 0 = λ k. IsSlotted c.args.machine.now k (get_or c.args.minds.now 0 first_mind).phase in
    subst P none (c.requires.slots 0 (get_or c.args.minds.now 0 first_mind) (slice_get-get_or c.args.minds.now 0 first_mind low))

pub overflow_add-h : goal.overflow_add-h
overflow_add-h t c = omega (arith, c.requires.few, c.requires.harts, c.in-len1-up.len_at_least)

pub go_home_each-requires : goal.go_home_each-requires
go_home_each-requires t c =
    let xs = c.args.minds.now in
    let x = get_or xs 0 first_mind in
    let rest = take (length xs - 1) (drop 1 xs) in
    let is : xs ≡ x ∷ rest = first_of xs first_mind c.in-len1-up.len_at_least in
    let len : length xs ≡ length (x ∷ rest) = ap (λ (ys : List Mind). length ys) is in
    let o = home_rest c.args.machine.now c.go_home.new.machine c.args.h x.phase c.go_home.ensures in
    let Q : List Mind → Type 0 = λ ys. (j : ℕ) (y : Mind) → slice_get ys j ≡ Some y → IsSlotted c.args.machine.now (c.args.h + j) y.phase in
    (omega (arith, len), (omega (arith, o.len, c.requires.few), (omega (arith, o.len, len, c.requires.harts), rest_slotted c.args.machine.now c.go_home.new.machine c.args.h x rest c.go_home.ensures (subst Q is c.requires.slots))))

pub returns : goal.returns
returns t c =
    let xs = c.args.minds.now in
    let x = get_or xs 0 first_mind in
    let rest = take (length xs - 1) (drop 1 xs) in
    let is : xs ≡ x ∷ rest = first_of xs first_mind c.in-len1-up.len_at_least in
    let P : List Mind → Type 0 = λ ys. AllGoHome c.args.machine.now c.go_home_each.new.machine c.args.h ys in
    let Q : List Mind → Type 0 = λ ys. (j : ℕ) (y : Mind) → slice_get ys j ≡ Some y → IsSlotted c.args.machine.now (c.args.h + j) y.phase in
    subst P (sym is) (all_home_next c.args.machine.now c.go_home.new.machine c.go_home_each.new.machine c.args.h x rest c.go_home.ensures (subst Q is c.requires.slots) c.go_home_each.ensures)
