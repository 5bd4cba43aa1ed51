use Rattle.std.proofs.Common.{◌≡◌, ◌+◌, ℕ, ap, sym, subst, arith}
use Rattle.rv_exec.specs.declared.effect.Stepped.{Stepped}
use Rattle.text_words.specs.Words.{Words}
use Rattle.hart_machine.specs.Patched.{Patched}
use Rattle.engine_parts.specs.Changing.{wants_by}
use Rattle.engine_parts.specs.Moves.{HeldInText}
use Rattle.engine_parts.specs.Homecoming.{IsSlotted}
use Rattle.engine_parts.specs.Homing.{HomedBy, leaving_view}
use Rattle.engine_parts.proofs.Holds.{home_held}
use Rattle.engine_parts.proofs.homing.go_home_at_exit.Goals as goal

pub go_home_each-requires-clause-slots : goal.go_home_each-requires-clause-slots
go_home_each-requires-clause-slots c j x at =
    let none : j ≡ 0 + j = omega arith in
    let P : ℕ → Type 0 = λ k. IsSlotted c.args.machine.now k x.phase in
    subst P none (c.requires.slots j x at)

pub let_go-requires : goal.let_go-requires
let_go-requires c = home_held c.args.machine.now c.go_home.new.machine c.args.leaving.now.hart c.args.leaving.now.phase c.args.hold.now c.go_home.ensures c.requires.text

pub let_go-requires-in-AllExit : goal.let_go-requires-in-AllExit
let_go-requires-in-AllExit c =
    let P : Words → Type 0 = λ t. HeldInText t c.args.hold.now in
    subst P (ap (λ (m : Patched). m.text) (sym c.go_home_each.ensures.rest)) c.requires.text

pub returns-in-HartExit : goal.returns-in-HartExit
returns-in-HartExit c =
    let P : Stepped → Type 0 = λ s. HomedBy s (wants_by c.args.table.now c.args.hold.now) c.let_go.new.hold (leaving_view c.args.leaving.now) c.args.machine.now c.let_go.new.machine in
    subst P (sym c.in-HartExit.is)
    (record { between = c.go_home.new.machine; home = c.go_home.ensures; released = c.let_go.ensures.text; rest = c.let_go.ensures.rest; none = c.let_go.ensures.none })

pub returns-in-AllExit : goal.returns-in-AllExit
returns-in-AllExit c =
    let P : Stepped → Type 0 = λ s. HomedBy s (wants_by c.args.table.now c.args.hold.now) c.let_go-in-AllExit.new.hold (leaving_view c.args.leaving.now) c.args.machine.now c.let_go-in-AllExit.new.machine in
    subst P (sym c.in-AllExit.is)
    (record { between = c.go_home_each.new.machine; home = c.go_home_each.ensures; released = c.let_go-in-AllExit.ensures.text; rest = c.let_go-in-AllExit.ensures.rest; none = c.let_go-in-AllExit.ensures.none })
