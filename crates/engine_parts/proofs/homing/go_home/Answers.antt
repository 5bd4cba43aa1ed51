use Rattle.std.proofs.Common.{true, false, refl, sym, subst}
use Rattle.step_over.specs.declared.phase.Phase.{Phase}
use Rattle.step_over.specs.declared.phase.Phase.TheVariants as phase
use Rattle.engine_parts.specs.Homecoming.{IsSlotted, GoesHome, Owns}
use Rattle.engine_parts.proofs.Homes.{left_slot}
use Rattle.engine_parts.proofs.homing.go_home.Goals as goal

pub returns-in-Copied : goal.returns-in-Copied
returns-in-Copied c =
    let old = c.args.machine.now in
    let new = c.finish_copy.new.self in
    let slot = c.in-Copied.slot in
    let home = c.in-Copied.home in
    let P : Phase → Type 0 = λ q. IsSlotted old c.args.h q in
    let Q : Phase → Type 0 = λ q. GoesHome old new c.args.h q in
    let own : Owns old c.args.h slot = subst P c.in-Copied.is c.requires.slot in
    let done = c.finish_copy.ensures in
    subst Q (sym c.in-Copied.is) (left_slot old new c.args.h slot home false (phase.Copied slot home) c.requires.hart own (λ k. refl) done.finished done.freed done.others)

pub returns-in-Landed : goal.returns-in-Landed
returns-in-Landed c =
    let old = c.args.machine.now in
    let new = c.finish_copy-in-Landed.new.self in
    let slot = c.in-Landed.slot in
    let home = c.in-Landed.home in
    let P : Phase → Type 0 = λ q. IsSlotted old c.args.h q in
    let Q : Phase → Type 0 = λ q. GoesHome old new c.args.h q in
    let own : IsSlotted old c.args.h (phase.Landed slot home) = subst P c.in-Landed.is c.requires.slot in
    let done = c.finish_copy-in-Landed.ensures in
    subst Q (sym c.in-Landed.is) (left_slot old new c.args.h slot home true (phase.Landed slot home) c.requires.hart own.owns (λ k. refl) done.finished done.freed done.others)
