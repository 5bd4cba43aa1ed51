-- A hart at a planted word enters a slot with a copy of it.
use Rattle.std.proofs.Common.{◌≡◌, ℕ, cond, List, refl, sym, ap, ◌∙◌, not, arith, inl}
use Rattle.std.specs.Prelude.{Option, Some}
use Rattle.rv_exec.specs.Registers.{Registers, set_pc}
use Rattle.elf32_read.specs.Program.{Program, text_word}
use Rattle.displaced_fix.specs.Fix.{IsWordAddress}
use Rattle.scratch_slots.specs.declared.slots.SlotUse.{SlotUse}
use Rattle.mi_commands.specs.declared.command.Displaced.{Displaced}
use Rattle.step_over.specs.declared.phase.Phase.TheVariants as phase
use Rattle.hart_machine.specs.declared.hart.Core.{Core}
use Rattle.hart_machine.specs.Copying.{entered_core}
use Rattle.dbg_model.specs.State.{is_off}
use Rattle.engine_parts.specs.declared.mind.Activity.TheVariants as activity
use Rattle.engine_parts.specs.declared.mind.Mind.{Mind}
use Rattle.engine_parts.specs.Minds.{lifted_of, slot_of, with_phase}
use Rattle.engine_parts.specs.Seen.{Engine, running_regs}
use Rattle.engine_parts.specs.Facts.{Sound, pending}
use Rattle.engine_parts.specs.Moves.{Takes}
use Rattle.engine_parts.proofs.Built.{rehomed}
use Rattle.engine_parts.proofs.Updating.{slots_taken}
use Rattle.engine_parts.proofs.Keeping.{Mover, StaysSeen, silent_home}
use Rattle.engine_parts.proofs.Stepping.{fact_of, runs_not, seen_alike, shown_alike}
use Rattle.engine_parts.proofs.Holding.{and_off}

copied_pending : (d : Displaced) (slot home : ℕ) → pending d (phase.Copied slot home) ≡ 0
copied_pending d slot home = ap (λ b. cond b 1 0) (and_off (not (is_off d)))

-- a hart that has entered a slot shows the registers that it had
entered_seen : (p : Program) (r : Registers) (slot home : ℕ) → r.pc ≡ home → running_regs p (set_pc r slot) (phase.Copied slot home) ≡ r
entered_seen p r slot home pc = ap (set_pc r) (sym pc)

pub copies : (r : Engine) (h slot home word : ℕ) (c : Core) (x : Mind) (slots : List (Option SlotUse)) → Sound r → Mover r h c x
    → x.activity ≡ activity.Running → x.phase ≡ phase.Idle → c.regs.pc ≡ home → text_word r.opening.image home ≡ Some word
    → IsWordAddress slot → IsWordAddress home → Takes r.machine.slots slots h slot word → StaysSeen r (rehomed r h (entered_core c slot) (with_phase x (phase.Copied slot home)) r.machine.text slots r.hold)
copies r h slot home word c x slots f m runs idle pc image at_slot at_home takes =
    let p = r.opening.image in
    let q = phase.Copied slot home in
    let x' = with_phase x q in
    let d = entered_core c slot in
    let same : running_regs p d.regs q ≡ running_regs p c.regs x.phase = entered_seen p c.regs slot home pc ∙ ap (running_regs p c.regs) (sym idle) in
    silent_home r h c d x x' r.machine.text slots r.hold f m (shown_alike p c d x q (seen_alike p d.regs c.regs x.activity q x.phase runs same))
    (record {
      slots = slots_taken p r.machine.cores r.machine.slots slots r.minds r.hold h slot home word x f.harts m.mind (ap slot_of idle) takes.was takes.one;
      holds = λ k n. refl;
      fact = record {
        placed = (record { word = word; out = takes.one.here; image = image; at_slot = at_slot; at_home = at_home }, refl);
        entered = refl;
        held = ap lifted_of (sym idle) ∙ (fact_of r h c x f m).held;
        idle = λ e. runs_not x.activity runs e;
      };
      holder = λ e is. inl is;
    })
    takes.len (record { retired = refl; copied = refl; pending = λ some. let z = copied_pending r.displaced slot home in omega arith }) f.planted
