-- What is left of an engine.
use Rattle.std.proofs.Common.{arith, ◌≡◌, List, [], ◌∷◌, length, refl, ap, subst, ◌∙◌}
use Rattle.std.specs.Prelude.{map, Option, None, if◌then◌else◌}
use Rattle.elf32_read.specs.Program.{Program}
use Rattle.hart_machine.specs.declared.hart.Core.{Core}
use Rattle.step_plans.specs.declared.plan.Plan.{Plan}
use Rattle.dbg_model.specs.State.{is_running}
use Rattle.engine_parts.specs.declared.mind.Mind.{Mind}
use Rattle.engine_parts.specs.declared.mind.Activity.{Activity}
use Rattle.engine_parts.specs.declared.mind.Activity.TheVariants as activity
use Rattle.engine_parts.specs.Minds.{awaited, in_place, is_active, mode_of, return_of}
use Rattle.engine_parts.specs.Seen.{Engine, seen, seen_hart, seen_harts, seen_regs, hart_waits, waits_of}
use Rattle.engine_parts.specs.Moves.{AreHome}
use Rattle.engine_parts.specs.Facts.{Facts, Planted}
use Rattle.engine_parts.specs.declared.ending.Closed.{Closed}
use Rattle.engine_parts.specs.Calls.{Closes}
use Rattle.session_parts.specs.Stage.{stage_of}
use Rattle.session_parts.specs.Left.{IsLeft, core_registers, hart_registers}

-- harts at home have the registers that were seen
home_regs : (p : Program) (cs : List Core) (xs : List Mind) (ds : List Core) → AreHome p cs xs ds → core_registers ds ≡ hart_registers (seen_harts p cs xs)
home_regs p [] xs [] home = refl
home_regs p [] xs (d ∷ ds) home = absurd home
home_regs p (c ∷ cs) [] [] home = absurd home
home_regs p (c ∷ cs) (x ∷ xs) [] home = absurd home
home_regs p (c ∷ cs) [] (d ∷ ds) home = absurd home
home_regs p (c ∷ cs) (x ∷ xs) (d ∷ ds) home =
    ap (λ r. r ∷ core_registers ds) home.0.regs ∙ ap (λ t. seen_regs p c.regs x.activity x.phase ∷ t) (home_regs p cs xs ds home.1)

waits_by : (p : Program) (a : Activity) (plan : Plan) → (if is_active a then in_place p (return_of plan) else None) ≡ (if is_running (mode_of a) then in_place p (return_of plan) else None)
waits_by p activity.Stopped plan = refl
waits_by p activity.Running plan = refl
waits_by p activity.Exited plan = refl

-- harts wait where they are seen to
waits_seen : (p : Program) (cs : List Core) (xs : List Mind) → length cs ≡ length xs → map (awaited p) xs ≡ waits_of p (seen_harts p cs xs)
waits_seen p [] [] same = refl
waits_seen p [] (x ∷ xs) same = cc
waits_seen p (c ∷ cs) [] same = cc
waits_seen p (c ∷ cs) (x ∷ xs) same =
    ap (λ w. w ∷ map (awaited p) xs) (waits_by p x.activity x.course.plan) ∙ ap (λ ws. hart_waits p (seen_hart p c x) ∷ ws) (waits_seen p cs xs (omega arith))

-- what is left of an engine
pub left : (e : Engine) (c : Closed) → c.opening ≡ e.opening → c.journal ≡ e.journal → Closes e c.machine → Facts e → IsLeft (stage_of e) c
left e c o j m f =
    let p = e.opening.image in
    let waits : e.waits ≡ waits_of p (seen e).harts = f.waits ∙ waits_seen p e.machine.cores e.minds f.sound.harts.len in
    let text : Planted p c.machine.text (record { entries = e.breaks; waits = waits_of p (seen e).harts; hold = None }) =
    subst (λ ws. Planted p c.machine.text (record { entries = e.breaks; waits = ws; hold = None })) waits m.text in
    record {
      opening = o;
      journal = j;
      leaves = rw (o, j) f.sound.leaves;
      registers = home_regs e.opening.image e.machine.cores e.minds c.machine.cores m.cores;
      memory = m.memory;
      planted = rw o text;
      retired = rw j m.retired;
      copied = rw o m.copied;
    }
