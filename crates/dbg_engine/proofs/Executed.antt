-- What is known of an instruction that doesn't trap.
use Rattle.std.proofs.Common.{◌≡◌, ◌<◌, ◌≤◌, ℕ, true, false, List, length, refl, sym, ap, ◌∙◌, subst}
use Rattle.std.specs.Prelude.{Option, Some, slice_get, slice_set}
use Rattle.rv_exec.specs.declared.effect.Cause.{Cause}
use Rattle.rv_exec.specs.declared.effect.Stepped.{Stepped}
use Rattle.rv_exec.specs.declared.effect.Stepped.TheVariants as stepped
use Rattle.text_words.specs.Words.{is_planted}
use Rattle.step_over.specs.declared.phase.Phase.TheVariants as phase
use Rattle.step_plans.specs.declared.plan.Plan.{Plan}
use Rattle.hart_machine.specs.declared.hart.Core.{Core}
use Rattle.hart_machine.specs.Patched.{Patched}
use Rattle.hart_machine.specs.Stepping.{AreCounted, Steps, StepsTo, has_run}
use Rattle.dbg_model.specs.Courses.{noted_with}
use Rattle.watch_points.specs.Watches.{fired_by}
use Rattle.watch_points.specs.declared.watchpoint.Fired.{Fired}
use Rattle.engine_parts.specs.declared.mind.Hold.{Hold}
use Rattle.engine_parts.specs.declared.mind.Mind.{Mind}
use Rattle.engine_parts.specs.Homecoming.{IsSlotted}
use Rattle.engine_parts.specs.Minds.{ran_mind}
use Rattle.engine_parts.specs.Moves.{HeldInText}
use Rattle.engine_parts.specs.Seen.{Engine}
use Rattle.engine_parts.specs.Facts.{Sound, wants_of}
use Rattle.engine_parts.proofs.Bounding.{Small}
use Rattle.engine_parts.proofs.Stepping.{ran_of}
use Rattle.engine_parts.specs.Steps.{Parts, applied}
use Rattle.engine_parts.specs.Homing.{HomedBy}
use Rattle.engine_parts.specs.Calls.{Before, GoesWith, Of, Undue}
use Rattle.engine_parts.proofs.Executing.{Executed, Ready, Readied, readied, done, noted_by, parts_of, ran_is, run_with}
use Rattle.engine_parts.proofs.Departing.{Prepared, prepared, executed_to, applied_twice}

-- an instruction of hart h, of which x was kept and z is
pub record Known (s : Stepped) (r : Engine) (h : ℕ) (x z : Mind) (new : Patched) : Type 0 where
  pub core : Core
  pub ready : Ready r h core x
  pub small : Small r
  pub step : StepsTo s r.machine h core new
  pub done : has_run s ≡ true
  pub kept : z ≡ ran_of r h core x new.memory
  -- what harts that leave need to come home
  pub text : HeldInText new.text r.hold
  pub few : length new.cores ≤ 16
  pub hart : h < length new.cores
  pub harts : length (slice_set r.minds h z) ≤ length new.cores
  pub slot : IsSlotted new h z.phase
  pub slots : (j : ℕ) (y : Mind) → slice_get (slice_set r.minds h z) j ≡ Some y → IsSlotted new j y.phase

pub known_of : (s : Stepped) (r q : Engine) (h pc : ℕ) (x z : Mind) (plan : Plan) (last : Option ℕ) (fired : Option Fired) (new : Patched) → r ≡ q → Sound r → Before q h x → Of q h (λ y. y.regs.pc ≡ pc) → Undue q h → GoesWith q h plan
    → (x.phase ≡ phase.Idle → is_planted q.machine.text pc ≡ false) → AreCounted r.machine.cores → Steps s r.machine h new → ((cause : Cause) → s ≡ stepped.Trap cause → ⊥) → z ≡ ran_mind plan last fired x → last ≡ noted_with plan pc
    → fired ≡ fired_by r.watches r.machine.memory new.memory → Known s r h x z new
known_of s r q h pc x z plan last fired new same f before here undue goes clear counted steps runs is noted watched =
    let k : Readied r h x = readied r q h pc x same f before.at before.before before.runs before.free here undue clear before.may counted in
    let t : StepsTo s r.machine h k.core new = steps k.core k.ready.mover.core in
    let d : has_run s ≡ true = done s r h k.core x new k.ready t runs in
    let p : Prepared r h k.core x new = prepared s r h k.core x new d k.ready k.small t in
    let G : Engine → Type 0 = λ q. GoesWith q h plan in
    let H : Engine → Type 0 = λ q. Of q h (λ y. y.regs.pc ≡ pc) in
    let kept : z ≡ ran_of r h k.core x new.memory = ran_is r h pc k.core x z plan last fired new k.ready.mover (subst G (sym same) goes) (subst H (sym same) here) is noted watched in
    let Harts : Mind → Type 0 = λ z. length (slice_set r.minds h z) ≤ length new.cores in
    let Slot : Mind → Type 0 = λ z. IsSlotted new h z.phase in
    let Slots : Mind → Type 0 = λ z. (j : ℕ) (y : Mind) → slice_get (slice_set r.minds h z) j ≡ Some y → IsSlotted new j y.phase in
    record {
      core = k.core;
      ready = k.ready;
      small = k.small;
      step = t;
      done = d;
      kept = kept;
      text = p.text;
      few = p.few;
      hart = p.hart;
      harts = subst Harts (sym kept) p.harts;
      slot = subst Slot (sym kept) p.slot;
      slots = subst Slots (sym kept) p.slots;
    }

-- what is kept of the harts was set before
pub parts_is : (s : Stepped) (h : ℕ) (z : Mind) (r : Engine) (p : Parts) (xs : List Mind) → has_run s ≡ true → xs ≡ slice_set r.minds h z → p ≡ applied s h z (record { journal = r.journal; minds = xs }) → p ≡ applied s h z (parts_of r)
parts_is s h z r p xs d same is = is ∙ (ap (λ ys. applied s h z (record { journal = r.journal; minds = ys })) same ∙ applied_twice s h z (parts_of r) d)

-- the engine then, where harts that left came home and this is noted
pub ended : (s : Stepped) (r : Engine) (h spare : ℕ) (x z : Mind) (new m : Patched) (hold : Option Hold) (xs ys : List Mind) (p : Parts)
    → Known s r h x z new → xs ≡ slice_set r.minds h z → HomedBy s (wants_of r) hold (record { hart = h; phase = z.phase; minds = xs }) new m
    → ys ≡ slice_set r.minds h z → p ≡ applied s h z (record { journal = r.journal; minds = ys }) → Executed s r (run_with r m p (noted_by s h z r.minds r.noted) hold spare) h z
ended s r h spare x z new m hold xs ys p k same homed again is =
    let H : List Mind → Type 0 = λ xs. HomedBy s (wants_of r) hold (record { hart = h; phase = z.phase; minds = xs }) new m in
    let E : Mind → Type 0 = λ z. HomedBy s (wants_of r) hold (record { hart = h; phase = z.phase; minds = slice_set r.minds h z }) new m
    → p ≡ applied s h z (parts_of r) → Executed s r (run_with r m p (noted_by s h z r.minds r.noted) hold spare) h z in
    let z' : Mind = ran_of r h k.core x new.memory in
    subst E (sym k.kept) (λ a b. executed_to s r h spare k.core x new m hold p (noted_by s h z' r.minds r.noted) k.done k.ready k.step a b refl) (subst H same homed) (parts_is s h z r p ys k.done again is)
