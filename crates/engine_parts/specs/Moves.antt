-- What the moves of an engine do to it. This project's own.
use Rattle.std.specs.Prelude.{◌≡◌, ℕ, Bool, List, [], ◌∷◌, length, map, Option, Some, None, IsSome}
use Rattle.rv_exec.specs.Memory.{Memory}
use Rattle.elf32_read.specs.Program.{Program}
use Rattle.text_words.specs.Words.{Words, shown, is_planted}
use Rattle.scratch_slots.specs.declared.slots.SlotUse.{SlotUse}
use Rattle.scratch_slots.specs.Table.{use_at}
use Rattle.hart_machine.specs.declared.hart.Core.{Core}
use Rattle.break_table.specs.Entry.{Entry as BreakEntry}
use Rattle.step_plans.specs.declared.plan.Plan.{Plan}
use Rattle.step_plans.specs.declared.plan.Verdict.{Verdict}
use Rattle.step_plans.specs.declared.plan.Verdict.TheVariants as verdicts
use Rattle.break_table.specs.declared.due.CondError.{CondError}
use Rattle.dbg_model.specs.declared.entry.Why.{Why}
use Rattle.dbg_model.specs.declared.entry.Why.TheVariants.{Break, Watch, Stepped, Finished}
use Rattle.dbg_model.specs.declared.hart.Hart.{Hart}
use Rattle.dbg_model.specs.declared.judgement.Judgement.{Judgement}
use Rattle.watch_points.specs.declared.watchpoint.Fired.{Fired}
use Rattle.dbg_model.specs.Judging.{plan_after}
use Rattle.dbg_model.specs.Courses.{noted_with}
use Rattle.watch_points.specs.Watches.{fired_by}
use Rattle.dbg_model.specs.State.{due}
use Rattle.engine_parts.specs.declared.mind.Hold.{Hold}
use Rattle.engine_parts.specs.declared.mind.Mind.{Mind}
use Rattle.engine_parts.specs.Facts.{called}
use Rattle.engine_parts.specs.Minds.{ran_mind}
use Rattle.engine_parts.specs.Seen.{Engine, seen, seen_regs}

-- one word is patched, or is so no more, and all others are as before
pub record Repatched (old new : Words) (a : ℕ) (is : Bool) : Type 0 where
  pub words : new.words ≡ old.words
  pub here : is_planted new a ≡ is
  pub others : (b : ℕ) → (a ≡ b → ⊥) → is_planted new b ≡ is_planted old b

-- the address of a lifted patch is in text
abbrev pub HeldInText : Words → Option Hold → Type 0
HeldInText t None = Unit {0}
HeldInText t (Some d) = IsSome (shown t d.home)

-- a lifted patch is planted again where one is called for
abbrev pub Released : Words → Words → List BreakEntry → List (Option ℕ) → Option Hold → Type 0
Released old new bs ws None = new ≡ old
Released old new bs ws (Some d) = Repatched old new d.home (called bs ws d.home)

-- one slot changes its use, and the others stay
pub record OneSlot (old new : List (Option SlotUse)) (slot : ℕ) (to : Option SlotUse) : Type 0 where
  pub here : use_at new slot ≡ to
  pub others : (s : ℕ) → (slot ≡ s → ⊥) → use_at new s ≡ use_at old s

-- a hart gave its slot back
pub record Frees (old new : List (Option SlotUse)) (slot : ℕ) : Type 0 where
  pub one : OneSlot old new slot None
  pub len : length new ≡ length old

-- hart h took a free slot, for a copy of this word
pub record Takes (old new : List (Option SlotUse)) (h slot word : ℕ) : Type 0 where
  pub was : use_at old slot ≡ None
  pub one : OneSlot old new slot (Some (record { hart = h; word = word }))
  pub len : length new ≡ length old

-- how many instructions each hart has executed by copies
abbrev pub copies_of : List Core → List ℕ
copies_of cores = map (λ c. c.copied) cores

-- none was executed by a copy
abbrev pub SameCopies : Engine → Engine → Type 0
SameCopies old new = copies_of new.machine.cores ≡ copies_of old.machine.cores

-- a hart is home: its registers are those that it shows
pub record IsHome (p : Program) (c : Core) (x : Mind) (d : Core) : Type 0 where
  pub regs : d.regs ≡ seen_regs p c.regs x.activity x.phase
  pub retired : d.retired ≡ c.retired
  pub copied : d.copied ≡ c.copied
  pub entered : d.entered ≡ None

-- these cores are the others with each hart out of its slot, as a user sees them
abbrev pub AreHome : Program → List Core → List Mind → List Core → Type 0
AreHome p [] xs [] = Unit {0}
AreHome p [] xs (d ∷ ds) = ⊥
AreHome p (c ∷ cs) xs [] = ⊥
AreHome p (c ∷ cs) [] (d ∷ ds) = ⊥
AreHome p (c ∷ cs) (x ∷ xs) (d ∷ ds) = IsHome p c x d × AreHome p cs xs ds

-- the plan with which a hart that shows this goes on
abbrev pub plan_for : Engine → ℕ → Hart → Plan
plan_for r h y = plan_after (due r.opening.image (seen r) h y).verdict

-- what is kept of a hart that shows this, after its instruction, which left this memory
abbrev pub ran_by : Engine → ℕ → Hart → Memory → Mind → Mind
ran_by r h y m x = ran_mind (plan_for r h y) (noted_with (plan_for r h y) y.regs.pc) (fired_by r.watches r.machine.memory m) x

abbrev pub end_of : Verdict → Option Why
end_of (verdicts.Go plan) = None
end_of verdicts.Stepped = Some Stepped
end_of verdicts.Finished = Some Finished

abbrev pub stop_by : Option ℕ → Option CondError → Option Fired → Verdict → Option Why
stop_by (Some number) error fired v = Some (Break number error)
stop_by None error (Some f) v = Some (Watch f)
stop_by None error None v = end_of v

-- why a hart stops where it has just arrived, if it does: breakpoints come before watches, and watches before its plan
abbrev pub stop_of : Judgement → Option Why
stop_of j = stop_by j.breaks.stop j.breaks.error j.fired j.verdict
