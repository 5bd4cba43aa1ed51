-- How harts come home from their slots. This project's own.
use Rattle.std.specs.Prelude.{◌≡◌, ◌<◌, ◌+◌, ℕ, Bool, true, false, List, length, Option, Some, None, IsSome, slice_get, slice_set}
use Rattle.rv_decode.specs.Decode.{decode}
use Rattle.scratch_slots.specs.declared.slots.SlotUse.{SlotUse}
use Rattle.scratch_slots.specs.Table.{use_at}
use Rattle.step_over.specs.declared.phase.Phase.{Phase}
use Rattle.step_over.specs.declared.phase.Phase.TheVariants as phase
use Rattle.hart_machine.specs.declared.hart.Core.{Core}
use Rattle.hart_machine.specs.Patched.{Patched}
use Rattle.hart_machine.specs.Copying.{settled_core}
use Rattle.engine_parts.specs.declared.mind.Mind.{Mind}
use Rattle.engine_parts.specs.Minds.{slot_of}
use Rattle.engine_parts.specs.Moves.{Frees}

-- hart h has the slot
pub record Owns (m : Patched) (h slot : ℕ) : Type 0 where
  pub word : ℕ
  pub out : use_at m.slots slot ≡ Some (record { hart = h; word = word })

-- it has executed the word there, which is an instruction
pub record OwnsRun (m : Patched) (h slot : ℕ) : Type 0 where
  pub owns : Owns m h slot
  pub decodes : IsSome (decode owns.word)

-- a hart in a step over a planted word by a copy has its slot
abbrev pub IsSlotted : Patched → ℕ → Phase → Type 0
IsSlotted m h (phase.Copied slot home) = Owns m h slot
IsSlotted m h (phase.Landed slot home) = OwnsRun m h slot
IsSlotted m h _ = Unit {0}

abbrev pub settled_by : Option SlotUse → ℕ → ℕ → Core → Bool → Core
settled_by None slot home c ran = c
settled_by (Some u) slot home c ran = settled_core u.word slot home c ran

-- a hart after it came home
abbrev pub home_core : List (Option SlotUse) → Core → Phase → Core
home_core slots c (phase.Copied slot home) = settled_by (use_at slots slot) slot home c false
home_core slots c (phase.Landed slot home) = settled_by (use_at slots slot) slot home c true
home_core slots c _ = c

-- a hart came home from its slot, which is free now, and nothing else changed
pub record Leaves (old new : Patched) (h slot : ℕ) (q : Phase) : Type 0 where
  pub core : Core
  pub at : slice_get old.cores h ≡ Some core
  pub frees : Frees old.slots new.slots slot
  pub machine : new ≡ record old { cores = slice_set old.cores h (home_core old.slots core q); slots = new.slots }

abbrev pub GoesHome : Patched → Patched → ℕ → Phase → Type 0
GoesHome old new h (phase.Copied slot home) = Leaves old new h slot (phase.Copied slot home)
GoesHome old new h (phase.Landed slot home) = Leaves old new h slot (phase.Landed slot home)
GoesHome old new h _ = new ≡ old

-- each hart of a list, of which the first has the number h, came home, and nothing else changed
pub record AllGoHome (old new : Patched) (h : ℕ) (minds : List Mind) : Type 0 where
  pub len : length new.cores ≡ length old.cores
  pub before : (j : ℕ) → j < h → slice_get new.cores j ≡ slice_get old.cores j
  pub home : (j : ℕ) (c : Core) (x : Mind) → slice_get old.cores (h + j) ≡ Some c → slice_get minds j ≡ Some x → slice_get new.cores (h + j) ≡ Some (home_core old.slots c x.phase)
  -- the slots that are still out are none of these harts'
  pub out : (slot : ℕ) (u : SlotUse) → use_at new.slots slot ≡ Some u → (use_at old.slots slot ≡ Some u) × ((j : ℕ) (x : Mind) → slice_get minds j ≡ Some x → u.hart ≡ h + j → slot_of x.phase ≡ Some slot → ⊥)
  pub slots_len : length new.slots ≡ length old.slots
  pub rest : new ≡ record old { cores = new.cores; slots = new.slots }
