-- What a hart shows in each phase, and what a mark does to its registers and memory.
use Rattle.std.specs.Prelude.{ℕ, ◌≡◌, ◌<◌, ◌⊎◌, List, [], ◌∷◌, Option, Some, None, true, false}
use Rattle.std.specs.Option.{option_and_then}
use Rattle.rv_decode.specs.declared.instr.Instr.{Instr}
use Rattle.rv_exec.specs.Registers.{Registers, set, set_pc, next}
use Rattle.rv_exec.specs.Memory.{Memory}
use Rattle.rv_exec.specs.Step.{Outcome, Done, Call, Trap, step}
use Rattle.displaced_fix.specs.Fix.{fix, IsWordAddress}
use Rattle.scratch_slots.specs.Table.{slot_address}
use Rattle.step_over.specs.declared.phase.Phase.{Phase}
use Rattle.step_over.specs.declared.phase.Phase.TheVariants.{Idle, Copied, Landed, Lifted, Ran}
use Rattle.step_over.specs.declared.phase.Mark.{Mark}
use Rattle.step_over.specs.declared.phase.Mark.TheVariants.{Copy, Lift, Run, Fix, Plant, End}
use Rattle.step_over.specs.Phases.{after, LeadsToIdle, runs}

-- The registers that a hart shows, i being the instruction that it steps over: its own, but in its slot and behind it
-- those at home.
abbrev pub shown : Instr → Phase → Registers → Registers
shown i Idle r = r
shown i (Copied slot home) r = set_pc r home
shown i (Landed slot home) r = fix i slot home r true
shown i (Lifted home) r = r
shown i (Ran home) r = r

abbrev pub done_of : Outcome → Option (Registers × Memory)
done_of (Done r m) = Some (r, m)
done_of Call = None
done_of (Trap cause) = None

-- The registers and memory after a mark: an instruction where it runs, an entered slot, and fixes. None where the mark
-- doesn't fit, or the instruction doesn't end.
abbrev pub marked : Instr → Phase → Mark → Registers → Memory → Option (Registers × Memory)
marked i Idle (Copy slot home) r m = Some (set_pc r slot, m)
marked i Idle (Lift home) r m = Some (r, m)
marked i Idle Run r m = done_of (step i r m)
marked i Idle Fix r m = None
marked i Idle Plant r m = None
marked i Idle End r m = None
marked i (Copied slot home) Run r m = done_of (step i r m)
marked i (Copied slot home) End r m = Some (fix i slot home r false, m)
marked i (Copied slot home) (Copy slot' home') r m = None
marked i (Copied slot home) (Lift home') r m = None
marked i (Copied slot home) Fix r m = None
marked i (Copied slot home) Plant r m = None
marked i (Landed slot home) Fix r m = Some (fix i slot home r true, m)
marked i (Landed slot home) End r m = Some (fix i slot home r true, m)
marked i (Landed slot home) (Copy slot' home') r m = None
marked i (Landed slot home) (Lift home') r m = None
marked i (Landed slot home) Run r m = None
marked i (Landed slot home) Plant r m = None
marked i (Lifted home) Run r m = done_of (step i r m)
marked i (Lifted home) End r m = Some (r, m)
marked i (Lifted home) (Copy slot' home') r m = None
marked i (Lifted home) (Lift home') r m = None
marked i (Lifted home) Fix r m = None
marked i (Lifted home) Plant r m = None
marked i (Ran home) Plant r m = Some (r, m)
marked i (Ran home) End r m = Some (r, m)
marked i (Ran home) (Copy slot' home') r m = None
marked i (Ran home) (Lift home') r m = None
marked i (Ran home) Run r m = None
marked i (Ran home) Fix r m = None

-- the same for marks in turn
abbrev pub marked_all : Instr → Phase → List Mark → Registers → Memory → Option (Registers × Memory)
marked_all i p [] r m = Some (r, m)
marked_all i p (mark ∷ marks) r m = option_and_then (λ q. option_and_then (λ s. marked_all i q marks s.0 s.1) (marked i p mark r m)) (after p mark)

-- the addresses of a phase are those of words
abbrev pub AreWordAddresses : Phase → Type 0
AreWordAddresses Idle = Unit {0}
AreWordAddresses (Copied slot home) = IsWordAddress slot × IsWordAddress home
AreWordAddresses (Landed slot home) = IsWordAddress slot × IsWordAddress home
AreWordAddresses (Lifted home) = Unit {0}
AreWordAddresses (Ran home) = Unit {0}

-- in its slot a hart's pc is that of the copy
abbrev pub IsAt : Phase → Registers → Type 0
IsAt Idle r = Unit {0}
IsAt (Copied slot home) r = r.pc ≡ slot
IsAt (Landed slot home) r = Unit {0}
IsAt (Lifted home) r = Unit {0}
IsAt (Ran home) r = Unit {0}

-- A run is one plain step of what the hart shows: done, with the same memory; a trap for the same cause; or a call, after
-- which an environment that writes one register and goes on does the same to what the hart shows.
pub record IsPlainStep (i : Instr) (p q : Phase) (r : Registers) (m : Memory) : Type 0 where
  pub done : (r' : Registers) (m' : Memory) → step i r m ≡ Done r' m' → step i (shown i p r) m ≡ Done (shown i q r') m'
  pub trap : (cause : _) → step i r m ≡ Trap cause → step i (shown i p r) m ≡ Trap cause
  pub call : step i r m ≡ Call → step i (shown i p r) m ≡ Call
  pub answered : (n value : ℕ) → step i r m ≡ Call → shown i q (next (set r n value)) ≡ next (set (shown i p r) n value)

abbrev pub RunIsPlainStep : Type 0
RunIsPlainStep =
    (i : Instr) (p q : Phase) (r : Registers) (m : Memory) →
    AreWordAddresses p → IsAt p r → after p Run ≡ Some q → IsPlainStep i p q r m

abbrev pub IsRun : Mark → Type 0
IsRun Run = Unit {0}
IsRun (Copy slot home) = ⊥
IsRun (Lift home) = ⊥
IsRun Fix = ⊥
IsRun Plant = ⊥
IsRun End = ⊥

-- a copy is of the instruction at pc
abbrev pub IsOfPc : Mark → Registers → Type 0
IsOfPc (Copy slot home) r = r.pc ≡ home
IsOfPc (Lift home) r = r.pc ≡ home
IsOfPc Run r = Unit {0}
IsOfPc Fix r = Unit {0}
IsOfPc Plant r = Unit {0}
IsOfPc End r = Unit {0}

-- any other mark changes nothing that the hart shows
abbrev pub OtherMarksShowTheSame : Type 0
OtherMarksShowTheSame =
    (i : Instr) (p q : Phase) (mark : Mark) (r r' : Registers) (m m' : Memory) →
    (IsRun mark → ⊥) → IsOfPc mark r → after p mark ≡ Some q → marked i p mark r m ≡ Some (r', m') →
    (shown i q r' ≡ shown i p r) × (m' ≡ m)

-- the slots and homes of the copies are addresses of words
abbrev pub CopiesWords : List Mark → Registers → Type 0
CopiesWords [] r = Unit {0}
CopiesWords (Copy slot home ∷ marks) r = IsWordAddress slot × IsWordAddress home × (r.pc ≡ home)
CopiesWords (Lift home ∷ marks) r = Unit {0}
CopiesWords (Run ∷ marks) r = Unit {0}
CopiesWords (Fix ∷ marks) r = Unit {0}
CopiesWords (Plant ∷ marks) r = Unit {0}
CopiesWords (End ∷ marks) r = Unit {0}

-- Between two Idles lies exactly one run, and it is one plain step, or none, and nothing has changed.
abbrev pub OneStepOrNone : Type 0
OneStepOrNone =
    (i : Instr) (marks : List Mark) (r r' : Registers) (m m' : Memory) →
    LeadsToIdle Idle marks → CopiesWords marks r → marked_all i Idle marks r m ≡ Some (r', m') →
    ((runs marks ≡ 1) × (step i r m ≡ Done r' m')) ⊎ ((runs marks ≡ 0) × (r' ≡ r) × (m' ≡ m))

-- each slot is a word
abbrev pub SlotsAreWords : Type 0
SlotsAreWords = (k : ℕ) → k < 512 → IsWordAddress (slot_address k)
