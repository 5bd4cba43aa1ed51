-- Instructions of a hart that goes on by itself, taken at once. This project's own.
use Rattle.std.specs.Prelude.{◌≡◌, ℕ, zero, suc, Bool, true, false, ◌&&◌, ◌==◌, not, List, [], length, Option, Some, None, is_none, slice_get, if◌then◌else◌}
use Rattle.std.specs.Option.{option_map}
use Rattle.rv_decode.specs.declared.instr.Instr.{Instr}
use Rattle.rv_exec.specs.Registers.{Registers}
use Rattle.rv_exec.specs.Memory.{Memory}
use Rattle.rv_exec.specs.Step.{Outcome, Done, Call, Trap, step}
use Rattle.elf32_read.specs.Program.{Program}
use Rattle.text_words.specs.declared.fetch.Fetch.{Fetch}
use Rattle.text_words.specs.declared.fetch.Fetch.TheVariants as fetch
use Rattle.plain_machine.specs.Environment.{Goes, Stays}
use Rattle.plain_machine.specs.Plain.{plain}
use Rattle.break_table.specs.Entry.{Entry as BreakEntry}
use Rattle.break_table.specs.Table.{stands}
use Rattle.step_plans.specs.declared.plan.Plan.{Plan}
use Rattle.dbg_model.specs.declared.entry.Entry.TheVariants.{Ran}
use Rattle.dbg_model.specs.declared.hart.Hart.{Hart}
use Rattle.dbg_model.specs.declared.opening.Opening.{Opening}
use Rattle.dbg_model.specs.declared.shown.Shown.TheVariants.{Nothing}
use Rattle.dbg_model.specs.Breaks.{is_number}
use Rattle.dbg_model.specs.Courses.{after_instruction}
use Rattle.dbg_model.specs.Journals.{Place}
use Rattle.dbg_model.specs.Judging.{instruction_at, is_kept}
use Rattle.dbg_model.specs.Lawful.{may_move, one}
use Rattle.dbg_model.specs.Shown.{shown_of}
use Rattle.dbg_model.specs.State.{State}

-- the place behind one more instruction of the `Ran` that was taken last, which has to be of this hart
abbrev pub lengthen : Opening → Place → ℕ → Option Place
lengthen o p h = if is_number p.prev h then option_map (λ s. record { prev = Some h; state = s }) (one o h p.state) else None

-- one more instruction of the `Ran` that was taken last, which shows nothing, from a place of which P holds
pub record ThenLengthens (P : Place → Type 0) (o : Opening) (h : ℕ) (q : Place) : Type 0 where
  pub place : Place
  pub before : P place
  pub lengthens : lengthen o place h ≡ Some q
  pub shows : shown_of o place.state (Ran h 1) ≡ Nothing

-- n more instructions of it, each of which shows nothing
abbrev pub LengthensBy : ℕ → Opening → ℕ → Place → Place → Type 0
LengthensBy zero o h p q = q ≡ p
LengthensBy (suc n) o h p q = ThenLengthens (λ r. LengthensBy n o h p r) o h q

-- the instruction that stands for a hart, if one does
abbrev pub instruction_of : Fetch → Option Instr
instruction_of (fetch.Instruction i) = Some i
instruction_of fetch.Absent = None
instruction_of fetch.Planted = None
instruction_of fetch.Illegal = None

abbrev pub is_done : Outcome → Bool
is_done (Done r m) = true
is_done Call = false
is_done (Trap cause) = false

-- there is an instruction, and it neither asks the environment nor traps
abbrev pub is_alone : Option Instr → Registers → Memory → Bool
is_alone None r m = false
is_alone (Some i) r m = is_done (step i r m)

-- with these registers, breakpoints and plan a hart goes on by itself
abbrev pub goes_alone : Program → List BreakEntry → Plan → Registers → Memory → Bool
goes_alone p es plan r m = is_kept plan r.pc && (not (stands r.pc es) && is_alone (instruction_at p r.pc) r m)

-- a hart goes on by itself: there is no watch and none fired, its plan stays, no enabled breakpoint stands where it is, and the instruction
-- there neither asks the environment nor traps
abbrev pub goes_on : Program → State → Hart → Bool
goes_on p s x = (length s.watches == 0) && (is_none x.course.fired && goes_alone p s.breaks x.course.plan x.regs s.memory)

-- no further instruction is taken at once: the last entry is no `Ran` of this hart, or it may not move, or it doesn't go on by itself
abbrev pub GoesNoFurther : Opening → ℕ → Place → Type 0
GoesNoFurther o h p = (x : Hart) → slice_get p.state.harts h ≡ Some x → is_number p.prev h ≡ true → may_move o p.state x ≡ true → goes_on o.image p.state x ≡ false

-- one such instruction of registers and a memory
pub record ThenGoes (P : Registers → Memory → Type 0) (p : Program) (es : List BreakEntry) (plan : Plan) (new : Registers) (m : Memory) : Type 0 where
  pub regs : Registers
  pub memory : Memory
  pub before : P regs memory
  pub kept : is_kept plan regs.pc ≡ true
  pub clear : stands regs.pc es ≡ false
  pub gives : plain p regs memory ≡ Goes new m [] Stays

-- n of them
abbrev pub AllGo : ℕ → Program → List BreakEntry → Plan → Registers → Memory → Registers → Memory → Type 0
AllGo zero p es plan old m new m' = (new ≡ old) × (m' ≡ m)
AllGo (suc n) p es plan old m new m' = ThenGoes (λ r k. AllGo n p es plan old m r k) p es plan new m'

-- a hart that may move, without a watch; none where it isn't so, or it isn't there
abbrev pub Unwatched : Option Hart → Opening → State → ℕ → Type 0
Unwatched (Some x) o s h = (slice_get s.harts h ≡ Some x) × (may_move o s x ≡ true) × (length s.watches ≡ 0) × (x.course.fired ≡ None)
Unwatched None o s h = (x : Hart) → slice_get s.harts h ≡ Some x → may_move o s x ≡ true → (p : Program) → goes_on p s x ≡ false

-- a hart that went on by itself, and has these registers
abbrev pub gone_on : Hart → Registers → Hart
gone_on x r = record x { regs = r; course = after_instruction None None x.course }
