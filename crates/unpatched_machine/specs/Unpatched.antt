-- The unpatched machine as one value, and its steps.
use Rattle.std.specs.Prelude.{◌≡◌, ℕ, false, List, map, MatchOption, Some, slice_get, slice_set}
use Rattle.rv_exec.specs.declared.effect.Stepped.{Stepped}
use Rattle.rv_exec.specs.declared.effect.Stepped.TheVariants as stepped
use Rattle.rv_exec.specs.Registers.{Registers}
use Rattle.rv_exec.specs.Memory.{Memory}
use Rattle.elf32_read.specs.Program.{Program}
use Rattle.plain_machine.specs.Answers.{StepGives}
use Rattle.plain_machine.specs.Plain.{plain}
use Rattle.plain_machine.specs.PlainRun.{PlainHart, PlainState, Step, plain_start, take_item}

-- a program, the registers of each hart, and the bytes that they share
pub record Unpatched : Type 0 where
  pub program : Program
  pub harts : List Registers
  pub memory : Memory

abbrev pub registers_of : PlainHart → Registers
registers_of x = x.regs

-- the registers and the memory in which a run begins
abbrev pub started : Program → ℕ → Unpatched
started p harts =
    let s = plain_start p harts in
    record { program = p; harts = map registers_of s.harts; memory = s.memory }

-- one hart and the memory change, as one plain instruction says, and nothing else
pub record PlainStepsTo (s : Stepped) (old : Unpatched) (h : ℕ) (r : Registers) (new : Unpatched) : Type 0 where
  pub regs : Registers
  pub memory : Memory
  pub gives : StepGives s (plain old.program r old.memory) r regs old.memory memory
  pub machine : new ≡ record old { harts = slice_set old.harts h regs; memory = memory }

-- a step of hart h
abbrev pub PlainSteps : Stepped → Unpatched → ℕ → Unpatched → Type 0
PlainSteps s old h new = (r : Registers) → slice_get old.harts h ≡ Some r → PlainStepsTo s old h r new

-- the machine has the registers and the memory of a state of a run
pub record Shows (m : Unpatched) (s : PlainState) : Type 0 where
  pub harts : map registers_of s.harts ≡ m.harts
  pub memory : s.memory ≡ m.memory

abbrev pub IsTrap : Stepped → Type 0
IsTrap stepped.Ran = ⊥
IsTrap (stepped.Wrote addr len) = ⊥
IsTrap (stepped.HartExit code) = ⊥
IsTrap (stepped.AllExit code) = ⊥
IsTrap stepped.Hit = ⊥
IsTrap (stepped.Trap cause) = Unit {0}

-- a run takes a step of a hart that is there as the machine does, and ends where the step traps
abbrev pub GoesOn : Stepped → Unpatched → ℕ → Unpatched → Type 0
GoesOn s old h new =
    (t : PlainState) (x : PlainHart) → Shows old t → slice_get t.harts h ≡ Some x → x.has_exited ≡ false
    → MatchOption (take_item old.program t (Step h)) (IsTrap s) (λ u. Shows new u)
