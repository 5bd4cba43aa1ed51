-- The fix of a copied step, and its law. AUIPC and JAL make rd and pc from pc, JALR rd alone, a branch pc alone (RISC-V
-- Unprivileged ISA, "Control Transfer Instructions" and AUIPC of "Integer Computational Instructions").
use Rattle.std.specs.Prelude.{ℕ, ◌+◌, ◌-◌, ◌%◌, ◌^◌, ◌<◌, ◌≡◌, Bool, true, false}
use Rattle.rv_decode.specs.declared.instr.Instr.{Instr}
use Rattle.rv_decode.specs.declared.instr.Instr.TheVariants.{Lui, Auipc, Jal, Jalr, Branch, Load, Store, OpImm, Op, MulDiv, Amo, Fence, FenceI, Ecall, Ebreak}
use Rattle.rv_exec.specs.Registers.{Registers, get, set, set_pc, plus}
use Rattle.rv_exec.specs.Memory.{Memory}
use Rattle.rv_exec.specs.Step.{Outcome, Done, Call, Trap, step}

-- `home - slot`, modulo 2 ^ 32
abbrev pub distance : ℕ → ℕ → ℕ
distance slot home = (home + (2 ^ 32 - slot)) % 2 ^ 32

-- the register and the distance are added
abbrev pub moved_register : Registers → ℕ → ℕ → Registers
moved_register r rd by = set r rd (plus (get r rd) by)

abbrev pub moved_pc : Registers → ℕ → Registers
moved_pc r by = set_pc r (plus r.pc by)

-- after a copy that ran; each instruction but JALR leaves a pc that is counted from the copy's
abbrev pub fix_ran : Instr → ℕ → Registers → Registers
fix_ran (Auipc rd imm) by r = moved_pc (moved_register r rd by) by
fix_ran (Jal rd imm) by r = moved_pc (moved_register r rd by) by
fix_ran (Jalr rd rs1 imm) by r = moved_register r rd by
fix_ran (Lui rd imm) by r = moved_pc r by
fix_ran (Branch op rs1 rs2 imm) by r = moved_pc r by
fix_ran (Load op rd rs1 imm) by r = moved_pc r by
fix_ran (Store op rs1 rs2 imm) by r = moved_pc r by
fix_ran (OpImm op rd rs1 imm) by r = moved_pc r by
fix_ran (Op op rd rs1 rs2) by r = moved_pc r by
fix_ran (MulDiv op rd rs1 rs2) by r = moved_pc r by
fix_ran (Amo op rd rs1 rs2) by r = moved_pc r by
fix_ran Fence by r = moved_pc r by
fix_ran FenceI by r = moved_pc r by
fix_ran Ecall by r = moved_pc r by
fix_ran Ebreak by r = moved_pc r by

abbrev pub fix : Instr → ℕ → ℕ → Registers → Bool → Registers
fix i slot home r true = fix_ran i (distance slot home) r
fix i slot home r false = set_pc r home

-- a step at the slot, and then its fix where it didn't trap
abbrev pub outcome_at_home : Instr → ℕ → ℕ → Outcome → Outcome
outcome_at_home i slot home (Done r m) = Done (fix i slot home r true) m
outcome_at_home i slot home Call = Call
outcome_at_home i slot home (Trap cause) = Trap cause

-- an address of a word
pub record IsWordAddress (a : ℕ) : Type 0 where
  pub fits : a < 2 ^ 32
  pub aligned : a % 4 ≡ 0

-- The step at the slot and its fix are the step at home: the same registers, memory and cause. After a call the fix
-- gives the registers at home, and after a trap the fix of an instruction that didn't run does.
pub record StepsAlike (i : Instr) (r : Registers) (m : Memory) (slot home : ℕ) : Type 0 where
  pub alike : outcome_at_home i slot home (step i (set_pc r slot) m) ≡ step i (set_pc r home) m
  pub call : step i (set_pc r slot) m ≡ Call → fix i slot home (set_pc r slot) true ≡ set_pc r home
  pub trap : fix i slot home (set_pc r slot) false ≡ set_pc r home

abbrev pub CopiedStepIsHome : Type 0
CopiedStepIsHome =
    (i : Instr) (r : Registers) (m : Memory) (slot home : ℕ) →
    IsWordAddress slot → IsWordAddress home → StepsAlike i r m slot home
