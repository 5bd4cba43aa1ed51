-- What is asked of one instruction beside what it does.
use Rattle.std.specs.Prelude.{Bool, true, false, Option, Some, None}
use Rattle.rv_decode.specs.declared.instr.Instr.{Instr}
use Rattle.rv_decode.specs.declared.instr.Instr.TheVariants.{Load, Store, Amo}
use Rattle.rv_exec.specs.declared.effect.Cause.{Cause}
use Rattle.rv_exec.specs.declared.effect.Stepped.{Stepped}
use Rattle.rv_exec.specs.declared.effect.Stepped.TheVariants as stepped
use Rattle.rv_exec.specs.Step.{Outcome, Done, Call, Trap}
use Rattle.plain_machine.specs.Environment.{Answer, Traps, Goes}

-- the cause for which an instruction traps
abbrev pub trap_of : Answer → Option Cause
trap_of (Traps cause) = Some cause
trap_of (Goes r m out leave) = None

-- the same before its environment is asked
abbrev pub outcome_trap : Outcome → Option Cause
outcome_trap (Done r m) = None
outcome_trap Call = None
outcome_trap (Trap cause) = Some cause

-- loads, stores and AMOs
abbrev pub reaches_memory : Instr → Bool
reaches_memory (Load op rd rs1 imm) = true
reaches_memory (Store op rs1 rs2 imm) = true
reaches_memory (Amo op rd rs1 rs2) = true
reaches_memory _ = false

-- a fact for an instruction that output bytes
abbrev pub OnOutput : Stepped → Type 0 → Type 0
OnOutput (stepped.Wrote addr len) P = P
OnOutput _ P = Unit {0}
