-- One instruction of the unpatched text, and where the harts start. An instruction is that of the RISC-V Unprivileged ISA;
-- the registers at the start are this project's own.
use Rattle.std.specs.Prelude.{ℕ, [], replicate, Option, Some, None}
use Rattle.rv_decode.specs.declared.instr.Instr.{Instr}
use Rattle.rv_decode.specs.Decode.{decode}
use Rattle.rv_exec.specs.declared.effect.Cause.TheVariants.{FetchFault, Illegal}
use Rattle.rv_exec.specs.Registers.{Registers, set}
use Rattle.rv_exec.specs.Memory.{Memory}
use Rattle.rv_exec.specs.Step.{Outcome, Done, Call, Trap, step}
use Rattle.elf32_read.specs.Program.{Program, text_word}
use Rattle.data_memory.specs.Start.{stack_top}
use Rattle.plain_machine.specs.Environment.{Answer, Traps, Goes, Stays, call}

-- an ECALL goes to the environment
abbrev pub on_outcome : Registers → Memory → Outcome → Answer
on_outcome r m (Done r' m') = Goes r' m' [] Stays
on_outcome r m Call = call r m
on_outcome r m (Trap cause) = Traps cause

abbrev pub on_instruction : Registers → Memory → Option Instr → Answer
on_instruction r m None = Traps Illegal
on_instruction r m (Some i) = on_outcome r m (step i r m)

abbrev pub on_word : Registers → Memory → Option ℕ → Answer
on_word r m None = Traps FetchFault
on_word r m (Some w) = on_instruction r m (decode w)

-- the instruction at pc
unfoldable pub plain : Program → Registers → Memory → Answer
plain p r m = on_word r m (text_word p r.pc)

-- a0 is the hart's number, a1 the number of harts, and sp lies above the hart's own stack
abbrev pub first_registers : ℕ → ℕ → ℕ → Registers
first_registers entry harts h =
    set (set (set (record { x = replicate 32 0; pc = entry }) 10 h) 11 harts) 2 (stack_top h)
