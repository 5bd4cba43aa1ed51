-- Where a hart has arrived, and by what (GDB manual, "Continuing and Stepping").
use Rattle.std.specs.Prelude.{ℕ, ◌+◌, ◌%◌, ◌^◌, ◌==◌, nat_le, ◌&&◌, Bool, true, false, Option, None, Some, if◌then◌else◌}
use Rattle.rv_decode.specs.declared.instr.Instr.{Instr}
use Rattle.rv_decode.specs.declared.instr.Instr.TheVariants.{Jal, Jalr}
use Rattle.step_plans.specs.declared.arrival.Arrival.{Arrival}
use Rattle.step_plans.specs.declared.arrival.Jump.{Jump}
use Rattle.step_plans.specs.declared.arrival.Jump.TheVariants.{Call, Return, Other}
use Rattle.step_plans.specs.declared.plan.Last.{Last}

-- a call puts its return address into x1, and a return goes to x1 and puts none (RISC-V Unprivileged ISA,
-- "Unconditional Jumps")
abbrev pub jump_of : Instr → ℕ → Jump
jump_of (Jal rd imm) pc = if rd == 1 then Call ((pc + 4) % 2 ^ 32) else Other
jump_of (Jalr rd rs1 imm) pc = if rd == 1 then Call ((pc + 4) % 2 ^ 32) else (if (rd == 0) && (rs1 == 1) then Return else Other)
jump_of _ pc = Other

-- by the instruction that has just ended; one that wasn't noted is neither a call nor a return
abbrev pub jump_by : Option Last → Jump
jump_by None = Other
jump_by (Some last) = jump_of last.instruction last.address

-- the arrival of a hart with these registers
abbrev pub arrival_of : Option Last → (ℕ → ℕ) → Arrival
arrival_of last registers = record { pc = registers 32; sp = registers 2; jump = jump_by last }

-- whether a call has returned: an inner call to the same address leaves a lower stack pointer
abbrev pub is_back : ℕ → ℕ → Arrival → Bool
is_back ret sp a = (a.pc == ret) && nat_le sp a.sp
