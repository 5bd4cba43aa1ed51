-- What a program asks of its environment by ECALL (RISC-V unprivileged ISA, "Environment Call and Breakpoints";
-- the numbers and errors are those of Linux on RISC-V).
use Rattle.std.specs.Prelude.{ℕ, ◌-◌, ◌%◌, ◌^◌, ◌==◌, ◌||◌, Bool, List, [], length, min, Option, Some, None, if◌then◌else◌}
use Rattle.rv_exec.specs.declared.effect.Cause.{Cause}
use Rattle.rv_exec.specs.Registers.{Registers, get, set, next}
use Rattle.rv_exec.specs.Memory.{Memory}
use Rattle.data_memory.specs.Ranges.{bytes_at}

-- whether harts exit, and with which code
pub data Leave : Type 0 where
  Stays : Leave
  LeavesAlone : (code : ℕ) → Leave
  LeavesAll : (code : ℕ) → Leave

-- what one instruction does: it traps; or it gives registers, memory, the bytes that it wrote, and whether harts exit
pub data Answer : Type 0 where
  Traps : (cause : Cause) → Answer
  Goes : (r : Registers) (m : Memory) (out : List ℕ) (leave : Leave) → Answer

-- a0 gets the value, and pc goes on
abbrev pub answered : Registers → ℕ → Registers
answered r value = next (set r 10 value)

-- an error as the word of a negative number
abbrev pub negative : ℕ → ℕ
negative n = 2 ^ 32 - n

-- standard output and standard error
abbrev pub is_output : ℕ → Bool
is_output fd = (fd == 1) || (fd == 2)

abbrev pub wrote : Registers → Memory → Option (List ℕ) → Answer
wrote r m None = Goes (answered r (negative 14)) m [] Stays
wrote r m (Some bytes) = Goes (answered r (length bytes)) m bytes Stays

-- write: a0 is the file, a1 the address, a2 the length, of which at most 4,096 bytes are written
abbrev pub write : Registers → Memory → Answer
write r m =
    if is_output (get r 10) then wrote r m (bytes_at m (get r 11) (min (get r 12) 4096))
    else Goes (answered r (negative 9)) m [] Stays

-- a7 is the number of the call: 64 write, 93 exit of this hart, 94 exit of all; no other call is there
unfoldable pub call : Registers → Memory → Answer
call r m =
    if get r 17 == 64 then write r m
    else (if get r 17 == 93 then Goes (next r) m [] (LeavesAlone (get r 10 % 256))
    else (if get r 17 == 94 then Goes (next r) m [] (LeavesAll (get r 10 % 256))
    else Goes (answered r (negative 38)) m [] Stays))
