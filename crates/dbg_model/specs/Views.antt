-- What is seen of a hart: its registers, and the bytes of memory with the program's text. This project's own.
use Rattle.std.specs.Prelude.{ℕ, Option, Some, None, if◌then◌else◌, nat_lt}
use Rattle.rv_exec.specs.Registers.{Registers, get, set_pc}
use Rattle.rv_exec.specs.Memory.{Memory}
use Rattle.elf32_read.specs.Program.{Program, in_text, mapped}
use Rattle.data_memory.specs.Ranges.{value_at}

-- a register by its number; 32 is pc
abbrev pub register : Registers → ℕ → ℕ
register r n = if nat_lt n 32 then get r n else r.pc

-- registers that show this pc, or their own
abbrev pub shown_at : Registers → Option ℕ → Registers
shown_at r None = r
shown_at r (Some pc) = set_pc r pc

-- a byte as it is shown: text as the file has it, and data as it is now
abbrev pub shown_byte : Program → Memory → ℕ → Option ℕ
shown_byte p m addr = if in_text p addr then mapped p addr else value_at m addr
