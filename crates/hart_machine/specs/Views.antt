-- What a reader sees of a hart.
use Rattle.std.specs.Prelude.{ℕ, ◌-◌, ◌*◌, ◌/◌, ◌%◌, ◌^◌, ◌==◌, Option, Some, None, if◌then◌else◌}
use Rattle.std.specs.Option.{option_map}
use Rattle.rv_exec.specs.Registers.{Registers, get}
use Rattle.rv_exec.specs.Memory.{Memory}
use Rattle.data_memory.specs.Ranges.{value_at}
use Rattle.text_words.specs.Words.{Words, shown}

-- register 32 is pc
abbrev pub register : Registers → ℕ → ℕ
register r n = if n == 32 then r.pc else get r n

-- the byte of the program's word round an address, the lowest first
abbrev pub text_byte : Words → ℕ → Option ℕ
text_byte t addr = option_map (λ w. w / 2 ^ (8 * (addr % 4)) % 256) (shown t (addr - addr % 4))

abbrev pub or_text : Words → ℕ → Option ℕ → Option ℕ
or_text t addr None = text_byte t addr
or_text t addr (Some v) = Some v

-- the byte of data at an address, or that of the program's text
abbrev pub byte_seen : Memory → Words → ℕ → Option ℕ
byte_seen m t addr = or_text t addr (value_at m addr)
