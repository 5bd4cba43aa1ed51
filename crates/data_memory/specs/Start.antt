-- What memory holds before the first instruction: the segments of a file (gABI, "Program Loading"), and stacks, whose
-- places are this project's own.
use Rattle.std.specs.Prelude.{ℕ, zero, suc, ◌-◌, ◌*◌, ◌^◌, ◌||◌, Bool, true, false, List, find, Option, Some, None, if◌then◌else◌}
use Rattle.std.specs.Option.{option_map}
use Rattle.rv_exec.specs.Memory.{Memory, Byte}
use Rattle.elf32_read.specs.Fields.{spans}
use Rattle.elf32_read.specs.Program.{Program, Segment, in_segment, byte_of, is_writable, in_text}
use Rattle.data_memory.specs.Maps.{memory_below}

-- the address above a hart's stack, which is its stack pointer at the start
abbrev pub stack_top : ℕ → ℕ
stack_top hart = 0xF0000000 - hart * 0x20000

abbrev pub in_stack : ℕ → ℕ → Bool
in_stack addr hart = spans (stack_top hart - 65536) 65536 addr

-- whether an address is in the stack of one of the first harts
abbrev pub in_stacks : ℕ → ℕ → Bool
in_stacks addr zero = false
in_stacks addr (suc hart) = in_stack addr hart || in_stacks addr hart

-- the byte of the first segment at an address; zero past its file part
abbrev pub segment_data : ℕ → Segment → Byte
segment_data addr s = record { value = byte_of addr s; is_writable = is_writable s }

abbrev pub data_byte : List Segment → ℕ → Option Byte
data_byte segments addr = option_map (segment_data addr) (find (in_segment addr) segments)

-- text is no data
abbrev pub image_byte : Program → ℕ → Option Byte
image_byte p addr = if in_text p addr then None else data_byte p.segments addr

-- a stack's bytes are zero and writable
abbrev pub start_byte : Program → ℕ → ℕ → Option Byte
start_byte p harts addr = if in_stacks addr harts then Some (record { value = 0; is_writable = true }) else image_byte p addr

-- data and stacks of that many harts
abbrev pub start_memory : Program → ℕ → Memory
start_memory p harts = memory_below (start_byte p harts) (2 ^ 32)
