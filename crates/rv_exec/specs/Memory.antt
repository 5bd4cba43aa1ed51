-- Memory: a finite map from addresses to bytes, each writable or not. A misaligned access is refused before an unmapped
-- one (RISC-V Unprivileged ISA, "Load and Store Instructions"; "Atomic Memory Operations").
use Rattle.std.specs.Prelude.{ℕ, suc, zero, ◌+◌, ◌*◌, ◌/◌, ◌%◌, ◌≡◌, ◌⊎◌, Bool, true, false, ◌&&◌, ◌==◌, Option, Some, None, Result, Ok, Err, if◌then◌else◌}
use Rattle.std.specs.Ordering.{nat_cmp}
use Rattle.std.specs.FinMap as map
use Rattle.rv_decode.specs.declared.instr.AmoOp.{AmoOp}
use Rattle.rv_exec.specs.declared.effect.Cause.{Cause}
use Rattle.rv_exec.specs.declared.effect.Cause.TheVariants.{LoadFault, StoreFault, LoadAlign, StoreAlign}
use Rattle.rv_exec.specs.Arithmetic.{amo_value}

pub record Byte : Type 0 where
  pub value : ℕ
  pub is_writable : Bool

abbrev pub Memory : Type 0
Memory = map.FinMap nat_cmp Byte

-- a memory with no byte
unfoldable pub no_bytes : Memory
no_bytes = map.empty

-- a byte, a half-word or a word
abbrev pub IsLen : ℕ → Type 0
IsLen len = (len ≡ 1) ⊎ (len ≡ 2) ⊎ (len ≡ 4)

abbrev pub with_byte : Option Byte → Option ℕ → Option ℕ
with_byte None high = None
with_byte (Some b) None = None
with_byte (Some b) (Some high) = Some (b.value + 256 * high)

-- the number that `len` bytes spell, lowest first, where all are mapped
abbrev pub number_at : Memory → ℕ → ℕ → Option ℕ
number_at m addr zero = Some 0
number_at m addr (suc len) = with_byte (map.get m addr) (number_at m (addr + 1) len)

abbrev pub is_writable : Option Byte → Bool
is_writable None = false
is_writable (Some b) = b.is_writable

abbrev pub all_writable : Memory → ℕ → ℕ → Bool
all_writable m addr zero = true
all_writable m addr (suc len) = is_writable (map.get m addr) && all_writable m (addr + 1) len

-- the low `len` bytes of the value, from `addr` up
abbrev pub with_number : Memory → ℕ → ℕ → ℕ → Memory
with_number m addr zero value = m
with_number m addr (suc len) value = map.insert (with_number m (addr + 1) len (value / 256)) addr (record { value = value % 256; is_writable = true })

abbrev pub or_fault : Option ℕ → Result ℕ Cause
or_fault None = Err LoadFault
or_fault (Some n) = Ok n

-- a load of `len` bytes
unfoldable pub load : Memory → ℕ → ℕ → Result ℕ Cause
load m addr len = if addr % len == 0 then or_fault (number_at m addr len) else Err LoadAlign

-- a store of the low `len` bytes of the value
unfoldable pub store : Memory → ℕ → ℕ → ℕ → Result Memory Cause
store m addr len value =
    if addr % len == 0 then (if all_writable m addr len then Ok (with_number m addr len value) else Err StoreFault) else Err StoreAlign

-- a word that was read, and memory with what the operation makes of it
abbrev pub swapped : Memory → AmoOp → ℕ → ℕ → Option ℕ → Result (ℕ × Memory) Cause
swapped m op addr value None = Err StoreFault
swapped m op addr value (Some old) = Ok (old, with_number m addr 4 (amo_value op old value))

-- an AMO: the old word, and memory with the new one in its place
unfoldable pub amo : Memory → AmoOp → ℕ → ℕ → Result (ℕ × Memory) Cause
amo m op addr value =
    if addr % 4 == 0 then (if all_writable m addr 4 then swapped m op addr value (number_at m addr 4) else Err StoreFault) else Err StoreAlign

abbrev pub old_word : Result (ℕ × Memory) Cause → Result ℕ Cause
old_word (Ok p) = Ok p.0
old_word (Err c) = Err c

abbrev pub new_memory : Memory → Result (ℕ × Memory) Cause → Memory
new_memory m (Ok p) = p.1
new_memory m (Err c) = m

abbrev pub without_memory : Result Memory Cause → Result (Unit {0}) Cause
without_memory (Ok m) = Ok tt
without_memory (Err c) = Err c

abbrev pub memory_or : Memory → Result Memory Cause → Memory
memory_or old (Ok m) = m
memory_or old (Err c) = old
