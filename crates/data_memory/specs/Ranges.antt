-- Ranges of memory. Their addresses go on modulo 2 ^ 32 (RISC-V Unprivileged ISA, "Memory": the address
-- space is circular).
use Rattle.std.specs.Prelude.{ℕ, zero, suc, ◌+◌, ◌%◌, ◌^◌, List, [], ◌∷◌, Option, Some, None, Result, Ok, Err, true, if◌then◌else◌}
use Rattle.std.specs.Option.{option_map}
use Rattle.std.specs.Result.{result_ok}
use Rattle.std.specs.FinMap as map
use Rattle.rv_exec.specs.Memory.{Memory, is_writable}

-- the value of the byte at an address, if it is mapped
abbrev pub value_at : Memory → ℕ → Option ℕ
value_at m addr = option_map (λ b. b.value) (map.get m addr)

abbrev pub then_range : ℕ → Option ℕ → Result (List ℕ) ℕ → Result (List ℕ) ℕ
then_range addr None rest = Err addr
then_range addr (Some v) (Ok vs) = Ok (v ∷ vs)
then_range addr (Some v) (Err at) = Err at

-- the values of n bytes, or the first address in the order of reading that isn't mapped
abbrev pub range_at : Memory → ℕ → ℕ → Result (List ℕ) ℕ
range_at m addr zero = Ok []
range_at m addr (suc n) = then_range (addr % 2 ^ 32) (value_at m (addr % 2 ^ 32)) (range_at m (addr + 1) n)

-- the values of n bytes, where all are mapped
abbrev pub bytes_at : Memory → ℕ → ℕ → Option (List ℕ)
bytes_at m addr n = result_ok (range_at m addr n)

-- the first of n addresses, in the order of writing, whose byte isn't writable
abbrev pub first_unwritable : Memory → ℕ → ℕ → Option ℕ
first_unwritable m addr zero = None
first_unwritable m addr (suc n) =
    if is_writable (map.get m (addr % 2 ^ 32)) then first_unwritable m (addr + 1) n else Some (addr % 2 ^ 32)

-- another value in a writable byte
abbrev pub with_byte : Memory → ℕ → ℕ → Memory
with_byte m addr v = map.insert m addr (record { value = v; is_writable = true })

-- other values in the writable bytes from an address on
abbrev pub with_bytes : Memory → ℕ → List ℕ → Memory
with_bytes m addr [] = m
with_bytes m addr (v ∷ vs) = with_bytes (with_byte m (addr % 2 ^ 32) v) (addr + 1) vs
