-- Finite maps of bytes, made from a function of the address.
use Rattle.std.specs.Prelude.{ℕ, zero, suc, Bool, Option, Some, None, refl}
use Rattle.std.specs.Coded.{Coded, code_by, coded×, coded_ℕ, coded_bool}
use Rattle.std.specs.FinMap as map
use Rattle.rv_exec.specs.Memory.{Memory, Byte}

abbrev pub byte_code : Coded Byte
byte_code = code_by (ℕ × Bool) (coded× coded_ℕ coded_bool) (λ b. (b.value, b.is_writable)) (λ p. record { value = p.0; is_writable = p.1 }) (λ _. refl)

abbrev pub memory_code : Coded Memory
memory_code = map.code coded_ℕ byte_code

-- the map with this byte at the address, if there is one
abbrev pub with_some : Memory → ℕ → Option Byte → Memory
with_some m addr None = m
with_some m addr (Some b) = map.insert m addr b

-- the map whose byte at each address below n is what the function gives
unfoldable pub memory_below : (ℕ → Option Byte) → ℕ → Memory
memory_below f zero = map.empty
memory_below f (suc n) = with_some (memory_below f n) n (f n)
