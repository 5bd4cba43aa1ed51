-- Numbers in memory, little-endian and at any address (RISC-V Unprivileged ISA, "Load and Store Instructions").
use Rattle.std.specs.Prelude.{ℕ, zero, suc, ◌+◌, ◌*◌, ◌%◌, ◌^◌, Option, None, Some, Result, Ok, Err}

-- a byte, and above it the number that the bytes behind it are; without the byte its address
abbrev pub low_first : ℕ → Option ℕ → Result ℕ ℕ → Result ℕ ℕ
low_first addr None high = Err addr
low_first addr (Some low) (Ok high) = Ok (low + 2 ^ 8 * high)
low_first addr (Some low) (Err unmapped) = Err unmapped

-- the number in so many bytes from an address on, or the first address of them that has none; addresses go on modulo 2 ^ 32
unfoldable pub number_at : (ℕ → Option ℕ) → ℕ → ℕ → Result ℕ ℕ
number_at bytes zero addr = Ok 0
number_at bytes (suc count) addr = low_first addr (bytes addr) (number_at bytes count ((addr + 1) % 2 ^ 32))
