-- The registers of a hart, as numbers below 2 ^ 32 (RISC-V Unprivileged ISA, "Programmers' Model for Base Integer ISA").
use Rattle.std.specs.Prelude.{ℕ, ◌+◌, ◌%◌, ◌^◌, List, slice_index, slice_set, ◌==◌, if◌then◌else◌}

pub record Registers : Type 0 where
  pub x : List ℕ
  pub pc : ℕ

-- register 0 reads 0
abbrev pub get : Registers → ℕ → ℕ
get r n = if n == 0 then 0 else slice_index r.x n

-- a write to register 0 is dropped
abbrev pub set : Registers → ℕ → ℕ → Registers
set r n value = if n == 0 then r else record { x = slice_set r.x n value; pc = r.pc }

abbrev pub set_pc : Registers → ℕ → Registers
set_pc r value = record { x = r.x; pc = value }

-- a sum modulo 2 ^ 32
abbrev pub plus : ℕ → ℕ → ℕ
plus a b = (a + b) % 2 ^ 32

-- pc goes on by one word
abbrev pub next : Registers → Registers
next r = set_pc r (plus r.pc 4)
