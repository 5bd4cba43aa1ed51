-- The fields of an instruction word as whole numbers, and the immediates of the I, S, B, U and J formats (RISC-V
-- Unprivileged ISA, "Base Instruction Formats" and "Immediate Encoding Variants").
use Rattle.std.specs.Prelude.{ℕ, ◌+◌, ◌-◌, ◌*◌, ◌/◌, ◌%◌, ◌^◌, nat_lt, if◌then◌else◌}

-- the number in `count` bits of the word, from bit `low` up
unfoldable pub bits : ℕ → ℕ → ℕ → ℕ
bits low count word = word / 2 ^ low % 2 ^ count

-- a number of k bits, read as signed and taken modulo 2 ^ 32
abbrev pub sign_extended : ℕ → ℕ → ℕ
sign_extended k n = if nat_lt n (2 ^ (k - 1)) then n else n + (2 ^ 32 - 2 ^ k)

abbrev pub imm_i : ℕ → ℕ
imm_i word = sign_extended 12 (bits 20 12 word)

abbrev pub imm_s : ℕ → ℕ
imm_s word = sign_extended 12 (bits 25 7 word * 2 ^ 5 + bits 7 5 word)

abbrev pub imm_b : ℕ → ℕ
imm_b word = sign_extended 13 (bits 31 1 word * 2 ^ 12 + bits 7 1 word * 2 ^ 11 + bits 25 6 word * 2 ^ 5 + bits 8 4 word * 2)

abbrev pub imm_u : ℕ → ℕ
imm_u word = bits 12 20 word * 2 ^ 12

abbrev pub imm_j : ℕ → ℕ
imm_j word = sign_extended 21 (bits 31 1 word * 2 ^ 20 + bits 12 8 word * 2 ^ 12 + bits 20 1 word * 2 ^ 11 + bits 21 10 word * 2)
