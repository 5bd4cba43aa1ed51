-- The registers' names and numbers (RISC-V psABI, "Integer Register Convention"); 32 is pc.
use Rattle.std.specs.Prelude.{ℕ, ◌+◌, ◌-◌, ◌*◌, ◌==◌, ◌&&◌, Bool, false, nat_le, List, [], ◌∷◌, Option, None, Some, if◌then◌else◌}

abbrev pub between : ℕ → ℕ → ℕ → Bool
between low high n = nat_le low n && nat_le n high

-- the number that one digit spells, or two of which the first is not 0
abbrev pub number_of : List ℕ → Option ℕ
number_of [] = None
number_of (b ∷ []) = if between 48 57 b then Some (b - 48) else None
number_of (a ∷ b ∷ []) = if between 49 57 a && between 48 57 b then Some (10 * (a - 48) + (b - 48)) else None
number_of (a ∷ b ∷ c ∷ rest) = None

-- x0 to x31, a0 to a7, s0 to s11, t0 to t6
abbrev pub numbered : ℕ → ℕ → Option ℕ
numbered letter n =
    if (letter == 120) && nat_le n 31 then Some n
    else (if (letter == 97) && nat_le n 7 then Some (10 + n)
    else (if (letter == 115) && nat_le n 1 then Some (8 + n)
    else (if (letter == 115) && between 2 11 n then Some (16 + n)
    else (if (letter == 116) && nat_le n 2 then Some (5 + n)
    else (if (letter == 116) && between 3 6 n then Some (25 + n)
    else None)))))

-- ra, sp, gp, tp, fp, pc
abbrev pub two_letters : ℕ → ℕ → Option ℕ
two_letters a b =
    if (a == 114) && (b == 97) then Some 1
    else (if (a == 115) && (b == 112) then Some 2
    else (if (a == 103) && (b == 112) then Some 3
    else (if (a == 116) && (b == 112) then Some 4
    else (if (a == 102) && (b == 112) then Some 8
    else (if (a == 112) && (b == 99) then Some 32
    else None)))))

abbrev pub lettered : ℕ → List ℕ → Option ℕ
lettered a [] = None
lettered a (b ∷ []) = two_letters a b
lettered a (b ∷ c ∷ rest) = None

-- a letter and its number, or two letters
abbrev pub by_letter : ℕ → List ℕ → Option ℕ → Option ℕ
by_letter a digits None = lettered a digits
by_letter a digits (Some n) = numbered a n

abbrev pub is_zero : List ℕ → Bool
is_zero (a ∷ b ∷ c ∷ d ∷ []) = (((a == 122) && (b == 101)) && (c == 114)) && (d == 111)
is_zero _ = false

abbrev pub register_number : List ℕ → Option ℕ
register_number [] = None
register_number (a ∷ digits) = if is_zero (a ∷ digits) then Some 0 else by_letter a digits (number_of digits)
