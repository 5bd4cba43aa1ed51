-- Bytes, each as two hexadecimal digits of either case (GDB manual, "GDB/MI Data Manipulation").
use Rattle.std.specs.Prelude.{ℕ, List, [], ◌∷◌, Bool, true, false, Result, Ok, Err}
use Rattle.hex.specs.Hex.{decode_of}
use Rattle.hex.specs.declared.error.FromHexError.{FromHexError}

abbrev pub is_decoded : Result (List ℕ) FromHexError → Bool
is_decoded (Ok bytes) = true
is_decoded (Err e) = false

-- the digits of one byte or more
abbrev pub are_bytes : List ℕ → Bool
are_bytes [] = false
are_bytes (a ∷ digits) = is_decoded (decode_of (a ∷ digits))

abbrev pub decoded : Result (List ℕ) FromHexError → List ℕ
decoded (Ok bytes) = bytes
decoded (Err e) = []

-- the bytes of such digits
abbrev pub bytes_of : List ℕ → List ℕ
bytes_of digits = decoded (decode_of digits)
