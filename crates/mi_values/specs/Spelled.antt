-- What reading a C string in its one spelling gives: the text and the rest, or that none stands there. This project's own.
use Rattle.std.specs.Prelude.{◌≡◌, ℕ, List, ◌++◌, Result, Ok, Err}
use Rattle.std.specs.Borrow.{Bor}
use Rattle.std.specs.Global.{Vec}
use Rattle.mi_text.specs.declared.fault.ReadFault.{ReadFault}
use Rattle.mi_text.specs.declared.fault.ReadFault.TheVariants.{NoMemory, Text}
use Rattle.mi_text.specs.CString.{AreBytes, c_string}

abbrev pub ReadsText : List ℕ → Result (Vec ℕ × Bor (List ℕ)) ReadFault → Type 0
ReadsText bytes (Ok r) = (bytes ≡ c_string r.0.items ++ r.1.now) × AreBytes r.0.items
ReadsText bytes (Err NoMemory) = Unit {0}
ReadsText bytes (Err Text) = (text rest : List ℕ) → AreBytes text → bytes ≡ c_string text ++ rest → ⊥
