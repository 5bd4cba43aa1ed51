-- What reading a C string gives: this project's own.
use Rattle.std.specs.Prelude.{◌≡◌, ℕ, List, Option, Some, None, Result, Ok, Err}
use Rattle.std.specs.Borrow.{Bor}
use Rattle.std.specs.Global.{Vec}
use Rattle.mi_text.specs.declared.fault.ReadFault.{ReadFault}
use Rattle.mi_text.specs.declared.fault.ReadFault.TheVariants.{NoMemory, Text}
use Rattle.mi_text.specs.Escape.{Symbol, symbol, IsText}

-- a reader of one byte
abbrev pub GivesSymbol : Option (ℕ × Bor (List ℕ)) → Symbol → Type 0
GivesSymbol None read = read ≡ None
GivesSymbol (Some p) read = read ≡ symbol p.0 p.1.now

-- behind the opening `"`: the text and the rest, or that no text stands there
abbrev pub ReadsText : List ℕ → Result (Vec ℕ × Bor (List ℕ)) ReadFault → Type 0
ReadsText bytes (Ok r) = IsText bytes r.0.items r.1.now
ReadsText bytes (Err NoMemory) = Unit {0}
ReadsText bytes (Err Text) = (text rest : List ℕ) → IsText bytes text rest → ⊥

-- a reader gives this text and this rest, unless out of memory
abbrev pub GivesText : List ℕ → List ℕ → Result (Vec ℕ × Bor (List ℕ)) ReadFault → Type 0
GivesText text rest (Ok r) = (r.0.items ≡ text) × (r.1.now ≡ rest)
GivesText text rest (Err NoMemory) = Unit {0}
GivesText text rest (Err Text) = ⊥
