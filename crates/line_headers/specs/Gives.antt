-- What a reading gives, and one into a vector. Want of memory may come. This project's own.
use Rattle.std.specs.Prelude.{◌≡◌, ℕ, List, Result, Ok, Err}
use Rattle.std.specs.Global.{Vec}
use Rattle.line_rows.specs.Reading.{Reading}
use Rattle.line_rows.specs.declared.fault.LineError.{LineError}
use Rattle.line_rows.specs.declared.fault.LineError.TheVariants as error

abbrev pub Gives : {A : Type 0} → Result (Vec A × ℕ) LineError → Reading (List A) → Type 0
Gives (Ok r) read = read ≡ Ok (r.0.items, r.1)
Gives (Err (error.Fault fault)) read = read ≡ Err fault
Gives (Err error.NoMemory) read = Unit {0}

abbrev pub Finds : {A : Type 0} → Result (A × ℕ) LineError → Reading A → Type 0
Finds (Ok r) read = read ≡ Ok r
Finds (Err (error.Fault fault)) read = read ≡ Err fault
Finds (Err error.NoMemory) read = Unit {0}
