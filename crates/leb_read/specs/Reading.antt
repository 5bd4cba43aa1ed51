-- Readings, step by step: the first fault that is met is the answer. This project's own.
use Rattle.std.specs.Prelude.{◌≡◌, ℕ, List, Result, Ok, Err}
use Rattle.std.specs.Borrow.{Bor}

-- a value and the place behind it, or a fault
abbrev pub Reading : Type 0 → Type 0 → Type 0
Reading Fault A = Result (A × ℕ) Fault

abbrev pub found : {A Fault : Type 0} → A → ℕ → Reading Fault A
found value next = Ok (value, next)

-- the rest of a reading, behind a step
infixl 10 ◌>>=◌
abbrev pub ◌>>=◌ : {A B Fault : Type 0} → Result A Fault → (A → Result B Fault) → Result B Fault
Ok x >>= f = f x
Err e >>= f = Err e

-- the same with the fault in other words
abbrev pub or_fault : {A Fault Other : Type 0} → (Fault → Other) → Result A Fault → Result A Other
or_fault f (Ok x) = Ok x
or_fault f (Err e) = Err (f e)

-- another value, found by that which is read
abbrev pub read_map : {A B Fault : Type 0} → (A → B) → Reading Fault A → Reading Fault B
read_map f (Ok r) = found (f r.0) r.1
read_map f (Err e) = Err e

-- what a reader that lends bytes gives
abbrev pub GivesText : {Fault : Type 0} → Reading Fault (Bor (List ℕ)) → Reading Fault (List ℕ) → Type 0
GivesText (Ok p) read = read ≡ found p.0.now p.1
GivesText (Err e) read = read ≡ Err e
