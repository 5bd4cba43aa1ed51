-- What was done and said when input was asked for. This project's own.
use Rattle.std.specs.Prelude.{◌≡◌, ◌≤◌, ℕ, zero, suc, ◌+◌, ◌==◌, Bool, true, false, cond, List, [], ◌∷◌, length, take, Option, IfSome}
use Rattle.dbg_traits.specs.Told.{Ask}
use Rattle.dbg_model.specs.declared.entry.Entry.{Entry}
use Rattle.dbg_model.specs.declared.entry.Entry.TheVariants.{Ran, Counted, Stopped, Left, Did, Poked}
use Rattle.dbg_model.specs.declared.opening.Opening.{Opening}
use Rattle.dbg_model.specs.State.{State, any_runs}
use Rattle.dbg_model.specs.Journals.{Leaves, did}
use Rattle.mi_reports.specs.Said.{said}

-- how many line feeds there are
abbrev pub feeds : List ℕ → ℕ
feeds [] = 0
feeds (b ∷ bs) = cond (b == 10) 1 0 + feeds bs

-- the entries up to and with the n-th line
abbrev pub through : ℕ → List Entry → List Entry
through zero es = []
through (suc n) [] = []
through (suc n) (Ran h count ∷ es) = Ran h count ∷ through (suc n) es
through (suc n) (Counted h ∷ es) = Counted h ∷ through (suc n) es
through (suc n) (Stopped h why ∷ es) = Stopped h why ∷ through (suc n) es
through (suc n) (Left h code ∷ es) = Left h code ∷ through (suc n) es
through (suc n) (Did line ∷ es) = Did line ∷ through n es
through (suc n) (Poked p ∷ es) = Poked p ∷ through (suc n) es

-- the entries before the line that follows the n-th, or all of them
abbrev pub until : List Entry → ℕ → List Entry
until [] n = []
until (Ran h count ∷ es) n = Ran h count ∷ until es n
until (Counted h ∷ es) n = Counted h ∷ until es n
until (Stopped h why ∷ es) n = Stopped h why ∷ until es n
until (Left h code ∷ es) n = Left h code ∷ until es n
until (Poked p ∷ es) n = Poked p ∷ until es n
until (Did line ∷ es) zero = []
until (Did line ∷ es) (suc n) = Did line ∷ until es n

-- all that these entries say was written, and no hart ran behind them
pub record Waited (o : Opening) (front : List Entry) (written : Option ℕ) : Type 0 where
  pub all : IfSome written (λ w. length (said o front) ≡ w)
  pub state : State
  pub leaves : Leaves o front state
  pub still : any_runs state.harts ≡ false

-- n lines were polled when this was asked: each was done and its answer written; where it could wait, no hart ran
pub record Answered (o : Opening) (j : List Entry) (n : ℕ) (wait : Bool) (written : Option ℕ) : Type 0 where
  pub done : n ≤ length (did j)
  pub answers : IfSome written (λ w. length (said o (through n j)) ≤ w)
  pub waited : wait ≡ true → Waited o (until j n) written

-- so many bytes of these were polled when it was asked
pub record InTime (o : Opening) (j : List Entry) (polled : List ℕ) (a : Ask) (count : ℕ) : Type 0 where
  pub within : count ≤ length polled
  pub answered : Answered o j (feeds (take count polled)) a.wait a.written

abbrev pub AllInTime : Opening → List Entry → List ℕ → List Ask → Type 0
AllInTime o j polled [] = Unit {0}
AllInTime o j polled (a ∷ more) = IfSome a.polled (λ count. InTime o j polled a count) × AllInTime o j polled more

-- Each line was answered before further input was asked for, and input was waited for only while no hart ran.
abbrev pub ToldInTime : Opening → List Entry → Option (List ℕ) → Option (List Ask) → Type 0
ToldInTime o j polled asks = IfSome asks (λ xs. IfSome polled (λ bytes. AllInTime o j bytes xs))
