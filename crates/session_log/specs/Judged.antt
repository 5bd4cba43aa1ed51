-- A text, judged as it is read, line by line: what it is the log of, or its first fault (`Faults`, `Found`). This project's own.
use Rattle.std.specs.Prelude.{◌≡◌, ℕ, ◌+◌, ◌⊎◌, true, false, ◌==◌, List, [], ◌∷◌, ◌++◌, length, Result, Ok, Err, if◌then◌else◌}
use Rattle.session_log.specs.declared.fault.FaultKind.{FaultKind}
use Rattle.session_log.specs.declared.fault.FaultKind.TheVariants.{Line, Order, End}
use Rattle.session_log.specs.declared.fault.LogFault.{LogFault}
use Rattle.session_log.specs.declared.fault.LogReadError.{LogReadError}
use Rattle.session_log.specs.declared.fault.LogReadError.TheVariants as faults
use Rattle.session_log.specs.declared.fault.Refusal.{Refusal}
use Rattle.session_log.specs.declared.fault.Refusal.TheVariants as refusals
use Rattle.session_log.specs.declared.row.LogRow.{LogRow}
use Rattle.session_log.specs.declared.row.LogRow.TheVariants as rows
use Rattle.session_log.specs.declared.log.Log.{Log}
use Rattle.session_log.specs.declared.log.State.{State}
use Rattle.session_log.specs.declared.log.State.TheVariants.{Before, Inside, After}
use Rattle.session_log.specs.Rows.{Spells}
use Rattle.session_log.specs.LogText.{lines, is_marked}

-- what reading one line's row gives
abbrev pub ReadsRow : List ℕ → Result LogRow Refusal → Type 0
ReadsRow line (Ok r) = Spells r line
ReadsRow line (Err refusals.NoMemory) = Unit {0}
ReadsRow line (Err (refusals.Kind k)) = (k ≡ Line) × ((r : LogRow) → Spells r line → ⊥)

-- the length of the lines before the first with `#`, as long as none came
abbrev pub so_far : State → ℕ
so_far (Before n) = n
so_far (Inside n s j) = 0
so_far (After n s j) = 0

-- a line without `#` stands before all with one
abbrev pub unmarked : State → List ℕ → Result State FaultKind
unmarked (Before n) line = Ok (Before (n + length line))
unmarked (Inside n s j) line = Err Order
unmarked (After n s j) line = Err Order

-- settings, entries, and the end with their number; nothing behind it
abbrev pub step : State → LogRow → Result State FaultKind
step (Before n) (rows.Head s) = Ok (Inside n s [])
step (Before n) (rows.Entry e) = Err Order
step (Before n) (rows.End k) = Err Order
step (Inside n s j) (rows.Head t) = Err Order
step (Inside n s j) (rows.Entry e) = Ok (Inside n s (j ++ e ∷ []))
step (Inside n s j) (rows.End k) = if k == length j then Ok (After n s j) else Err End
step (After n s j) r = Err Order

pub record IsPlain (s : State) (line : List ℕ) (out : Result State FaultKind) : Type 0 where
  pub plain : is_marked line ≡ false
  pub is : out ≡ unmarked s line

pub record IsRow (s : State) (line : List ℕ) (out : Result State FaultKind) : Type 0 where
  pub row : LogRow
  pub marked : is_marked line ≡ true
  pub spelled : Spells row line
  pub is : out ≡ step s row

pub record IsNone (s : State) (line : List ℕ) (out : Result State FaultKind) : Type 0 where
  pub marked : is_marked line ≡ true
  pub none : (r : LogRow) → Spells r line → ⊥
  pub is : out ≡ Err Line

-- what a line does: the least fault that it has in this state, or the state behind it
abbrev pub Takes : State → List ℕ → Result State FaultKind → Type 0
Takes s line out = IsPlain s line out ⊎ IsRow s line out ⊎ IsNone s line out

abbrev pub TakesLine : State → List ℕ → Result State Refusal → Type 0
TakesLine s line (Ok t) = Takes s line (Ok t)
TakesLine s line (Err refusals.NoMemory) = Unit {0}
TakesLine s line (Err (refusals.Kind k)) = Takes s line (Err k)

abbrev pub Answers : Result State FaultKind → Result State Refusal → Type 0
Answers out (Ok t) = out ≡ Ok t
Answers out (Err refusals.NoMemory) = Unit {0}
Answers out (Err (refusals.Kind k)) = out ≡ Err k

abbrev pub Outcome : Type 0
Outcome = Result Log LogFault

abbrev pub fault_at : FaultKind → ℕ → Outcome
fault_at k n = Err (record { kind = k; line = n })

-- where the text ends, at the line behind the last
abbrev pub at_end : State → ℕ → Outcome
at_end (Before t) n = fault_at End n
at_end (Inside t s j) n = fault_at End n
at_end (After t s j) n = Ok (record { settings = s; journal = j; transcript = t })

pub record GoesOn (s : State) (l : List ℕ) (later : State → Type 0) : Type 0 where
  pub next : State
  pub takes : Takes s l (Ok next)
  pub goes : later next

pub record StopsAt (s : State) (l : List ℕ) (n : ℕ) (out : Outcome) : Type 0 where
  pub kind : FaultKind
  pub takes : Takes s l (Err kind)
  pub is : out ≡ fault_at kind n

-- from this state on, at the line of this number
abbrev pub Judges : State → ℕ → List (List ℕ) → Outcome → Type 0
Judges s n [] out = out ≡ at_end s n
Judges s n (l ∷ ls) out = GoesOn s l (λ t. Judges t (n + 1) ls out) ⊎ StopsAt s l n out

-- a text is judged so
abbrev pub IsJudged : List ℕ → Outcome → Type 0
IsJudged bytes out = Judges (Before 0) 1 (lines bytes) out

abbrev pub ReadsLog : List ℕ → Result Log LogReadError → Type 0
ReadsLog bytes (Ok log) = IsJudged bytes (Ok log)
ReadsLog bytes (Err faults.NoMemory) = Unit {0}
ReadsLog bytes (Err (faults.Fault f)) = IsJudged bytes (Err f)
