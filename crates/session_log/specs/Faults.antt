-- This project's own: which faults a line of a text has, by the lines in front of it, and the first line that has one.
use Rattle.std.specs.Prelude.{◌≡◌, ◌≢◌, ℕ, ◌+◌, ◌<◌, ◌≤◌, ◌⊎◌, true, false, List, [], ◌∷◌, ◌++◌, length, count_by, Result, Ok, Err}
use Rattle.dbg_traits.specs.declared.settings.Settings.{Settings}
use Rattle.session_log.specs.declared.fault.FaultKind.{FaultKind}
use Rattle.session_log.specs.declared.fault.FaultKind.TheVariants.{Line, Order, End}
use Rattle.session_log.specs.declared.fault.LogFault.{LogFault}
use Rattle.session_log.specs.declared.fault.LogReadError.{LogReadError}
use Rattle.session_log.specs.declared.fault.LogReadError.TheVariants as errors
use Rattle.session_log.specs.declared.row.LogRow.{LogRow}
use Rattle.session_log.specs.declared.row.LogRow.TheVariants as rows
use Rattle.session_log.specs.declared.log.Log.{Log}
use Rattle.session_log.specs.Rows.{Spells}
use Rattle.session_log.specs.LogText.{lines, is_marked}

-- how many of these lines begin with `#`: the settings and the entries, as long as there is no fault and no end
abbrev pub marked : List (List ℕ) → ℕ
marked = count_by is_marked

-- one of these lines is an end
abbrev pub HasEnd : List (List ℕ) → Type 0
HasEnd [] = ⊥
HasEnd (l ∷ ls) = ((k : ℕ) × Spells (rows.End k) l) ⊎ HasEnd ls

-- it begins with `#` and is the line of nothing
pub record IsNoRow (line : List ℕ) : Type 0 where
  pub begins : is_marked line ≡ true
  pub none : (r : LogRow) → Spells r line → ⊥

-- it doesn't belong behind these: it has no `#` and one of them has; it is the first with `#` and no settings; it is other
-- settings; or an end is among them
pub data IsMisplaced (front : List (List ℕ)) (line : List ℕ) : Type 0 where
  unmarked : is_marked line ≡ false → 0 < marked front → IsMisplaced front line
  first : (r : LogRow) → Spells r line → ((s : Settings) → r ≡ rows.Head s → ⊥) → marked front ≡ 0 → IsMisplaced front line
  again : (s : Settings) → Spells (rows.Head s) line → 0 < marked front → IsMisplaced front line
  past : HasEnd front → IsMisplaced front line

-- it is an end with another number than that of the entries in front, which stand behind the settings
pub record IsOtherEnd (front : List (List ℕ)) (line : List ℕ) : Type 0 where
  pub number : ℕ
  pub spelled : Spells (rows.End number) line
  pub other : number + 1 ≢ marked front

abbrev pub HasFault : List (List ℕ) → List ℕ → FaultKind → Type 0
HasFault front line Line = IsNoRow line
HasFault front line Order = IsMisplaced front line
HasFault front line End = IsOtherEnd front line

abbrev pub fault_number : FaultKind → ℕ
fault_number Line = 1
fault_number Order = 2
fault_number End = 3

-- the least of its faults
pub record IsLeast (front : List (List ℕ)) (line : List ℕ) (k : FaultKind) : Type 0 where
  pub has : HasFault front line k
  pub least : (m : FaultKind) → HasFault front line m → fault_number k ≤ fault_number m

-- none of these lines has a fault, behind those in front
abbrev pub AreFaultless : List (List ℕ) → List (List ℕ) → Type 0
AreFaultless front [] = Unit {0}
AreFaultless front (l ∷ ls) = ((k : FaultKind) → HasFault front l k → ⊥) × AreFaultless (front ++ l ∷ []) ls

-- behind these lines: the least fault of the next, or the end of a text that has no end
pub data Follows (front : List (List ℕ)) (all : List (List ℕ)) (k : FaultKind) : Type 0 where
  at_line : (line : List ℕ) (more : List (List ℕ)) → all ≡ front ++ line ∷ more → IsLeast front line k → Follows front all k
  at_end : all ≡ front → k ≡ End → (HasEnd front → ⊥) → Follows front all k

-- the first line that has a fault, and the least of its faults
pub record IsFirstFault (bytes : List ℕ) (f : LogFault) : Type 0 where
  pub front : List (List ℕ)
  pub faultless : AreFaultless [] front
  pub line : f.line ≡ length front + 1
  pub follows : Follows front (lines bytes) f.kind

abbrev pub TellsFault : List ℕ → Result Log LogReadError → Type 0
TellsFault bytes (Ok log) = AreFaultless [] (lines bytes)
TellsFault bytes (Err errors.NoMemory) = Unit {0}
TellsFault bytes (Err (errors.Fault f)) = IsFirstFault bytes f
