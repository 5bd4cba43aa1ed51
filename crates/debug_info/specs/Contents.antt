-- The units of a section, one after another, and what each gives. This project's own.
use Rattle.std.specs.Prelude.{ℕ, zero, suc, ◌+◌, ◌≤◌, nat_le, List, [], ◌∷◌, ◌++◌, length, take, Option, None, Some, Result, Ok, Err, if◌then◌else◌}
use Rattle.std.specs.List.{flat_map}
use Rattle.debug_info.specs.Units.{unit_end, unit_entries}
use Rattle.debug_info.specs.declared.entry.Entry.{Entry}
use Rattle.debug_info.specs.declared.fault.InfoFault.{InfoFault}
use Rattle.debug_info.specs.declared.fault.UnitFault.{UnitFault}
use Rattle.debug_info.specs.declared.header.Span.{Span}

abbrev pub fault_at : ℕ → InfoFault → UnitFault
fault_at at e = record { offset = record { at = at }; fault = e }

-- a unit in front of those behind it; one that passes the section is the last, and gives its fault alone
abbrev pub and_behind : ℕ → (ℕ → List Span × Option UnitFault) → Result ℕ InfoFault → List Span × Option UnitFault
and_behind at rest (Ok end) = (record { at = at; end = end } ∷ (rest end).0, (rest end).1)
and_behind at rest (Err e) = ([], Some (fault_at at e))

-- the units from a place on, of which there are no more than bytes
abbrev pub spans_from : ℕ → List ℕ → ℕ → List Span × Option UnitFault
spans_from zero info at = ([], None)
spans_from (suc most) info at = if nat_le (length info) at then ([], None) else and_behind at (spans_from most info) (unit_end info at)

-- where the units stand, and the fault of one that passes the section
unfoldable pub spans_of : List ℕ → List Span × Option UnitFault
spans_of info = spans_from (length info + 1) info 0

-- a unit's length and its bytes are the section's
pub record IsSpan (info : List ℕ) (span : Span) : Type 0 where
  pub header : span.at + 4 ≤ span.end
  pub within : span.end ≤ length info

-- what the entries of a unit are, or its first fault
abbrev pub spanned : List ℕ → List ℕ → List ℕ → Span → Result (List Entry) InfoFault
spanned abbrevs strs info span = unit_entries abbrevs strs (take span.end info) span.at

-- a unit with a fault gives no entries
abbrev pub entries_or_none : Result (List Entry) InfoFault → List Entry
entries_or_none (Ok entries) = entries
entries_or_none (Err e) = []

abbrev pub entries_given : List ℕ → List ℕ → List ℕ → Span → List Entry
entries_given abbrevs strs info span = entries_or_none (spanned abbrevs strs info span)

abbrev pub faults_at : ℕ → Result (List Entry) InfoFault → List UnitFault
faults_at at (Ok entries) = []
faults_at at (Err e) = fault_at at e ∷ []

abbrev pub faults_given : List ℕ → List ℕ → List ℕ → Span → List UnitFault
faults_given abbrevs strs info span = faults_at span.at (spanned abbrevs strs info span)

abbrev pub fault_list : Option UnitFault → List UnitFault
fault_list None = []
fault_list (Some fault) = fault ∷ []

-- the first fault of each unit that has one
abbrev pub all_faults : List ℕ → List ℕ → List ℕ → List UnitFault
all_faults abbrevs strs info = flat_map (faults_given abbrevs strs info) (spans_of info).0 ++ fault_list (spans_of info).1
