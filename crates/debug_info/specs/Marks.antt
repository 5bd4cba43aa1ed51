-- What is kept of a unit's entries while it is looked through, and how each is read again. This project's own.
use Rattle.std.specs.Prelude.{◌≡◌, ℕ, ◌+◌, ◌-◌, ◌≤◌, ◌==◌, ◌||◌, ◌&&◌, nat_lt, not, Bool, List, [], ◌∷◌, ◌++◌, drop, filter, length, map, is_some, Option, None, Some, Result, Ok, Err, option_and_then, if◌then◌else◌}
use Rattle.std.specs.Borrow.{Bor}
use Rattle.std.specs.Global.{Vec}
use Rattle.debug_info.specs.Contents.{entries_or_none}
use Rattle.debug_info.specs.Entries.{entry_at, entry_list}
use Rattle.debug_info.specs.Reading.{Read}
use Rattle.debug_info.specs.Rising.{RisesFrom}
use Rattle.debug_info.specs.Scope.{is_block, is_parameter, is_unit, is_variable, is_within}
use Rattle.debug_info.specs.Sources.{IsSource}
use Rattle.debug_info.specs.Tables.{IsTable}
use Rattle.debug_info.specs.Units.{unit_entries}
use Rattle.debug_info.specs.declared.entry.Entry.{Entry}
use Rattle.debug_info.specs.declared.fault.InfoError.{InfoError}
use Rattle.debug_info.specs.declared.fault.InfoError.TheVariants as error
use Rattle.debug_info.specs.declared.fault.InfoFault.{InfoFault}
use Rattle.debug_info.specs.declared.mark.Mark.{Mark}
use Rattle.debug_info.specs.declared.mark.Unit.{Unit as Looked}

-- what is kept of an entry
abbrev pub mark_of : Entry → Mark
mark_of e = record { offset = e.offset; tag = e.tag; level = e.level; is_named = is_some e.name }

abbrev pub entry_in : Read (Option Entry) → Option Entry
entry_in (Ok (entry, next)) = entry
entry_in (Err e) = None

-- the entry that is read at a mark's place, below one level fewer than its own
abbrev pub reread : List ℕ → List ℕ → List ℕ → ℕ → ℕ → Mark → Option Entry
reread abbrevs strs info table unit m =
    if ((m.level == 0) || nat_lt 64 m.level) || nat_lt (length info) (unit + m.offset) then None
    else entry_in (entry_at abbrevs strs info table unit (m.level - 1) (unit + m.offset))

-- each is read again as it was
abbrev pub AreReread : List ℕ → List ℕ → List ℕ → ℕ → ℕ → List Entry → Type 0
AreReread abbrevs strs info table unit [] = Unit {0}
AreReread abbrevs strs info table unit (e ∷ es) = (reread abbrevs strs info table unit (mark_of e) ≡ Some e) × AreReread abbrevs strs info table unit es

-- marks of what is read
pub record AreMarks (abbrevs strs info : List ℕ) (table unit : ℕ) (marks : List Mark) (want : Result (List Entry) InfoFault) : Type 0 where
  pub entries : List Entry
  pub read : want ≡ Ok entries
  pub kept : marks ≡ map mark_of entries
  pub again : AreReread abbrevs strs info table unit entries

-- marks of what is read, or the fault; out of memory may come
abbrev pub GivesMarks : List ℕ → List ℕ → List ℕ → ℕ → ℕ → Result (Vec Mark) InfoError → Result (List Entry) InfoFault → Type 0
GivesMarks abbrevs strs info table unit (Ok marks) want = AreMarks abbrevs strs info table unit marks.items want
GivesMarks abbrevs strs info table unit (Err (error.Fault fault)) want = want ≡ Err fault
GivesMarks abbrevs strs info table unit (Err error.Memory) want = Unit {0}

-- the entries of a unit that is looked through
abbrev pub entries_in : Looked → List Entry
entries_in u = entries_or_none (unit_entries u.source.abbrevs.now u.source.strs.now u.source.info.now u.at)

abbrev pub reread_in : Looked → Mark → Option Entry
reread_in u m = reread u.source.abbrevs.now u.source.strs.now u.source.info.now u.table.now.at u.at m

pub record IsUnit (u : Looked) : Type 0 where
  pub source : IsSource u.source
  pub table : IsTable u.source.abbrevs.now u.table.now
  pub within : u.at ≤ length u.source.info.now
  pub marks : u.marks.now ≡ map mark_of (entries_in u)
  pub again : AreReread u.source.abbrevs.now u.source.strs.now u.source.info.now u.table.now.at u.at (entries_in u)
  pub rising : RisesFrom 0 u.marks.now

-- a block whose entry covers pc
abbrev pub is_entered_mark : Looked → ℕ → Mark → Bool
is_entered_mark u pc m = is_block m.tag && is_within pc (option_and_then (λ e. e.range) (reread_in u m))

abbrev pub is_own_mark : Bool → Mark → Bool
is_own_mark entered m = not entered && (m.is_named && (is_parameter m.tag || is_variable m.tag))

-- the entries that are read again of marks
abbrev pub all_reread : Looked → List Mark → List Entry
all_reread u [] = []
all_reread u (m ∷ ms) = entry_list (reread_in u m) ++ all_reread u ms

-- whether the entry of a unit is the parent of what stands at level 2 behind a mark, by whether it was before
abbrev pub is_in_unit : Bool → Mark → Bool
is_in_unit before m = if nat_lt m.level 2 then is_unit m.tag else before

-- a variable of the unit, if its place is fixed
abbrev pub is_outer : Bool → Mark → Bool
is_outer in_unit m = in_unit && ((m.level == 2) && (m.is_named && is_variable m.tag))

abbrev pub outer_marks : Bool → List Mark → List Mark
outer_marks before [] = []
outer_marks before (m ∷ ms) = filter (λ x. is_outer (is_in_unit before x) x) (m ∷ []) ++ outer_marks (is_in_unit before m) ms

-- the mark with a number and those behind it, or none where there are no more
abbrev pub IsMarkSplit : List Mark → ℕ → Option (Mark × Bor (List Mark)) → Type 0
IsMarkSplit marks number None = length marks ≤ number
IsMarkSplit marks number (Some p) = (drop number marks ≡ p.0 ∷ p.1.now) × (p.1.now ≡ drop (number + 1) marks)
