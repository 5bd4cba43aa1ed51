-- The entries of a unit, a tree in prefix order (DWARF 4, sections 2.3 and 7.5.2).
use Rattle.std.specs.Prelude.{◌≡◌, ℕ, zero, suc, ◌+◌, ◌-◌, ◌≤◌, ◌==◌, nat_le, List, [], ◌∷◌, ◌++◌, length, Option, None, Some, Result, Ok, Err, if◌then◌else◌}
use Rattle.std.specs.Global.{Vec}
use Rattle.leb_read.specs.Leb.{uleb_at}
use Rattle.debug_info.specs.Reading.{◌>>=◌, Read, found, read}
use Rattle.debug_info.specs.Abbreviations.{abbreviation_of}
use Rattle.debug_info.specs.Attributes.{attributes_at, entry_of}
use Rattle.debug_info.specs.declared.entry.Entry.{Entry}
use Rattle.debug_info.specs.declared.fault.InfoError.{InfoError}
use Rattle.debug_info.specs.declared.fault.InfoError.TheVariants as error
use Rattle.debug_info.specs.declared.fault.InfoFault.{InfoFault}
use Rattle.debug_info.specs.declared.fault.InfoFault.TheVariants as fault

-- the entry at a place of a unit below so many levels; code 0 is none, and ends children
unfoldable pub entry_at : List ℕ → List ℕ → List ℕ → ℕ → ℕ → ℕ → ℕ → Read (Option Entry)
entry_at abbrevs strs info table unit level at = do
  code ← read (uleb_at info at)
  if code.0 == 0 then found None code.1 else (do
    declaration ← abbreviation_of (length abbrevs + 1) abbrevs code.0 table
    if level == 64 then Err fault.Deep else (do
      attributes ← attributes_at abbrevs strs info declaration.attributes.at code.1
      found (Some (entry_of (at - unit) (level + 1) declaration attributes.0)) attributes.1))

-- behind an entry with children these stand below it
abbrev pub level_behind : ℕ → Option Entry → ℕ
level_behind level None = level - 1
level_behind level (Some entry) = if entry.has_children then entry.level else entry.level - 1

abbrev pub entry_list : Option Entry → List Entry
entry_list None = []
entry_list (Some entry) = entry ∷ []

-- entries in front of others
abbrev pub in_front : List Entry → Result (List Entry) InfoFault → Result (List Entry) InfoFault
in_front front (Ok others) = Ok (front ++ others)
in_front front (Err e) = Err e

abbrev pub with_others : ℕ → (ℕ → ℕ → Result (List Entry) InfoFault) → Option Entry × ℕ → Result (List Entry) InfoFault
with_others level rest (entry, next) = in_front (entry_list entry) (rest (level_behind level entry) next)

-- the entries from a place up to the unit's end; there are no more steps than bytes
abbrev pub entries_from : ℕ → List ℕ → List ℕ → List ℕ → ℕ → ℕ → ℕ → ℕ → Result (List Entry) InfoFault
entries_from zero abbrevs strs info table unit level at = Ok []
entries_from (suc steps) abbrevs strs info table unit level at =
    if nat_le (length info) at then Ok []
    else entry_at abbrevs strs info table unit level at >>= with_others level (entries_from steps abbrevs strs info table unit)

-- an entry's level is one of the 64
pub record IsLevel (entry : Entry) : Type 0 where
  pub some : 1 ≤ entry.level
  pub most : entry.level ≤ 64

-- what is read, or the fault; out of memory may come
abbrev pub Gives : {A : Type 0} → Result (Vec A) InfoError → Result (List A) InfoFault → Type 0
Gives (Ok found) want = want ≡ Ok found.items
Gives (Err (error.Fault fault)) want = want ≡ Err fault
Gives (Err error.Memory) want = Unit {0}

-- where memory was found
abbrev pub IfRead : {A : Type 0} → Result (Vec A) InfoError → Type 0 → Type 0
IfRead (Err error.Memory) P = Unit {0}
IfRead (Ok entries) P = P
IfRead (Err (error.Fault fault)) P = P
