-- How a table of abbreviations is kept: the places of its declarations one behind another, and of the first of each code. This project's own.
use Rattle.std.specs.Prelude.{◌≡◌, ℕ, ◌≤◌, ◌==◌, Bool, false, List, [], ◌∷◌, length, reverse, Option, None, Some, Result, Ok, Err, if◌then◌else◌}
use Rattle.std.specs.BTreeMap.{get}
use Rattle.std.specs.Ordering.{nat_cmp}
use Rattle.debug_info.specs.Abbreviations.{declaration_at}
use Rattle.debug_info.specs.Reading.{Read}
use Rattle.debug_info.specs.declared.abbreviation.Declaration.{Declaration}
use Rattle.debug_info.specs.declared.fault.InfoFault.{InfoFault}
use Rattle.debug_info.specs.declared.fault.InfoFault.TheVariants as fault
use Rattle.debug_info.specs.declared.tables.Listed.{Listed}
use Rattle.debug_info.specs.declared.tables.Table.{Table}

-- the code that a place declares, and the next place
abbrev pub code_in : Read (Option (ℕ × Declaration)) → Option (ℕ × ℕ)
code_in (Ok (None, next)) = None
code_in (Ok (Some (code, declaration), next)) = Some (code, next)
code_in (Err e) = None

abbrev pub declaration_in : Read (Option (ℕ × Declaration)) → Result Declaration InfoFault
declaration_in (Ok (None, next)) = Err fault.Abbrev
declaration_in (Ok (Some (code, declaration), next)) = Ok declaration
declaration_in (Err e) = Err e

abbrev pub is_code : Option (ℕ × ℕ) → ℕ → Bool
is_code None code = false
is_code (Some (other, next)) code = other == code

-- the place of the first declaration of a code
abbrev pub declared : List ℕ → List Listed → ℕ → Option ℕ
declared abbrevs [] code = None
declared abbrevs (l ∷ ls) code = if is_code (code_in (declaration_at abbrevs l.at)) code then Some l.at else declared abbrevs ls code

-- why a table ends at a place, if it does
abbrev pub end_of : Read (Option (ℕ × Declaration)) → Option InfoFault
end_of (Ok (None, next)) = Some fault.Abbrev
end_of (Ok (Some declaration, next)) = None
end_of (Err e) = Some e

-- a declaration stands at a place, and ends at a next one
pub record IsBefore (abbrevs : List ℕ) (at next : ℕ) : Type 0 where
  pub code : ℕ
  pub is : code_in (declaration_at abbrevs at) ≡ Some (code, next)

-- the declaration at a place, in front of others
pub record IsFirst (abbrevs : List ℕ) (at next : ℕ) (l : Listed) (others : List Listed) : Type 0 where
  pub place : l.at ≡ at
  pub before : IsBefore abbrevs at next
  pub hides : l.hidden ≡ declared abbrevs others before.code

-- the declarations from a place up to the table's end
abbrev pub AreListed : List ℕ → InfoFault → ℕ → List Listed → Type 0
AreListed abbrevs end at [] = end_of (declaration_at abbrevs at) ≡ Some end
AreListed abbrevs end at (l ∷ ls) = (next : ℕ) × (IsFirst abbrevs at next l ls × AreListed abbrevs end next ls)

-- the places of the declarations from a place up to another, the last one first
abbrev pub LeadTo : List ℕ → ℕ → ℕ → List ℕ → Type 0
LeadTo abbrevs at to [] = at ≡ to
LeadTo abbrevs at to (place ∷ places) = IsBefore abbrevs place to × LeadTo abbrevs at place places

-- the declarations of the table at a place, and where that of each code is found
pub record AreKept (abbrevs : List ℕ) (end : InfoFault) (at : ℕ) (listed : List Listed) (first : ℕ → Option ℕ) : Type 0 where
  pub all : AreListed abbrevs end at listed
  pub found : (code : ℕ) → first code ≡ declared abbrevs listed code
  pub within : at ≤ length abbrevs

-- each code is found as in the table itself
abbrev pub IsTable : List ℕ → Table → Type 0
IsTable abbrevs table = AreKept abbrevs table.end table.at (reverse table.listed.items) (get nat_cmp table.places)
