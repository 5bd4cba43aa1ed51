-- How the code keeps variables, texts and where it stands. This project's own.
use Rattle.std.specs.Prelude.{ℕ, Bool, false, nat_lt, List, map, Option, None, Some, if◌then◌else◌}
use Rattle.address_tables.specs.declared.entry.AddressRange.{AddressRange}
use Rattle.debug_info.specs.Contents.{fault_list, faults_given}
use Rattle.debug_info.specs.Functions.{functions_given}
use Rattle.debug_info.specs.Scope as scope
use Rattle.debug_info.specs.TextLengths.{AreLengths}
use Rattle.debug_info.specs.declared.entry.Entry.{Entry}
use Rattle.debug_info.specs.declared.fault.UnitFault.{UnitFault}
use Rattle.debug_info.specs.declared.header.Span.{Span}
use Rattle.debug_info.specs.declared.scope.Texts.{Texts}
use Rattle.debug_info.specs.declared.scope.Var.{Var}
use Rattle.debug_info.specs.declared.unit.Reading.{Reading}

-- the lengths of shared texts are theirs
abbrev pub AreTexts : Texts → Type 0
AreTexts t = AreLengths t.strs.now t.lengths.now

abbrev pub seen_texts : Texts → scope.Texts
seen_texts t = record { info = t.info.now; strs = t.strs.now }

abbrev pub shown_variable : Var → scope.Variable
shown_variable v = record { name = v.name.now; kind = v.kind; place = v.place; base = v.base; argument = v.argument; listed = v.listed }

abbrev pub shown_variables : List Var → List scope.Variable
shown_variables vs = map shown_variable vs

-- the functions and the fault of a unit
abbrev pub reading_shown : Reading → List (AddressRange ℕ) × List UnitFault
reading_shown r = (r.functions.items, fault_list r.fault)

abbrev pub given : List ℕ → List ℕ → List ℕ → Span → List (AddressRange ℕ) × List UnitFault
given abbrevs strs info span = (functions_given abbrevs strs info span, faults_given abbrevs strs info span)

-- what the code keeps of the entries before: the level of one that isn't entered and that an entry may stand in
abbrev pub is_below : Option ℕ → ℕ → Bool
is_below None level = false
is_below (Some shut) level = nat_lt shut level

abbrev pub shut_by : ℕ → Entry → Option ℕ
shut_by pc e = if scope.is_entered pc e then None else Some e.level
