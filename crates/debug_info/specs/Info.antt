-- What the three sections tell of variables (DWARF 4, sections 2 to 5 and 7.5).
use Rattle.std.specs.Prelude.{ℕ, ◌-◌, nat_lt, List, [], find, Option, None, Some}
use Rattle.debug_info.specs.Contents.{all_faults, entries_given, spans_of}
use Rattle.debug_info.specs.Functions.{function_at}
use Rattle.debug_info.specs.Scope.{Texts, Variable, from_offset, variables_in}
use Rattle.debug_info.specs.declared.entry.Entry.{Entry}
use Rattle.debug_info.specs.declared.fault.UnitFault.{UnitFault}
use Rattle.debug_info.specs.declared.header.Span.{Span}

-- the three sections
pub record Info : Type 0 where
  pub abbrevs : List ℕ
  pub strs : List ℕ
  pub info : List ℕ

abbrev pub info_of : List ℕ → List ℕ → List ℕ → Info
info_of abbrevs strs info = record { abbrevs = abbrevs; strs = strs; info = info }

-- the first fault of each unit that has one
abbrev pub faults_of : Info → List UnitFault
faults_of i = all_faults i.abbrevs i.strs i.info

-- the entries of a unit
abbrev pub entries_of : Info → Span → List Entry
entries_of i span = entries_given i.abbrevs i.strs i.info span

-- the sections that names stand in
abbrev pub texts_of : Info → Texts
texts_of i = record { info = i.info; strs = i.strs }

-- the variables at pc of the function whose entry stands at a place of a unit
abbrev pub variables_at : Info → ℕ → ℕ → Option Span → List Variable
variables_at i pc place None = []
variables_at i pc place (Some unit) = variables_in (texts_of i) pc (entries_of i unit) (from_offset (place - unit.at) (entries_of i unit))

-- of the first unit that ends behind its place
abbrev pub variables_by : Info → ℕ → Option ℕ → List Variable
variables_by i pc None = []
variables_by i pc (Some place) = variables_at i pc place (find (λ s. nat_lt place s.end) (spans_of i.info).0)

-- the variables at pc: those of the first function that covers it and of its blocks, deeper blocks first, and the unit's
abbrev pub scope : Info → ℕ → List Variable
scope i pc = variables_by i pc (function_at i.abbrevs i.strs i.info pc)
