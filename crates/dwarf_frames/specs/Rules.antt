-- The rules of a place, from the bytes of a section (DWARF 5, section 6.4.3, "Call Frame Instruction Usage").
use Rattle.std.specs.Prelude.{ℕ, List, [], Option, Some, None, Result, Ok}
use Rattle.dwarf_frames.specs.Reading.{◌>>=◌}
use Rattle.dwarf_frames.specs.Operations.{operations}
use Rattle.dwarf_frames.specs.Table.{first_rules, fold_operations, operations_until}
use Rattle.dwarf_frames.specs.Entries.{Fde, Cie, covering, entries, entry_of, cie_of}
use Rattle.dwarf_frames.specs.declared.fault.FrameFault.{FrameFault}
use Rattle.dwarf_frames.specs.declared.rules.Rules.{Rules}

-- all operations of the CIE, in which the location doesn't move, and those of the FDE whose location isn't above pc
unfoldable pub rules_by : Cie → Fde → ℕ → Result Rules FrameFault
rules_by c d pc = do
  s ← fold_operations (first_rules c.return_column) (record { rules = first_rules c.return_column; remembered = [] }) (operations c.factors c.program)
  t ← fold_operations s.rules s (operations_until pc d.initial_location (operations c.factors d.program))
  Ok t.rules

-- the CIE among the entries that begins at a place
unfoldable pub named_cie : List ℕ → ℕ → Result Cie FrameFault
named_cie section place = do
  body ← entry_of place (entries section)
  cie_of body

-- by the FDE and the CIE that it names
abbrev pub described : List ℕ → ℕ → Option Fde → Result (Option Rules) FrameFault
described section pc None = Ok None
described section pc (Some d) = do
  c ← named_cie section d.cie_pointer
  rules ← rules_by c d pc
  Ok (Some rules)

-- the rules at pc, or none where no FDE covers it
unfoldable pub rules_of : List ℕ → ℕ → Result (Option Rules) FrameFault
rules_of section pc = do
  d ← covering pc (entries section)
  described section pc d
