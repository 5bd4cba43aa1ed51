-- The functions of a section, each by the place of its entry (DWARF 4, sections 2.17.2 and 3.3).
use Rattle.std.specs.Prelude.{ℕ, ◌+◌, List, [], ◌∷◌, Option, Some, Result, Ok, Err}
use Rattle.std.specs.List.{flat_map}
use Rattle.address_tables.specs.Tables.{value_among}
use Rattle.address_tables.specs.declared.entry.AddressRange.{AddressRange}
use Rattle.debug_info.specs.Contents.{entries_given, spans_of}
use Rattle.debug_info.specs.declared.entry.Entry.{Entry}
use Rattle.debug_info.specs.declared.entry.Range.{Range}
use Rattle.debug_info.specs.declared.entry.Tag.{Tag}
use Rattle.debug_info.specs.declared.entry.Tag.TheVariants as tag
use Rattle.debug_info.specs.declared.fault.InfoFault.{InfoFault}
use Rattle.debug_info.specs.declared.header.Span.{Span}

-- the place of a subprogram with a range, by the addresses of the range
abbrev pub function_by : ℕ → Tag → Option Range → List (AddressRange ℕ)
function_by place tag.Subprogram (Some range) = record { begin = range.low; end = range.end; value = place } ∷ []
function_by place _ _ = []

-- the function that an entry of the unit at a place is
abbrev pub function_list : ℕ → Entry → List (AddressRange ℕ)
function_list unit entry = function_by (unit + entry.offset) entry.tag entry.range

abbrev pub functions_in : ℕ → List Entry → List (AddressRange ℕ)
functions_in unit entries = flat_map (function_list unit) entries

-- the functions of the unit at a place, or its fault
abbrev pub functions_read : ℕ → Result (List Entry) InfoFault → Result (List (AddressRange ℕ)) InfoFault
functions_read unit (Ok entries) = Ok (functions_in unit entries)
functions_read unit (Err e) = Err e

abbrev pub functions_given : List ℕ → List ℕ → List ℕ → Span → List (AddressRange ℕ)
functions_given abbrevs strs info span = functions_in span.at (entries_given abbrevs strs info span)

abbrev pub all_functions : List ℕ → List ℕ → List ℕ → List (AddressRange ℕ)
all_functions abbrevs strs info = flat_map (functions_given abbrevs strs info) (spans_of info).0

-- where the entry of the first function stands that covers an address, in the section's order
abbrev pub function_at : List ℕ → List ℕ → List ℕ → ℕ → Option ℕ
function_at abbrevs strs info pc = value_among (all_functions abbrevs strs info) pc
