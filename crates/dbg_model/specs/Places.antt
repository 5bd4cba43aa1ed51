-- What is known of an address: the function and the line of the source (GDB manual, "GDB/MI Frame Information").
use Rattle.std.specs.Prelude.{ℕ, List, Option}
use Rattle.std.specs.Option.{option_map}
use Rattle.elf_symbols.specs.Names.{Symbol, function_at}
use Rattle.line_rows.specs.declared.row.Row.{Row}
use Rattle.line_index.specs.Lines.{Lines, file_name, row_at}
use Rattle.dbg_model.specs.Sources.{Sources}
use Rattle.dbg_model.specs.declared.frame.ShownFrame.{ShownFrame}
use Rattle.dbg_model.specs.declared.frame.SourceLine.{SourceLine}

abbrev pub name_of : Symbol → List ℕ
name_of s = s.name

-- the name of the function that an address lies in
abbrev pub function_name : Sources → ℕ → Option (List ℕ)
function_name sources addr = option_map name_of (function_at sources.names addr)

abbrev pub line_of_row : Lines → Row → SourceLine
line_of_row lines r = record { file = file_name lines.rows.names r.file; line = r.line }

-- the line of the source that an address belongs to
abbrev pub source_line : Sources → ℕ → Option SourceLine
source_line sources addr = option_map (line_of_row sources.lines) (row_at sources.lines addr)

-- a frame at an address, whose place in the source is looked up at another one
abbrev pub place_frame : Sources → ℕ → ℕ → ShownFrame
place_frame sources addr lookup = record { address = addr; function = function_name sources lookup; source = source_line sources lookup }

-- the frame of a thread that is at an address
abbrev pub own_frame : Sources → ℕ → ShownFrame
own_frame sources pc = place_frame sources pc pc
