-- What the file of a program tells of its source: the symbols (gABI, Symbol Table), the line tables (DWARF 5, section 6.2),
-- the call frame information (DWARF 5, section 6.4) and the variables (DWARF 4, sections 2 to 5 and 7.5).
use Rattle.std.specs.Prelude.{ℕ, List, [], codes, unwrap_or}
use Rattle.elf32_read.specs.Program.{Program, section}
use Rattle.elf_symbols.specs.Names.{Names}
use Rattle.elf_symbols.specs.Entries.{names_of}
use Rattle.line_rows.specs.Sections.{Sections}
use Rattle.dwarf_lines.specs.Rows.{rows_of}
use Rattle.line_index.specs.Lines.{Lines, lines_of}
use Rattle.debug_info.specs.Info.{Info, info_of}

pub record Sources : Type 0 where
  pub names : Names
  pub lines : Lines
  -- the bytes of .debug_frame
  pub frames : List ℕ
  pub info : Info

-- the bytes of the first section of a name; none where there is no such section
abbrev pub section_bytes : Program → List ℕ → List ℕ
section_bytes p name = unwrap_or (section p name) []

-- the sections that line tables are read from
abbrev pub line_sections : Program → Sections
line_sections p = record {
  line = section_bytes p (codes ".debug_line");
  line_str = section_bytes p (codes ".debug_line_str");
  strs = section_bytes p (codes ".debug_str");
}

-- what is told of variables
unfoldable pub variables_told : Program → Info
variables_told p = info_of (section_bytes p (codes ".debug_abbrev")) (section_bytes p (codes ".debug_str")) (section_bytes p (codes ".debug_info"))

unfoldable pub sources_of : Program → Sources
sources_of p = record {
  names = names_of p;
  lines = lines_of (rows_of (line_sections p)) (names_of p) p;
  frames = section_bytes p (codes ".debug_frame");
  info = variables_told p;
}
