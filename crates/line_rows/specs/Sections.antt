-- The sections that line tables are read from (DWARF 5, sections 6.2 and 7.26).
use Rattle.std.specs.Prelude.{ℕ, List}
use Rattle.line_rows.specs.declared.line_sections.LineSections.{LineSections}

-- the bytes of .debug_line, .debug_line_str and .debug_str
pub record Sections : Type 0 where
  pub line : List ℕ
  pub line_str : List ℕ
  pub strs : List ℕ

abbrev pub sections_shown : LineSections → Sections
sections_shown s = record { line = s.line.now; line_str = s.line_str.now; strs = s.strs.now }
