use Rattle.std.proofs.Common.{map, take}
use Rattle.line_rows.specs.Sections.{sections_shown}
use Rattle.leb_read.specs.Leb.{text_from}
use Rattle.dwarf_lines.specs.Met.{Meets}
use Rattle.dwarf_lines.proofs.met.push_defined.Given as goal

abbrev pub invariant-loop-k : goal.invariant-loop-k
invariant-loop-k l = Meets (sections_shown l.sections) l.fn.met l.met (map (λ name. text_from name 0) (take l.k l.rows.unit.names))
