use Rattle.std.proofs.Common.{map, take}
use Rattle.line_rows.specs.Sections.{sections_shown}
use Rattle.dwarf_lines.specs.Met.{Meets}
use Rattle.dwarf_lines.specs.Names.{name_in}
use Rattle.dwarf_lines.proofs.met.push_files.Given as goal

abbrev pub invariant-loop-place : goal.invariant-loop-place
invariant-loop-place l = Meets (sections_shown l.sections) l.fn.met l.met (map (name_in (sections_shown l.sections)) (take l.place-index l.files))
