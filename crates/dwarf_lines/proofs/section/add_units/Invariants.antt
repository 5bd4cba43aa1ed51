use Rattle.std.proofs.Common.{◌≡◌, ◌-◌, ◌≤◌, length}
use Rattle.line_rows.specs.RowList.{nothing_open}
use Rattle.line_rows.specs.Sections.{sections_shown}
use Rattle.dwarf_lines.specs.Adding.{added, named}
use Rattle.dwarf_lines.specs.Met.{AreMet}
use Rattle.dwarf_lines.proofs.Sections.{behind}
use Rattle.dwarf_lines.proofs.section.add_units.Given as goal

abbrev pub invariant-loop-at : goal.invariant-loop-at
invariant-loop-at l =
    record {
      same : behind (sections_shown l.sections) (named l.rows l.met) l.at ≡ added (sections_shown l.sections);
      met : AreMet (sections_shown l.sections) l.met;
      closed : l.rows.unit ≡ nothing_open;
      within : l.at ≤ length l.sections.line.now;
    }

abbrev pub decreases-loop-at : goal.decreases-loop-at
decreases-loop-at l = length l.sections.line.now - l.at
