use Rattle.std.proofs.Common.{refl}
use Rattle.line_rows.specs.Sections.{sections_shown}
use Rattle.dwarf_lines.proofs.Kept.{met_more}
use Rattle.dwarf_lines.proofs.met.push.Goals as goal

pub returns : goal.returns
returns c = met_more (sections_shown c.args.sections.now) c.args.met.now c.find.new.met _ _ c.in_ok-found.found c.in_ok-found.ensures refl c.in_ok-push.ensures.items refl refl
