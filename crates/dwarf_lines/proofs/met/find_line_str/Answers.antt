use Rattle.std.proofs.Common.{refl}
use Rattle.std.specs.Prelude.{Some}
use Rattle.line_rows.specs.Sections.{sections_shown}
use Rattle.dwarf_lines.proofs.Kept.{found_line_str, if_ok}
use Rattle.dwarf_lines.proofs.met.find_line_str.Goals as goal

pub returns : goal.returns
returns c =
    let old = c.args.met.now in
    let start = c.in_ok-start.start in
    if_ok _ (λ place e. found_line_str (sections_shown c.args.sections.now) old (record old { texts = c.open.new.texts; line_str = Some start }) start c.args.at place c.requires c.in_ok-start.ensures refl refl refl
    e) c.place_in.ensures
