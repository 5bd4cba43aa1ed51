use Rattle.std.proofs.Common.{List, map, subst, refl, arith}
use Rattle.leb_read.specs.Leb.{text_from}
use Rattle.line_headers.specs.declared.places.NamePlace.{NamePlace}
use Rattle.line_rows.specs.Sections.{sections_shown}
use Rattle.dwarf_lines.specs.Adding.{shown}
use Rattle.dwarf_lines.specs.Met.{Meets}
use Rattle.dwarf_lines.specs.Names.{name_in}
use Rattle.dwarf_lines.proofs.Placed.{unit_built}
use Rattle.dwarf_lines.proofs.adding.add_unit.Goals as goal

pub returns : goal.returns
returns c =
    let s = sections_shown c.args.sections.now in
    let files = c.args.files.now in
    let rows = c.args.rows.now in
    let first : Meets s c.args.met.now c.push_files.new.met (map (name_in s) files.places.items) =
    subst (λ (l : List NamePlace). Meets s c.args.met.now c.push_files.new.met (map (name_in s) l)) c.deref.ensures.value c.in_ok-push_files.ensures in
    unit_built s (shown s files rows.unit) (map (name_in s) files.places.items) (map (λ name. text_from name 0) rows.unit.names) _ _ rows c.keep_unit.new.self c.args.met.now c.push_files.new.met c.push_defined.new.met
    refl first c.in_ok-push_defined.ensures (omega (arith, c.in_ok-before.ensures, c.len.ensures)) refl c.keep_unit.ensures
