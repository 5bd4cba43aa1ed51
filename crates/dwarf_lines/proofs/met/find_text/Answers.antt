use Rattle.std.proofs.Common.{refl}
use Rattle.line_rows.specs.Sections.{sections_shown}
use Rattle.leb_read.specs.Leb.{text_from}
use Rattle.dwarf_lines.proofs.Kept.{found_kept, if_ok}
use Rattle.dwarf_lines.proofs.met.find_text.Goals as goal

pub returns : goal.returns
returns c =
    let text = c.args.text.now in
    if_ok _ (λ place k. found_kept (sections_shown c.args.sections.now) c.args.met.now (record c.args.met.now { texts = c.keep.new.texts }) text (text_from text 0) place c.requires k refl refl refl refl) c.keep.ensures
