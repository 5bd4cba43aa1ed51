use Rattle.std.proofs.Common.{◌≡◌, ◌∙◌, ℕ, List, ap, subst, sym}
use Rattle.std.specs.Prelude.{IfOk}
use Rattle.leb_read.specs.Leb.{text_from}
use Rattle.line_rows.specs.Sections.{sections_shown}
use Rattle.dwarf_lines.specs.Met.{Finds}
use Rattle.dwarf_lines.specs.Names.{name_in}
use Rattle.dwarf_lines.proofs.Kept.{text_whole}
use Rattle.dwarf_lines.proofs.met.find.Goals as goal

pub returns-in-Line : goal.returns-in-Line
returns-in-Line c =
    let s = sections_shown c.args.sections.now in
    let is : text_from c.text_from.result.now 0 ≡ name_in s c.args.place =
    ap (λ (l : List ℕ). text_from l 0) c.text_from.ensures ∙ text_whole c.args.sections.now.line.now c.in-Line.at ∙ sym (ap (name_in s) c.in-Line.is) in
    subst (λ (name : List ℕ). IfOk c.find_text-in-Line.result (λ found. Finds s c.args.met.now c.find_text-in-Line.new.met name found)) is c.find_text-in-Line.ensures
