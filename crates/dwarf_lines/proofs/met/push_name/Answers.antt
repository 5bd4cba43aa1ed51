use Rattle.std.proofs.Common.{◌≡◌, ◌∙◌, ℕ, List, ap, refl, subst}
use Rattle.leb_read.specs.Leb.{text_from}
use Rattle.line_rows.specs.Sections.{sections_shown}
use Rattle.dwarf_lines.specs.Met.{Finds}
use Rattle.dwarf_lines.proofs.Kept.{met_more, text_whole}
use Rattle.dwarf_lines.proofs.met.push_name.Goals as goal

pub returns : goal.returns
returns c =
    let s = sections_shown c.args.sections.now in
    let old = c.args.met.now in
    let is : text_from c.text_from.result.now 0 ≡ text_from c.args.name.now 0 = ap (λ (l : List ℕ). text_from l 0) c.text_from.ensures ∙ text_whole c.args.name.now 0 in
    met_more s old c.find_text.new.met _ _ c.in_ok-found.found
    (subst (λ (name : List ℕ). Finds s old c.find_text.new.met name c.in_ok-found.found) is c.in_ok-found.ensures) refl c.in_ok-push.ensures.items refl refl
