use Rattle.line_rows.specs.Sections.{sections_shown}
use Rattle.line_headers.proofs.Ends.{ends_tell}
use Rattle.line_headers.proofs.texts.text_ends.Goals as goal

pub returns : goal.returns
returns c = ends_tell (sections_shown c.args.sections.now) _ c.text_end.ensures c.text_end-2.ensures
