use Rattle.line_headers.proofs.Ends.{last_text, no_text}
use Rattle.line_headers.proofs.texts.text_end.Goals as goal

pub returns-in-Some : goal.returns-in-Some
returns-in-Some c = last_text c.args.section.now c.in-Some.last c.in-Some.ensures

pub returns-in-None : goal.returns-in-None
returns-in-None c = no_text c.args.section.now c.in-None.ensures
