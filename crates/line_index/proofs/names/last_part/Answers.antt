use Rattle.std.proofs.Common.{◌+◌, ◌∙◌, sym}
use Rattle.std.proofs.lemmas.List.{take_rest}
use Rattle.line_index.proofs.LastPart.{part_behind, part_of_none}
use Rattle.line_index.proofs.names.last_part.Goals as goal

pub returns-in-Some : goal.returns-in-Some
returns-in-Some c = take_rest c.args.name.now (c.in-Some.last + 1) ∙ sym (part_behind c.args.name.now c.in-Some.last c.in-Some.ensures)

pub returns-in-None : goal.returns-in-None
returns-in-None c = sym (part_of_none c.args.name.now c.in-None.ensures)
