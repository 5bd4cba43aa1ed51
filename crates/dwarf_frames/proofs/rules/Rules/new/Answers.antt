use Rattle.dwarf_frames.proofs.First.{first_within}
use Rattle.dwarf_frames.proofs.rules.Rules.new.Goals as goal

pub returns-clause-within : goal.returns-clause-within
returns-clause-within c = first_within c.args.return_column c.requires
