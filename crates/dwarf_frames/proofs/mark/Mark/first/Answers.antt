use Rattle.std.proofs.Common.{refl}
use Rattle.dwarf_frames.specs.Gives.{seen_fde}
use Rattle.dwarf_frames.specs.Starts.{seen_start}
use Rattle.dwarf_frames.proofs.Marking.{mark_first}
use Rattle.dwarf_frames.proofs.mark.Mark.first.Goals as goal

pub returns-clause-mark : goal.returns-clause-mark
returns-clause-mark c = mark_first (seen_start c.args.start.now) (seen_fde c.args.fde.now) _ refl refl c.copy.ensures c.requires
