use Rattle.std.proofs.Common.{length}
use Rattle.engine_parts.proofs.journal.+note_lefts.Given as goal

abbrev pub decreases-note_lefts : goal.decreases-note_lefts
decreases-note_lefts l = length l.minds.now
