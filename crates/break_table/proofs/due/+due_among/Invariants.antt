use Rattle.std.proofs.Common.{length}
use Rattle.break_table.proofs.due.+due_among.Given as goal

abbrev pub decreases-due_among : goal.decreases-due_among
decreases-due_among g l = length l.places.now
