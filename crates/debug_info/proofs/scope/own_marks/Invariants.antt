use Rattle.debug_info.proofs.Words.{drop, entries_in, own_entries}
use Rattle.debug_info.proofs.Walked.{Walked}
use Rattle.debug_info.proofs.scope.own_marks.Given as goal

abbrev pub invariant-loop-mark : goal.invariant-loop-mark
invariant-loop-mark l = Walked l.pc l.function (own_entries l.pc l.function (drop l.number (entries_in l.unit))) l.found.items l.shut (drop l.mark-index (drop l.number (entries_in l.unit)))
