use Rattle.debug_info.proofs.Words.{◌≡◌, ◌+◌, length, AreRuns}
use Rattle.debug_info.proofs.index.index_of.Given as goal

abbrev pub invariant-places : goal.invariant-places
invariant-places l =
    record {
      runs : AreRuns l.abbrevs l.runs.items;
      count : length l.runs.items + l.left ≡ length l.abbrevs + 1;
    }

abbrev pub decreases-places : goal.decreases-places
decreases-places l = l.left
