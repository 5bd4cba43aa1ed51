use Rattle.debug_info.proofs.Words.{◌≡◌, kind_of, entries_in}
use Rattle.debug_info.proofs.scope.kind_of.Given as goal

abbrev pub invariant-links : goal.invariant-links
invariant-links l = kind_of 16 (entries_in l.unit) l.fn.entry ≡ kind_of l.links (entries_in l.unit) l.entry

abbrev pub decreases-links : goal.decreases-links
decreases-links l = l.links
