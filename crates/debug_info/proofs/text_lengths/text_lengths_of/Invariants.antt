use Rattle.debug_info.proofs.Words.{◌≡◌, ◌≤◌, ◌+◌, length, text_from, AreLast}
use Rattle.debug_info.proofs.text_lengths.text_lengths_of.Given as goal

abbrev pub invariant-places : goal.invariant-places
invariant-places l =
    record {
      lengths : AreLast l.section l.lengths.items;
      count : length l.lengths.items + l.left ≡ length l.section + 1;
      last : l.length ≡ length (text_from l.section l.left);
      within : l.length + l.left ≤ length l.section;
    }

abbrev pub decreases-places : goal.decreases-places
decreases-places l = l.left
