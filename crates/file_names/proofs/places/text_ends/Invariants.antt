use Rattle.std.proofs.Common.{◌≡◌, ◌+◌, ◌≤◌, ℕ, length, get_or}
use Rattle.file_names.specs.Homes.{size_at}
use Rattle.file_names.proofs.places.text_ends.Given as goal

abbrev pub invariant-loop-place : goal.invariant-loop-place
invariant-loop-place l =
    record {
      within : l.place ≤ length l.bytes;
      size : length l.ends.items ≡ length l.bytes + 1;
      each : (p : ℕ) → l.place ≤ p → p ≤ length l.bytes → get_or l.ends.items p 0 ≡ p + size_at l.bytes p;
    }

abbrev pub decreases-loop-place : goal.decreases-loop-place
decreases-loop-place l = l.place
