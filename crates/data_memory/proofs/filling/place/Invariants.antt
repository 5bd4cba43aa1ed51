use Rattle.std.proofs.Common.{◌≤◌, ◌-◌}
use Rattle.std.specs.Prelude.{slice_index}
use Rattle.data_memory.specs.Paged.{Holds, byte_at, byte_of, replaced}
use Rattle.data_memory.proofs.filling.place.Given as goal

abbrev pub invariant-loop-i : goal.invariant-loop-i
invariant-loop-i l = record {
  within : l.i ≤ l.count;
  holds : Holds l.pages l.frames (replaced (byte_at l.initial.pages l.initial.frames) l.start l.i (λ q. byte_of l.access (slice_index l.values (q - l.start))));
}

abbrev pub decreases-loop-i : goal.decreases-loop-i
decreases-loop-i l = l.count - l.i
