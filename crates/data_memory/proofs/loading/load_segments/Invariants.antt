use Rattle.std.proofs.Common.{◌≤◌, length, drop}
use Rattle.data_memory.specs.Paged.{Holds}
use Rattle.data_memory.specs.Start.{data_byte}
use Rattle.data_memory.proofs.loading.load_segments.Given as goal

abbrev pub invariant-loop-k : goal.invariant-loop-k
invariant-loop-k l = record { within : l.k ≤ length l.image.segments; holds : Holds l.pages l.frames (data_byte (drop l.k l.image.segments)) }

abbrev pub decreases-loop-k : goal.decreases-loop-k
decreases-loop-k l = l.k
