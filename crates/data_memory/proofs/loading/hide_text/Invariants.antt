use Rattle.std.proofs.Common.{◌≤◌, length, drop}
use Rattle.data_memory.specs.Paged.{Holds}
use Rattle.data_memory.specs.Start.{image_byte}
use Rattle.data_memory.proofs.loading.hide_text.Given as goal

abbrev pub invariant-loop-k : goal.invariant-loop-k
invariant-loop-k l = record { within : l.k ≤ length l.image.text; holds : Holds l.pages l.frames (image_byte (record l.image { text = drop l.k l.image.text })) }

abbrev pub decreases-loop-k : goal.decreases-loop-k
decreases-loop-k l = l.k
