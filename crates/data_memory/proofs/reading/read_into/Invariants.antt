use Rattle.std.proofs.Common.{◌≡◌, ℕ, ◌+◌, ◌%◌, ◌^◌, ◌<◌, Some}
use Rattle.std.specs.Prelude.{slice_index}
use Rattle.data_memory.specs.Paged.{paged}
use Rattle.data_memory.specs.Ranges.{value_at}
use Rattle.data_memory.proofs.reading.read_into.Given as goal

abbrev pub invariant-copy : goal.invariant-copy
invariant-copy l = (k : ℕ) → k < l.i → value_at (paged l.pages l.frames) ((l.addr + k) % 2 ^ 32) ≡ Some (slice_index l.into k)
