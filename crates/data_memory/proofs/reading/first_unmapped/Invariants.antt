use Rattle.std.proofs.Common.{ℕ, ◌+◌, ◌%◌, ◌^◌, ◌<◌}
use Rattle.std.specs.Prelude.{IsSome}
use Rattle.data_memory.specs.Paged.{paged}
use Rattle.data_memory.specs.Ranges.{value_at}
use Rattle.data_memory.proofs.reading.first_unmapped.Given as goal

abbrev pub invariant-check : goal.invariant-check
invariant-check l = (k : ℕ) → k < l.i → IsSome (value_at (paged l.pages l.frames) ((l.addr + k) % 2 ^ 32))
