use Rattle.std.proofs.Common.{◌≡◌, ℕ, ◌+◌, ◌%◌, ◌^◌, ◌<◌, true}
use Rattle.std.specs.FinMap as map
use Rattle.rv_exec.specs.Memory.{is_writable}
use Rattle.data_memory.specs.Paged.{paged}
use Rattle.data_memory.proofs.writing.unwritable_in.Given as goal

abbrev pub invariant-check : goal.invariant-check
invariant-check l = (k : ℕ) → k < l.i → is_writable (map.get (paged l.pages l.frames) ((l.addr + k) % 2 ^ 32)) ≡ true
