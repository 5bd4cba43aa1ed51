use Rattle.std.proofs.Common.{◌≡◌, ℕ, ◌+◌, ◌%◌, ◌^◌, ◌<◌, true, length, drop}
use Rattle.std.specs.FinMap as map
use Rattle.rv_exec.specs.Memory.{is_writable}
use Rattle.data_memory.specs.Paged.{paged, IsPaged}
use Rattle.data_memory.specs.Ranges.{with_bytes}
use Rattle.data_memory.proofs.writing.write_in.Given as goal

-- the bytes that are left, written where they still may be, give all
abbrev pub invariant-write : goal.invariant-write
invariant-write l = record {
  kept : IsPaged l.pages l.frames;
  writable : (k : ℕ) → k < length l.bytes → is_writable (map.get (paged l.pages l.frames) ((l.addr + k) % 2 ^ 32)) ≡ true;
  rest : with_bytes (paged l.pages l.frames) (l.addr + l.i) (drop l.i l.bytes) ≡ with_bytes (paged l.initial.pages l.initial.frames) l.addr l.bytes;
}
