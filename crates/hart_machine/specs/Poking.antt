-- What a user writes: a register of a hart, and bytes of data.
use Rattle.std.specs.Prelude.{◌≡◌, ℕ, List, None, Some, slice_get}
use Rattle.rv_exec.specs.Registers.{set}
use Rattle.data_memory.specs.Ranges.{with_bytes}
use Rattle.hart_machine.specs.declared.hart.Core.{Core}
use Rattle.hart_machine.specs.Patched.{Patched}
use Rattle.hart_machine.specs.Copying.{with_core}

-- hart h is in no slot
abbrev pub IsOut : Patched → ℕ → Type 0
IsOut m h = (c : Core) → slice_get m.cores h ≡ Some c → c.entered ≡ None

abbrev pub poked_core : Core → ℕ → ℕ → Core
poked_core c n v = record c { regs = set c.regs n v }

-- register n of hart h is set, and nothing else changes
abbrev pub PokesRegister : Patched → ℕ → ℕ → ℕ → Patched → Type 0
PokesRegister old h n v new = (c : Core) → slice_get old.cores h ≡ Some c → new ≡ with_core old h (poked_core c n v)

-- other bytes of data from an address on, and nothing else changes
abbrev pub poked_bytes : Patched → ℕ → List ℕ → Patched
poked_bytes m addr bytes = record m { memory = with_bytes m.memory addr bytes }
