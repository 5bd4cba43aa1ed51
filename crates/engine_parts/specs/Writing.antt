-- What the user writes into the machine, as the engine does it. This project's own.
use Rattle.std.specs.Prelude.{◌≡◌, ◌<◌, ◌≤◌, length, None}
use Rattle.data_memory.specs.Ranges.{first_unwritable}
use Rattle.hart_machine.specs.Patched.{Patched}
use Rattle.hart_machine.specs.Poking.{IsOut, PokesRegister, poked_bytes}
use Rattle.dbg_model.specs.declared.entry.Poke.{Poke}
use Rattle.dbg_model.specs.declared.entry.Poke.TheVariants as poke

-- a register from 1 to 31 of a hart that is in no slot can be set, and bytes of data that can all be written
abbrev pub CanPoke : Patched → Poke → Type 0
CanPoke m (poke.Register h n v) = (h < length m.cores) × ((1 ≤ n) × (n ≤ 31)) × IsOut m h
CanPoke m (poke.Bytes a bytes) = first_unwritable m.memory a (length bytes) ≡ None

-- that alone changes
abbrev pub Pokes : Patched → Poke → Patched → Type 0
Pokes old (poke.Register h n v) new = PokesRegister old h n v new
Pokes old (poke.Bytes a bytes) new = new ≡ poked_bytes old a bytes
