-- Writes of the user into the program: registers of a stopped thread, and bytes of data (GDB manual, "Assignment to
-- Variables"; "GDB/MI Data Manipulation").
use Rattle.std.specs.Prelude.{ℕ, ◌+◌, Bool, false, ◌==◌, ◌&&◌, List, length, Option, Some, None, if◌then◌else◌, slice_get, slice_set}
use Rattle.std.specs.Str.{bytes_eq}
use Rattle.rv_exec.specs.Registers.{set}
use Rattle.data_memory.specs.Ranges.{first_unwritable, with_bytes}
use Rattle.plain_machine.specs.PlainRun.{Item, Reg, Bytes, is_settable}
use Rattle.dbg_model.specs.declared.entry.Poke.{Poke}
use Rattle.dbg_model.specs.declared.entry.Poke.TheVariants as poke
use Rattle.dbg_model.specs.declared.hart.Hart.{Hart}
use Rattle.dbg_model.specs.State.{State, is_stopped}

abbrev pub same_poke : Poke → Poke → Bool
same_poke (poke.Register h n v) (poke.Register k m w) = (h == k) && ((n == m) && (v == w))
same_poke (poke.Register h n v) (poke.Bytes b ys) = false
same_poke (poke.Bytes a xs) (poke.Register k m w) = false
same_poke (poke.Bytes a xs) (poke.Bytes b ys) = (a == b) && bytes_eq xs ys

-- this is the write of the line that was done last
abbrev pub is_pending : Option Poke → Poke → Bool
is_pending None p = false
is_pending (Some q) p = same_poke q p

-- a write as what happens to the program
abbrev pub item_of : Poke → Item
item_of (poke.Register h n v) = Reg h n v
item_of (poke.Bytes a bytes) = Bytes a bytes

abbrev pub with_register : Hart → ℕ → ℕ → Hart
with_register x n v = record x { regs = set x.regs n v }

-- a register from 1 to 31 of a stopped hart is set
abbrev pub register_poked : State → ℕ → ℕ → ℕ → Option Hart → Option State
register_poked s h n v None = None
register_poked s h n v (Some x) =
    if is_stopped x.mode && is_settable n then Some (record s { harts = slice_set s.harts h (with_register x n v) }) else None

-- bytes that are all writable are set
abbrev pub bytes_poked : State → ℕ → List ℕ → Option ℕ → Option State
bytes_poked s a bytes None = Some (record s { memory = with_bytes s.memory a bytes })
bytes_poked s a bytes (Some at) = None

abbrev pub written : State → Poke → Option State
written s (poke.Register h n v) = register_poked s h n v (slice_get s.harts h)
written s (poke.Bytes a bytes) = bytes_poked s a bytes (first_unwritable s.memory a (length bytes))

-- nothing is to be written any more
abbrev pub with_poke : State → State
with_poke s = record s { pending = None; noted = s.noted + 1 }
