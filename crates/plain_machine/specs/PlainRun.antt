-- A run of the unpatched program, in the order in which its harts execute, and of what is written into it from outside.
-- That a machine's harts take turns is this project's own.
use Rattle.std.specs.Prelude.{ℕ, zero, suc, Bool, true, false, List, [], ◌∷◌, ◌++◌, map, Option, Some, None, option_and_then, if◌then◌else◌, ◌&&◌, length, nat_le, slice_get, slice_set}
use Rattle.rv_exec.specs.Registers.{Registers, set}
use Rattle.rv_exec.specs.Memory.{Memory}
use Rattle.elf32_read.specs.Program.{Program}
use Rattle.data_memory.specs.Ranges.{first_unwritable, with_bytes}
use Rattle.data_memory.specs.Start.{start_memory}
use Rattle.plain_machine.specs.Environment.{Answer, Traps, Goes, Leave, Stays, LeavesAlone, LeavesAll}
use Rattle.plain_machine.specs.Plain.{plain, first_registers}

pub record PlainHart : Type 0 where
  pub regs : Registers
  pub has_exited : Bool

pub record PlainState : Type 0 where
  pub harts : List PlainHart
  pub memory : Memory
  -- the bytes that the program wrote
  pub out : List ℕ

-- what happens next to a program: one instruction of a hart; or a register of a hart is set, or the bytes of data from an
-- address on are
pub data Item : Type 0 where
  Step : (hart : ℕ) → Item
  Reg : (hart : ℕ) (number : ℕ) (value : ℕ) → Item
  Bytes : (address : ℕ) (bytes : List ℕ) → Item

abbrev pub gone : PlainHart → PlainHart
gone x = record x { has_exited = true }

abbrev pub gone_at : List PlainHart → ℕ → Option PlainHart → List PlainHart
gone_at xs h None = xs
gone_at xs h (Some x) = slice_set xs h (gone x)

abbrev pub without_leavers : List PlainHart → ℕ → Leave → List PlainHart
without_leavers xs h Stays = xs
without_leavers xs h (LeavesAlone code) = gone_at xs h (slice_get xs h)
without_leavers xs h (LeavesAll code) = map gone xs

abbrev pub plain_after : PlainState → ℕ → Answer → Option PlainState
plain_after s h (Traps cause) = None
plain_after s h (Goes r m out leave) =
    Some (record { harts = without_leavers (slice_set s.harts h (record { regs = r; has_exited = false })) h leave; memory = m; out = s.out ++ out })

abbrev pub plain_step : Program → PlainState → ℕ → Option PlainHart → Option PlainState
plain_step p s h None = None
plain_step p s h (Some x) = if x.has_exited then None else plain_after s h (plain p x.regs s.memory)

-- x0 and pc aren't set
abbrev pub is_settable : ℕ → Bool
is_settable n = nat_le 1 n && nat_le n 31

abbrev pub with_register : PlainHart → ℕ → ℕ → PlainHart
with_register x n v = record x { regs = set x.regs n v }

abbrev pub register_set : PlainState → ℕ → ℕ → ℕ → Option PlainHart → Option PlainState
register_set s h n v None = None
register_set s h n v (Some x) =
    if x.has_exited then None
    else (if is_settable n then Some (record s { harts = slice_set s.harts h (with_register x n v) }) else None)

abbrev pub bytes_set : PlainState → ℕ → List ℕ → Option ℕ → Option PlainState
bytes_set s a bytes None = Some (record s { memory = with_bytes s.memory a bytes })
bytes_set s a bytes (Some at) = None

abbrev pub take_item : Program → PlainState → Item → Option PlainState
take_item p s (Step h) = plain_step p s h (slice_get s.harts h)
take_item p s (Reg h n v) = register_set s h n v (slice_get s.harts h)
take_item p s (Bytes a bytes) = bytes_set s a bytes (first_unwritable s.memory a (length bytes))

-- the items in turn; none where a step traps, an item is of a hart that has exited or isn't there, a register is x0 or
-- isn't one, or a byte that is set isn't writable
abbrev pub run_from : Program → PlainState → List Item → Option PlainState
run_from p s [] = Some s
run_from p s (i ∷ is) = option_and_then (λ t. run_from p t is) (take_item p s i)

-- the first n harts of so many, as they start
abbrev pub first_harts : Program → ℕ → ℕ → List PlainHart
first_harts p harts zero = []
first_harts p harts (suc n) = first_harts p harts n ++ record { regs = first_registers p.entry harts n; has_exited = false } ∷ []

abbrev pub plain_start : Program → ℕ → PlainState
plain_start p harts = record { harts = first_harts p harts harts; memory = start_memory p harts; out = [] }

-- a whole run of a program on so many harts
unfoldable pub plain_run : Program → ℕ → List Item → Option PlainState
plain_run p harts is = run_from p (plain_start p harts) is
