-- Which instructions may change the bytes of a watch: those that write where one has its bytes. This project's own.
use Rattle.std.specs.Prelude.{◌≡◌, ℕ, Bool, true, false, ◌||◌, is_some, List, [], ◌∷◌, Option, Some, None, slice_get}
use Rattle.rv_decode.specs.declared.instr.Instr.{Instr}
use Rattle.rv_decode.specs.declared.instr.Instr.TheVariants.{Store, Amo}
use Rattle.rv_exec.specs.Registers.{Registers, get, plus}
use Rattle.rv_exec.specs.Step.{store_len}
use Rattle.text_words.specs.declared.fetch.Fetch.{Fetch}
use Rattle.text_words.specs.declared.fetch.Fetch.TheVariants.{Instruction}
use Rattle.text_words.specs.Words.{Words, fetched}
use Rattle.hart_machine.specs.declared.hart.Core.{Core}
use Rattle.hart_machine.specs.Patched.{Patched}
use Rattle.watch_points.specs.declared.watchpoint.Watch.{Watch}
use Rattle.watch_points.specs.Watches.{meets}
use Rattle.engine_parts.specs.declared.watching.Stored.{Stored}

-- the bytes that an instruction writes; stores and AMOs alone write
abbrev pub stored_by : Registers → Instr → Option Stored
stored_by r (Store op rs1 rs2 imm) = Some (record { address = plus (get r rs1) imm; size = store_len op })
stored_by r (Amo op rd rs1 rs2) = Some (record { address = get r rs1; size = 4 })
stored_by r _ = None

-- an enabled watch has one of them
abbrev pub meets_stored : List Watch → Option Stored → Bool
meets_stored vs None = false
meets_stored vs (Some s) = meets vs s.address s.size

abbrev pub stored_at : Registers → Fetch → Option Stored
stored_at r (Instruction i) = stored_by r i
stored_at r _ = None

-- the bytes that the instruction at pc writes, where one stands there and no breakpoint is planted
abbrev pub written : Words → Registers → Option Stored
written t r = stored_at r (fetched t r.pc)

-- whether a hart's next instruction may change the bytes of a watch: it writes where an enabled one has its bytes, or the hart is in a slot
abbrev pub is_near : Words → Core → List Watch → Bool
is_near t c [] = false
is_near t c (w ∷ vs) = is_some c.entered || meets_stored (w ∷ vs) (written t c.regs)

-- hart h of a machine may change the bytes of a watch by its next instruction
abbrev pub WritesNear : Patched → ℕ → List Watch → Type 0
WritesNear m h vs = (c : Core) → slice_get m.cores h ≡ Some c → is_near m.text c vs ≡ true
