-- The machine as one value.
use Rattle.std.specs.Prelude.{List, Option}
use Rattle.rv_exec.specs.Memory.{Memory}
use Rattle.scratch_slots.specs.declared.slots.SlotUse.{SlotUse}
use Rattle.text_words.specs.Words.{Words}
use Rattle.hart_machine.specs.declared.hart.Core.{Core}

pub record Patched : Type 0 where
  pub text : Words
  pub cores : List Core
  pub memory : Memory
  -- who has each scratch slot, with which word
  pub slots : List (Option SlotUse)
