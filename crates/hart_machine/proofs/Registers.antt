-- The registers of a hart that runs in no slot, as steps of the hart.
use Rattle.std.proofs.Common.{◌≡◌, ℕ, zero, suc, ◌<◌, ◌^◌, List, arith, sym, refl}
use Rattle.std.specs.Prelude.{Option, None}
use Rattle.rv_exec.specs.declared.effect.Stepped.TheVariants as stepped
use Rattle.rv_exec.specs.Memory.{Memory}
use Rattle.rv_exec.specs.Registers.{Registers}
use Rattle.text_words.specs.Words.{Words}
use Rattle.scratch_slots.specs.declared.slots.SlotUse.{SlotUse}
use Rattle.hart_machine.specs.declared.hart.Core.{Core}
use Rattle.hart_machine.specs.Stepping.{counted}
use Rattle.hart_machine.specs.Running.{CoreAllRan, RegistersAllRan}
use Rattle.hart_machine.specs.Slices.{taken_core}
use Rattle.hart_machine.proofs.Runs.{fetched_step}
use Rattle.hart_machine.proofs.Slices.{none_taken}

module _ (t : Words) (slots : List (Option SlotUse)) (c : Core) (m : Memory) (none : c.entered ≡ None) (few : c.retired < 2 ^ 64) where
  pub core_ran : (n : ℕ) (r : Registers) (m' : Memory) → RegistersAllRan n t c.regs m r m' → CoreAllRan n t slots c m (taken_core c n r) m'
  core_ran zero r m' k = (none_taken c r few (sym k.0), k.1)
  core_ran (suc n) r m' k =
      let d : Core = taken_core c n k.regs in
      let d' : Core = taken_core c (suc n) r in
      let one : d'.retired ≡ counted stepped.Ran d.retired = omega arith in
      record {
        core = d;
        memory = k.memory;
        before = core_ran n k.regs k.memory k.before;
        below = k.below;
        step = fetched_step t slots d d' k.memory m' none k.gives one refl refl;
      }
