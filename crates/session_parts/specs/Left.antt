-- What is left of a session. This project's own.
use Rattle.std.specs.Prelude.{◌≡◌, List, None, map, []}
use Rattle.rv_exec.specs.Registers.{Registers}
use Rattle.plain_machine.specs.PlainRun.{PlainHart}
use Rattle.hart_machine.specs.declared.hart.Core.{Core}
use Rattle.dbg_model.specs.declared.hart.Hart.{Hart}
use Rattle.dbg_model.specs.Journals.{Leaves}
use Rattle.engine_parts.specs.declared.ending.Closed.{Closed}
use Rattle.engine_parts.specs.Seen.{waits_of}
use Rattle.engine_parts.specs.Facts.{Planted, Retired, CopiedOver}
use Rattle.session_parts.specs.Stage.{Stage}

-- the registers of harts, as the machine, the journal's state and the plain run have them
abbrev pub core_registers : List Core → List Registers
core_registers cs = map (λ c. c.regs) cs

abbrev pub hart_registers : List Hart → List Registers
hart_registers xs = map (λ x. x.regs) xs

abbrev pub plain_registers : List PlainHart → List Registers
plain_registers xs = map (λ x. x.regs) xs

-- what a session's engine left
pub record IsLeft (r : Stage) (c : Closed) : Type 0 where
  pub opening : c.opening ≡ r.opening
  pub journal : c.journal ≡ r.journal
  pub leaves : Leaves c.opening c.journal r.state
  pub registers : core_registers c.machine.cores ≡ hart_registers r.state.harts
  pub memory : c.machine.memory ≡ r.state.memory
  -- a patch is planted exactly where an enabled breakpoint stands, or a hart waits for a return
  pub planted : Planted c.opening.image c.machine.text (record { entries = r.state.breaks; waits = waits_of c.opening.image r.state.harts; hold = None })
  pub retired : Retired c.machine.cores c.journal
  -- breakpoints were stepped over by copies
  pub copied : CopiedOver c.opening.settings.slots c.machine.cores r.state
