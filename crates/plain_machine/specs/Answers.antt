-- What the answer of a step says of the instruction: this project's own relation between the code's answers and the
-- definition of a step.
use Rattle.std.specs.Prelude.{◌≡◌, ◌<◌, ℕ, List, [], Some}
use Rattle.rv_exec.specs.declared.effect.Stepped.{Stepped}
use Rattle.rv_exec.specs.declared.effect.Stepped.TheVariants as stepped
use Rattle.rv_exec.specs.Registers.{Registers}
use Rattle.rv_exec.specs.Memory.{Memory}
use Rattle.data_memory.specs.Ranges.{bytes_at}
use Rattle.plain_machine.specs.Environment.{Answer, Traps, Goes, Stays, LeavesAlone, LeavesAll}

-- the answer of a step says what the instruction did
abbrev pub StepGives : Stepped → Answer → Registers → Registers → Memory → Memory → Type 0
StepGives stepped.Ran a r r' m m' = a ≡ Goes r' m' [] Stays
StepGives (stepped.Wrote addr len) a r r' m m' = (out : List ℕ) × (0 < len) × (bytes_at m' addr len ≡ Some out) × (a ≡ Goes r' m' out Stays)
StepGives (stepped.HartExit code) a r r' m m' = a ≡ Goes r' m' [] (LeavesAlone code)
StepGives (stepped.AllExit code) a r r' m m' = a ≡ Goes r' m' [] (LeavesAll code)
StepGives stepped.Hit a r r' m m' = ⊥
StepGives (stepped.Trap cause) a r r' m m' = (a ≡ Traps cause) × (r' ≡ r) × (m' ≡ m)

-- the code of an exit is a byte
abbrev pub IsByteCode : Stepped → Type 0
IsByteCode stepped.Ran = Unit {0}
IsByteCode (stepped.Wrote addr len) = Unit {0}
IsByteCode (stepped.HartExit code) = code < 256
IsByteCode (stepped.AllExit code) = code < 256
IsByteCode stepped.Hit = Unit {0}
IsByteCode (stepped.Trap cause) = Unit {0}
