-- After an exit no patch stays lifted, and who leaves has no slot. This project's own.
use Rattle.std.specs.Prelude.{◌≡◌, ℕ, List, Option, None}
use Rattle.rv_exec.specs.declared.effect.Stepped.{Stepped}
use Rattle.rv_exec.specs.declared.effect.Stepped.TheVariants as stepped
use Rattle.hart_machine.specs.Patched.{Patched}
use Rattle.engine_parts.specs.declared.mind.Hold.{Hold}
use Rattle.engine_parts.specs.declared.mind.Mind.{Mind}
use Rattle.step_over.specs.declared.phase.Phase.{Phase}
use Rattle.engine_parts.specs.declared.homing.Leaving.{Leaving}
use Rattle.engine_parts.specs.Facts.{Wants}
use Rattle.engine_parts.specs.Moves.{Released}
use Rattle.engine_parts.specs.Homecoming.{GoesHome, AllGoHome}

-- a hart after an instruction by which it may leave: where it is in a step over a breakpoint, and what is kept of each hart
pub record LeavingView : Type 0 where
  pub hart : ℕ
  pub phase : Phase
  pub minds : List Mind

abbrev pub leaving_view : Leaving → LeavingView
leaving_view l = record { hart = l.hart; phase = l.phase; minds = l.minds.now }

-- the machine after the harts that leave came home, before the patch is planted again that was lifted, where one is wanted; none is lifted then
pub record ComesHome (m n : Patched) (w : Wants) (hold : Option Hold) (Home : Patched → Type 0) : Type 0 where
  pub between : Patched
  pub home : Home between
  pub released : Released between.text n.text w.entries w.waits w.hold
  pub rest : n ≡ record between { text = n.text }
  pub none : hold ≡ None

-- an exit of a hart takes it home, one of all takes all home, and else nothing changed
abbrev pub HomedBy : Stepped → Wants → Option Hold → LeavingView → Patched → Patched → Type 0
HomedBy (stepped.HartExit code) w hold l m n = ComesHome m n w hold (λ k. GoesHome m k l.hart l.phase)
HomedBy (stepped.AllExit code) w hold l m n = ComesHome m n w hold (λ k. AllGoHome m k 0 l.minds)
HomedBy _ w hold l m n = (hold ≡ w.hold) × (n ≡ m)
