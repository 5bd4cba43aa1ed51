-- What is answered to a command, and what it changes: two values. This project's own.
use Rattle.std.specs.Prelude.{ℕ, Bool, List, Option, Result, Ok, Err}
use Rattle.break_table.specs.Entry.{Asked, Condition}
use Rattle.watch_points.specs.declared.watch.Watched.{Watched}
use Rattle.mi_commands.specs.declared.command.Displaced.{Displaced}
use Rattle.dbg_model.specs.declared.entry.Poke.{Poke}
use Rattle.step_plans.specs.declared.plan.Plan.{Plan}
use Rattle.dbg_model.specs.declared.reply.Content.{Content}
use Rattle.dbg_model.specs.declared.reply.Content.TheVariants as content
use Rattle.dbg_model.specs.declared.reply.Refused.{Refused}

-- what a line changes
pub data Change : Type 0 where
  stays : Change
  -- these threads go on with a plan
  resumes : List ℕ → Plan → Change
  selects : ℕ → Change
  -- a breakpoint is set
  inserts : Asked → Change
  -- these bytes, which a text gave, are watched
  adds_watch : List ℕ → Watched → Change
  -- the breakpoints and the watches of these numbers are deleted
  deletes : List ℕ → Change
  -- the breakpoints and the watches of these numbers are enabled, or disabled
  enables : Bool → List ℕ → Change
  -- the breakpoint of this number gets another condition, or none
  conditions : ℕ → Option Condition → Change
  -- so many arrivals at the breakpoint of this number are only counted
  ignores : ℕ → ℕ → Change
  -- an interrupt is asked of these threads
  interrupts : List ℕ → Change
  -- displaced stepping is set
  displaces : Displaced → Change
  -- this is to be written into the program
  pokes : Poke → Change
  -- the session ends
  exits : Change

-- what is answered, and what is changed
pub record Outcome : Type 0 where
  pub content : Content
  pub change : Change

-- nothing changes
abbrev pub showing : Content → Outcome
showing c = record { content = c; change = stays }

-- a change with nothing to show
abbrev pub doing : Change → Outcome
doing c = record { content = content.Done; change = c }

-- these threads go on with a plan
abbrev pub going : List ℕ → Plan → Outcome
going threads plan = record { content = content.Running threads; change = resumes threads plan }

abbrev pub and_then : {A B E : Type 0} → Result A E → (A → Result B E) → Result B E
and_then (Ok x) next = next x
and_then (Err e) next = Err e

-- what comes of a command in the end; one that is refused changes nothing
abbrev pub told : Result Outcome Refused → Outcome
told (Ok o) = o
told (Err r) = showing (content.Refused r)
