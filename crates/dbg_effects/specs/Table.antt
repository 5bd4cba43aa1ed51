-- What an effect makes of the table of breakpoints. This project's own.
use Rattle.std.specs.Prelude.{◌≡◌, ◌<◌, List, length, None, Result, Ok, Err}
use Rattle.rv_exec.specs.Memory.{IsLen}
use Rattle.break_table.specs.Entry.{asked_of}
use Rattle.break_table.specs.Table.{Table, insert_fault}
use Rattle.break_table.specs.declared.fault.BreakFault.{BreakFault}
use Rattle.break_table.specs.declared.fault.BreakFault.TheVariants.{NoNumber}
use Rattle.watch_points.specs.declared.watchpoint.Watch.{Watch}
use Rattle.watch_points.specs.Watches.{most_watches}
use Rattle.dbg_model.specs.Outcome.{Change}
use Rattle.dbg_model.specs.Reply.{breaks_after, given_after}
use Rattle.dbg_effects.specs.declared.effect.Effect.{Effect}
use Rattle.dbg_effects.specs.declared.effect.Effect.TheVariants as effect

-- the table after a change
abbrev pub changed_table : Table → Change → Table
changed_table t c = record t { entries = breaks_after t.entries t.given c; given = given_after t.given c }

-- a new breakpoint has its word, room and thread
abbrev pub CanBeMade : Table → Effect → Type 0
CanBeMade t (effect.Insert spec) = insert_fault t (asked_of spec) ≡ None
CanBeMade t _ = Unit {0}

-- a new watch has room, and is of a byte, a half-word or a word
abbrev pub CanBeWatched : List Watch → Effect → Type 0
CanBeWatched ws (effect.Watch text b) = (length ws < most_watches) × IsLen b.size
CanBeWatched ws _ = Unit {0}

-- a call has no other fault than that no breakpoint has its number
abbrev pub LacksAtMost : {A : Type 0} → Result A BreakFault → Type 0
LacksAtMost (Ok a) = Unit {0}
LacksAtMost (Err fault) = fault ≡ NoNumber
