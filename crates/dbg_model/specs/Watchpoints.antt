-- What is answered to the command that watches bytes (GDB manual, "GDB/MI Breakpoint Commands": -break-watch).
use Rattle.std.specs.Prelude.{ℕ, ◌+◌, List, length, Result, Ok, Err, nat_lt}
use Rattle.elf_symbols.specs.Names.{Names}
use Rattle.data_memory.specs.Ranges.{range_at}
use Rattle.watch_points.specs.declared.watch.Watched.{Watched}
use Rattle.watch_points.specs.declared.fault.WatchFault.{WatchFault}
use Rattle.watch_points.specs.declared.fault.WatchFault.TheVariants.{Expr, Form, Value}
use Rattle.watch_points.specs.Reading.{watching}
use Rattle.dbg_model.specs.declared.reply.Content.TheVariants as content
use Rattle.dbg_model.specs.declared.reply.Obstacle.TheVariants.{DivisionByZero, Expression, TooManyWatches, Unreadable}
use Rattle.dbg_model.specs.declared.reply.Refused.{Refused}
use Rattle.dbg_model.specs.declared.reply.Refused.TheVariants.{Hindered, Unwatchable}
use Rattle.watch_points.specs.Watches.{most_watches}
use Rattle.dbg_model.specs.Sight.{Sight}
use Rattle.dbg_model.specs.Breakpoints.{ensured}
use Rattle.dbg_model.specs.Outcome.{Outcome, and_then, adds_watch}

abbrev pub watched_as : List ℕ → Result Watched WatchFault → Result Watched Refused
watched_as text (Ok b) = Ok b
watched_as text (Err (Expr f)) = Err (Hindered (Expression f))
watched_as text (Err Form) = Err (Unwatchable text)
watched_as text (Err Value) = Err (Hindered DivisionByZero)

-- the bytes that a text asks to be watched
abbrev pub watched : Names → List ℕ → Result Watched Refused
watched names text = watched_as text (watching names text)

abbrev pub all_read : Result (List ℕ) ℕ → Result Unit Refused
all_read (Ok bytes) = Ok tt
all_read (Err addr) = Err (Hindered (Unreadable addr))

-- each of them has to be data; text is none
abbrev pub are_data : Sight → Watched → Result Unit Refused
are_data s b = all_read (range_at s.memory b.address b.size)

-- there has to be room for one more watch
abbrev pub watch_room : Sight → Result Unit Refused
watch_room s = ensured (nat_lt (length s.watches) most_watches) TooManyWatches

abbrev pub adding : Sight → List ℕ → Watched → Outcome
adding s text b = record { content = content.Watching (s.given + 1) text; change = adds_watch text b }

abbrev pub watch : Sight → List ℕ → Result Outcome Refused
watch s text =
    and_then (watched s.sources.names text) (λ b.
    and_then (are_data s b) (λ u.
    and_then (watch_room s) (λ u.
    Ok (adding s text b))))
