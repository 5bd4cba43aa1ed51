-- The lines of an entry, by what it shows: the one table of them (GDB manual, "GDB/MI Async Records").
use Rattle.std.specs.Prelude.{◌==◌, Bool, true, false, List, []}
use Rattle.dbg_model.specs.declared.entry.Entry.{Entry}
use Rattle.dbg_model.specs.declared.entry.Entry.TheVariants.{Ran, Counted, Stopped, Left, Did, Poked}
use Rattle.dbg_model.specs.declared.entry.Why.TheVariants.{Break, Watch, Stepped, Finished, Interrupted, Fault}
use Rattle.dbg_model.specs.declared.shown.Shown.{Shown}
use Rattle.dbg_model.specs.declared.shown.Shown.TheVariants.{Nothing, Wrote, Stop, Exit, Answer}
use Rattle.mi_values.specs.Record.{LineTree}
use Rattle.mi_reports.specs.Text.{stop_lines, interrupt_lines, stepped_lines, finished_lines, break_lines, left_lines, stream_lines}
use Rattle.mi_reports.specs.Replies.{reply_lines}
use Rattle.mi_reports.specs.Triggers.{trigger_lines}

abbrev pub lines_of : Entry → Shown → List LineTree
lines_of (Ran h n) (Wrote bytes) = stream_lines bytes
lines_of (Stopped h (Break number error)) (Stop frame temporary watch) = break_lines temporary number error h frame
lines_of (Stopped h (Watch f)) (Stop frame temporary watch) = trigger_lines watch f h frame
lines_of (Stopped h Stepped) (Stop frame temporary watch) = stepped_lines h frame
lines_of (Stopped h Finished) (Stop frame temporary watch) = finished_lines h frame
lines_of (Stopped h Interrupted) (Stop frame temporary watch) = interrupt_lines h frame
lines_of (Stopped h (Fault cause)) (Stop frame temporary watch) = stop_lines cause h frame
lines_of (Left h code) (Exit last) = left_lines h code last
lines_of (Did line) (Answer reply) = reply_lines reply
lines_of e _ = []

-- whether an entry may show this; a `Ran` is of one instruction
abbrev pub may_show : Entry → Shown → Bool
may_show (Ran h n) Nothing = n == 1
may_show (Ran h n) (Wrote bytes) = n == 1
may_show (Stopped h why) (Stop frame temporary watch) = true
may_show (Left h code) (Exit last) = true
may_show (Did line) (Answer reply) = true
may_show (Counted h) Nothing = true
may_show (Poked p) Nothing = true
may_show e _ = false
