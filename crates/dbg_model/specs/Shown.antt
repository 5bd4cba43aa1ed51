-- What an entry shows (GDB manual, "GDB/MI Async Records", "GDB/MI Stream Records", "GDB/MI Result Records").
use Rattle.std.specs.Prelude.{ℕ, Bool, false, List, [], ◌∷◌, Option, Some, None, find, ◌==◌, slice_get}
use Rattle.std.specs.Option.{option_map}
use Rattle.break_table.specs.Entry.{Entry as BreakEntry}
use Rattle.dbg_model.specs.declared.entry.Entry.{Entry}
use Rattle.dbg_model.specs.declared.entry.Entry.TheVariants.{Ran, Stopped, Left, Did}
use Rattle.dbg_model.specs.declared.entry.Why.{Why}
use Rattle.dbg_model.specs.declared.entry.Why.TheVariants as whys
use Rattle.dbg_model.specs.declared.frame.ShownFrame.{ShownFrame}
use Rattle.dbg_model.specs.declared.hart.Hart.{Hart}
use Rattle.dbg_model.specs.declared.opening.Opening.{Opening}
use Rattle.dbg_model.specs.declared.shown.Shown.{Shown}
use Rattle.dbg_model.specs.declared.shown.Shown.TheVariants.{Nothing, Wrote, Stop, Exit, Answer}
use Rattle.dbg_model.specs.declared.shown.ShownWatch.{ShownWatch}
use Rattle.watch_points.specs.declared.watchpoint.Watch.{Watch}
use Rattle.dbg_model.specs.Breaks.{is_temporary}
use Rattle.dbg_model.specs.Sources.{Sources, sources_of}
use Rattle.dbg_model.specs.Places.{own_frame}
use Rattle.dbg_model.specs.State.{State, all_gone}
use Rattle.dbg_model.specs.Reply.{reply_of}
use Rattle.dbg_model.specs.Lawful.{one_out, exited_at}

-- the bytes that an instruction wrote
abbrev pub written : List ℕ → Shown
written [] = Nothing
written (b ∷ bs) = Wrote (b ∷ bs)

abbrev pub hart_pc : Option Hart → ℕ
hart_pc None = 0
hart_pc (Some x) = x.regs.pc

-- the frame that hart h is in
abbrev pub frame_at : Sources → List Hart → ℕ → ShownFrame
frame_at sources xs h = own_frame sources (hart_pc (slice_get xs h))

-- whether it is a temporary one of these breakpoints that stops a hart
abbrev pub stops_once : List BreakEntry → Why → Bool
stops_once bs (whys.Break number error) = is_temporary bs number
stops_once bs _ = false

-- the watch of that number
abbrev pub watch_of : List Watch → ℕ → Option Watch
watch_of ws number = find (λ w. w.number == number) ws

abbrev pub shown_watch : Watch → ShownWatch
shown_watch w = record { text = w.text; signed = w.signed }

-- the one of these watches that stops a hart
abbrev pub stopping_watch : List Watch → Why → Option ShownWatch
stopping_watch ws (whys.Watch f) = option_map shown_watch (watch_of ws f.number)
stopping_watch ws _ = None

-- what an entry shows that comes in a state; a `Ran` is of one instruction
abbrev pub shown_of : Opening → State → Entry → Shown
shown_of o s (Ran h n) = written (one_out o h s)
shown_of o s (Stopped h why) = Stop (frame_at (sources_of o.image) s.harts h) (stops_once s.breaks why) (stopping_watch s.watches why)
shown_of o s (Left h code) = Exit (all_gone (exited_at s.harts h (slice_get s.harts h)))
shown_of o s (Did line) = Answer (reply_of o s line)
shown_of o s _ = Nothing
