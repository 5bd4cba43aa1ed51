-- Live threads, and how they are shown. This project's own.
use Rattle.std.specs.Prelude.{ℕ, Option, Some, None}
use Rattle.std.specs.Option.{option_map}
use Rattle.rv_exec.specs.Registers.{Registers}
use Rattle.dbg_model.specs.Sources.{Sources}
use Rattle.dbg_model.specs.declared.reply.Thread.{Thread}
use Rattle.dbg_model.specs.declared.frame.ShownFrame.{ShownFrame}
use Rattle.dbg_model.specs.declared.thread_view.ThreadView.{ThreadView}
use Rattle.dbg_model.specs.declared.thread_view.ThreadView.TheVariants as view
use Rattle.dbg_model.specs.Places.{own_frame}
use Rattle.dbg_answers.specs.declared.live.LiveThread.{LiveThread}

-- a thread that hasn't exited
abbrev pub live_thread : ℕ → ThreadView → Option LiveThread
live_thread thread (view.Stopped r) = Some (record { number = thread; stopped = Some r })
live_thread thread view.Running = Some (record { number = thread; stopped = None })
live_thread thread view.Exited = None

-- the frame that a thread with these registers is in
abbrev pub frame_at : Sources → Registers → ShownFrame
frame_at sources r = own_frame sources r.pc

-- a live thread as it is shown
abbrev pub live_shown : Sources → LiveThread → Thread
live_shown sources x = record { number = x.number; stopped_at = option_map (frame_at sources) x.stopped }
