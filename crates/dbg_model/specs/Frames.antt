-- Where a thread is in the source, and who called it (GDB manual, "GDB/MI Stack Manipulation Commands", "GDB/MI Frame
-- Information").
use Rattle.std.specs.Prelude.{ℕ, List, length, map, Option, Result, Ok}
use Rattle.rv_exec.specs.Registers.{Registers}
use Rattle.frame_walk.specs.declared.frame.Frame.{Frame}
use Rattle.frame_walk.specs.Frames.{frames_of}
use Rattle.dbg_model.specs.Sources.{Sources}
use Rattle.dbg_model.specs.declared.frame.ShownFrame.{ShownFrame}
use Rattle.dbg_model.specs.declared.reply.Content.TheVariants as content
use Rattle.dbg_model.specs.declared.reply.Refused.{Refused}
use Rattle.dbg_model.specs.Views.{register, shown_byte}
use Rattle.dbg_model.specs.Sight.{Sight, stopped, thread_or}
use Rattle.dbg_model.specs.Outcome.{Outcome, and_then, showing}
use Rattle.dbg_model.specs.Places.{place_frame, own_frame}

-- a frame of a walk as it is shown
abbrev pub frame_shown : Sources → Frame → ShownFrame
frame_shown sources f = place_frame sources f.pc f.lookup

-- the frames of a thread with these registers, the innermost first
abbrev pub frames_shown : Sight → Registers → List ShownFrame
frames_shown s r = map (frame_shown s.sources) (frames_of s.sources.frames s.image (register r) (shown_byte s.image s.memory))

abbrev pub frame_list : Sight → Option ℕ → Result Outcome Refused
frame_list s thread = and_then (stopped s (thread_or s.selected thread)) (λ r. Ok (showing (content.Frames (frames_shown s r))))

abbrev pub frame_depth : Sight → Option ℕ → Result Outcome Refused
frame_depth s thread = and_then (stopped s (thread_or s.selected thread)) (λ r. Ok (showing (content.Depth (length (frames_shown s r)))))

-- the innermost frame
abbrev pub frame_info : Sight → Option ℕ → Result Outcome Refused
frame_info s thread = and_then (stopped s (thread_or s.selected thread)) (λ r. Ok (showing (content.Frame (own_frame s.sources r.pc))))
