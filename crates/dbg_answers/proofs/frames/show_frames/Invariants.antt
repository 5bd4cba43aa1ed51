use Rattle.std.proofs.Common.{◌≡◌, map, take}
use Rattle.dbg_model.specs.Frames.{frame_shown}
use Rattle.dbg_answers.proofs.frames.show_frames.Given as goal

abbrev pub invariant-loop-frame : goal.invariant-loop-frame
invariant-loop-frame l = l.shown.items ≡ map (frame_shown l.fn.sources) (take l.frame-index l.frames)
