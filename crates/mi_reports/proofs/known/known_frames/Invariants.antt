use Rattle.std.proofs.Common.{◌≡◌, take, true}
use Rattle.mi_reports.specs.Fits.{frames_fit}
use Rattle.mi_reports.proofs.known.known_frames.Given as goal

abbrev pub invariant-loop-frame : goal.invariant-loop-frame
invariant-loop-frame l = frames_fit (take l.frame-index l.frames) ≡ true
