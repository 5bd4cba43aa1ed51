use Rattle.std.proofs.Common.{◌≡◌, ◌-◌, ◌++◌, map}
use Rattle.arrayvec.specs.ArrayVec.{array_vec_len}
use Rattle.frame_walk.specs.Frames.{contexts_from, frame_of, frames_of}
use Rattle.frame_walk.proofs.walking.walk.Given as goal

abbrev pub invariant-loop-number : goal.invariant-loop-number
invariant-loop-number g l = record {
  room : array_vec_len l.into ≡ l._number;
  frames : l.into.items ++ map (frame_of l.index) (contexts_from l.index l.image (g.V.View.bytes l.view) (63 - l._number) l.frame)
      ≡ frames_of l.index l.image (g.V.View.registers l.view) (g.V.View.bytes l.view);
}
