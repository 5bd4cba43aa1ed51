use Rattle.std.proofs.Common.{length, ◌-◌, ◌≡◌}
use Rattle.memory_world.specs.Script.{bytes_before}
use Rattle.memory_world.proofs.script.next_place.Given as goal

abbrev pub invariant-loop-place : goal.invariant-loop-place
invariant-loop-place l = bytes_before l.script l.place ≡ bytes_before l.script l.initial.place

abbrev pub decreases-loop-place : goal.decreases-loop-place
decreases-loop-place l = length l.script - l.place.cue
