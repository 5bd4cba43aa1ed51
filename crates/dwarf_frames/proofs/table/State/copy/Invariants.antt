use Rattle.std.proofs.Common.{◌≡◌, take}
use Rattle.dwarf_frames.proofs.table.State.copy.Given as goal

abbrev pub invariant-loop-rules : goal.invariant-loop-rules
invariant-loop-rules l = l.remembered.items ≡ take l.rules-index l.rules-items
