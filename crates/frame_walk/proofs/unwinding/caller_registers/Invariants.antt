use Rattle.std.proofs.Common.{◌≡◌, ◌<◌, ℕ, length, get_or, Some}
use Rattle.frame_walk.specs.Caller.{rule_of, value_by}
use Rattle.frame_walk.specs.Memory.{data_bytes}
use Rattle.frame_walk.proofs.unwinding.caller_registers.Given as goal

abbrev pub invariant-loop-n : goal.invariant-loop-n
invariant-loop-n g l =
    (length l.values ≡ 32) × ((k : ℕ) → k < l.n → value_by (data_bytes l.image (g.V.View.bytes l.view)) l.registers l.cfa k (rule_of l.rules k) ≡ Some (get_or l.values k 0))
