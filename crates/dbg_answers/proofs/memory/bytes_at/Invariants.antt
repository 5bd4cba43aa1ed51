use Rattle.std.proofs.Common.{◌≡◌}
use Rattle.std.specs.Prelude.{Ok}
use Rattle.dbg_model.specs.Data.{bytes_at}
use Rattle.dbg_answers.specs.Debuggee.{seen}
use Rattle.dbg_answers.proofs.memory.bytes_at.Given as goal

abbrev pub invariant-loop-k : goal.invariant-loop-k
invariant-loop-k l = bytes_at (seen l.fn.debuggee) l.fn.addr l.k ≡ Ok l.bytes.items
