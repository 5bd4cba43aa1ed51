use Rattle.std.proofs.Common.{◌∙◌, sym}
use Rattle.dbg_answers.specs.Debuggee.{seen}
use Rattle.dbg_answers.proofs.Ranges.{bytes_fail}
use Rattle.dbg_answers.proofs.memory.bytes_at.Goals as goal

pub returns-in_default : goal.returns-in_default
returns-in_default c =
    rw c.hindered.ensures
    (bytes_fail (seen c.args.debuggee.now) c.args.addr c.loop-k.k c.args.count c.loop-k.bytes.items c.loop-k-test.true c.loop-k.invariant (sym c.in_default.is ∙ c.shown_byte.ensures))
