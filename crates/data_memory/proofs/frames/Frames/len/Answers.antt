use Rattle.std.proofs.Common.{sym, ◌∙◌}
use Rattle.data_memory.proofs.Bytes.{seen_length}
use Rattle.data_memory.proofs.frames.Frames.len.Goals as goal

pub returns : goal.returns
returns c = c.len.ensures ∙ c.self.inside.values.ok.0 ∙ sym (seen_length c.self.inside.accesses.items c.self.inside.values.items c.args.self.now c.self.view_is c.self.invariant)
