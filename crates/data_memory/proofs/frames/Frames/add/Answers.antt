use Rattle.std.proofs.Common.{◌≡◌, ◌+◌, ◌-◌, length, arith}
use Rattle.std.specs.Vec.{vec_len}
use Rattle.data_memory.proofs.Bytes.{grown}
use Rattle.data_memory.proofs.frames.Frames.add.Goals as goal

pub returns : goal.returns
returns c =
    grown c.self.inside.accesses.items c.resize-2.new.self.items c.self.inside.values.items c.resize.new.self.items c.args.self.now (c.len-len.result + 512)
    (c.len-len.result + 512 - vec_len c.self.inside.accesses) (c.len-len.result + 512 - vec_len c.self.inside.values) c.self.view_is c.self.invariant
    c.in_default.ensures.items c.in_ok-resize.ensures.items
    (omega (arith, c.len-len.ensures, c.self.inside.values.ok.0))
    (let same : length c.self.inside.accesses.items ≡ length c.self.inside.values.items = c.self.invariant in omega (arith, c.len-len.ensures, same, c.self.inside.values.ok.0, c.self.inside.accesses.ok.0))
    (omega (arith, c.len-len.ensures))
