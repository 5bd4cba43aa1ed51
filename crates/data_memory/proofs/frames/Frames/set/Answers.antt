use Rattle.std.proofs.Common.{◌≡◌, length, ap, ◌∙◌, arith}
use Rattle.std.specs.Prelude.{slice_set}
use Rattle.data_memory.specs.Paged.{byte_of}
use Rattle.data_memory.proofs.Bytes.{seen_length, bytes_set}
use Rattle.data_memory.proofs.frames.Frames.set.Goals as goal

pub index_mut-requires : goal.index_mut-requires
index_mut-requires c =
    let same : length c.self.inside.accesses.items ≡ length c.self.inside.values.items = c.self.invariant in
    omega (arith, c.requires, same, c.self.inside.accesses.ok.0, seen_length c.self.inside.accesses.items c.self.inside.values.items c.args.self.now c.self.view_is c.self.invariant)

pub index_mut-requires-2 : goal.index_mut-requires-2
index_mut-requires-2 c = omega (arith, c.requires, c.self.inside.values.ok.0, seen_length c.self.inside.accesses.items c.self.inside.values.items c.args.self.now c.self.view_is c.self.invariant)

pub returns : goal.returns
returns c =
    bytes_set c.self.inside.accesses.items c.self.inside.values.items c.args.at c.args.access c.args.value c.self.invariant
    ∙ ap (λ s. slice_set s c.args.at (byte_of c.args.access c.args.value)) c.self.view_is
