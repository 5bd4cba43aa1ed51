use Rattle.std.proofs.Common.{◌≡◌, length, ◌∙◌, arith}
use Rattle.data_memory.proofs.Bytes.{access_default, seen_length, store_seen}
use Rattle.data_memory.proofs.frames.Frames.is_writable.Goals as goal

pub index-requires : goal.index-requires
index-requires c =
    let same : length c.self.inside.accesses.items ≡ length c.self.inside.values.items = c.self.invariant in
    omega (arith, c.requires, same, c.self.inside.accesses.ok.0, seen_length c.self.inside.accesses.items c.self.inside.values.items c.args.self.now c.self.view_is c.self.invariant)

pub returns : goal.returns
returns c =
    c.may_store.ensures
    ∙ store_seen c.self.inside.accesses.items c.self.inside.values.items c.args.self.now c.args.at c.index.result.now c.self.view_is c.self.invariant
    (c.index.ensures ∙ access_default c.self.inside.accesses.items c.args.at c.index.result.now
    (let same : length c.self.inside.accesses.items ≡ length c.self.inside.values.items = c.self.invariant in omega
    (arith, c.requires, same, seen_length c.self.inside.accesses.items c.self.inside.values.items c.args.self.now c.self.view_is c.self.invariant)))
