use Rattle.std.proofs.Common.{◌≡◌, length, ap, sym, ◌∙◌, arith}
use Rattle.data_memory.specs.Paged.{are_writable, all_are, may_store}
use Rattle.data_memory.proofs.Bytes.{seen_length, writable_is}
use Rattle.data_memory.proofs.frames.Frames.are_writable.Goals as goal

pub all_writable-requires-clause-within : goal.all_writable-requires-clause-within
all_writable-requires-clause-within c =
    let same : length c.self.inside.accesses.items ≡ length c.self.inside.values.items = c.self.invariant in
    omega (arith, ap length c.as_slice.ensures.value, c.requires.within, same, seen_length c.self.inside.accesses.items c.self.inside.values.items c.args.self.now c.self.view_is c.self.invariant)

pub returns : goal.returns
returns c =
    c.all_writable.ensures
    ∙ ap (λ xs. all_are may_store xs c.args.at c.args.len) c.as_slice.ensures.value
    ∙ sym (writable_is c.self.inside.accesses.items c.self.inside.values.items c.args.at c.args.len c.self.invariant)
    ∙ ap (λ s. are_writable s c.args.at c.args.len) c.self.view_is
