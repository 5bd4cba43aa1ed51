use Rattle.std.proofs.Common.{◌≡◌, length, Some, ap, sym, ◌∙◌, arith}
use Rattle.data_memory.specs.Paged.{spelled, number_of, all_are, may_load}
use Rattle.data_memory.proofs.Bytes.{seen_length, spelled_is, unspelled_is}
use Rattle.data_memory.proofs.frames.Frames.number.Goals as goal

pub all_mapped-requires-clause-within : goal.all_mapped-requires-clause-within
all_mapped-requires-clause-within c =
    let same : length c.self.inside.accesses.items ≡ length c.self.inside.values.items = c.self.invariant in
    omega (arith, ap length c.as_slice.ensures.value, c.requires.within, same, seen_length c.self.inside.accesses.items c.self.inside.values.items c.args.self.now c.self.view_is c.self.invariant)

pub number_of-requires-clause-within : goal.number_of-requires-clause-within
number_of-requires-clause-within c = omega (arith, ap length c.as_slice-then-all_mapped.ensures.value, c.requires.within, seen_length c.self.inside.accesses.items c.self.inside.values.items c.args.self.now c.self.view_is c.self.invariant)

pub returns-then-all_mapped-clause-value : goal.returns-then-all_mapped-clause-value
returns-then-all_mapped-clause-value c =
    ap Some (c.number_of.ensures.value ∙ ap (λ vs. number_of vs c.args.at c.args.len) c.as_slice-then-all_mapped.ensures.value)
    ∙ sym (spelled_is c.self.inside.accesses.items c.self.inside.values.items c.args.at c.args.len c.self.invariant
    (sym (ap (λ xs. all_are may_load xs c.args.at c.args.len) c.as_slice.ensures.value) ∙ sym c.if-all_mapped.ensures))
    ∙ ap (λ s. spelled s c.args.at c.args.len) c.self.view_is

pub returns-else-all_mapped-clause-value : goal.returns-else-all_mapped-clause-value
returns-else-all_mapped-clause-value c =
    sym (unspelled_is c.self.inside.accesses.items c.self.inside.values.items c.args.at c.args.len c.self.invariant
    (sym (ap (λ xs. all_are may_load xs c.args.at c.args.len) c.as_slice.ensures.value) ∙ sym c.if-all_mapped.ensures))
    ∙ ap (λ s. spelled s c.args.at c.args.len) c.self.view_is
