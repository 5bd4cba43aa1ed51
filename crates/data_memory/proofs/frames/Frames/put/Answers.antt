use Rattle.std.proofs.Common.{◌≡◌, length, ap, ◌∙◌, arith}
use Rattle.std.specs.Vec.{with_items}
use Rattle.data_memory.specs.Paged.{with_values}
use Rattle.data_memory.proofs.Bytes.{length-with_values, seen_length, put_seen}
use Rattle.std.proofs.lemmas.List.{with_items_is}
use Rattle.data_memory.proofs.frames.Frames.put.Goals as goal

pub put_values-requires-clause-within : goal.put_values-requires-clause-within
put_values-requires-clause-within c = omega (arith, ap length c.as_mut_slice.ensures.value, c.requires.within, seen_length c.self.inside.accesses.items c.self.inside.values.items c.args.self.now c.self.view_is c.self.invariant)

pub returns : goal.returns
returns c =
    let is : c.put_values.new.values ≡ with_values c.self.inside.values.items c.args.at c.args.len c.args.value = c.put_values.ensures ∙ ap (λ vs. with_values vs c.args.at c.args.len c.args.value) c.as_mut_slice.ensures.value in
    let whole : length c.put_values.new.values ≡ c.self.inside.values.len = omega (arith, ap length is, length-with_values c.self.inside.values.items c.args.at c.args.len c.args.value, c.self.inside.values.ok.0) in
    put_seen c.self.inside.accesses.items c.self.inside.values.items (with_items c.self.inside.values c.put_values.new.values).items c.args.self.now c.args.at c.args.len c.args.value
    c.self.view_is c.self.invariant c.requires.writable (with_items_is c.self.inside.values c.put_values.new.values whole ∙ is)
