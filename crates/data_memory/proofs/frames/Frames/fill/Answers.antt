use Rattle.std.proofs.Common.{◌≡◌, ◌-◌, Bool, ℕ, length, cond, ap, sym, ◌∙◌, arith}
use Rattle.std.specs.Prelude.{slice_index, slice_index_or}
use Rattle.std.specs.Vec.{with_items}
use Rattle.std.proofs.lemmas.List.{with_items_is}
use Rattle.elf32_read.specs.Fields.{spans}
use Rattle.data_memory.specs.declared.access.Access.TheVariants.{Absent}
use Rattle.data_memory.proofs.Bytes.{seen_length, length-bytes_of, block_seen}
use Rattle.data_memory.proofs.frames.Frames.fill.Goals as goal

pub fill_accesses-requires : goal.fill_accesses-requires
fill_accesses-requires c =
    let same : length c.self.inside.accesses.items ≡ length c.self.inside.values.items = c.self.invariant in
    omega (arith, ap length c.as_mut_slice.ensures.value, c.requires.within, same, seen_length c.self.inside.accesses.items c.self.inside.values.items c.args.self.now c.self.view_is c.self.invariant)

pub fill_values-requires-clause-within : goal.fill_values-requires-clause-within
fill_values-requires-clause-within c =
    omega (arith, ap length c.as_mut_slice-2.ensures.value, c.requires.within, seen_length c.self.inside.accesses.items c.self.inside.values.items c.args.self.now c.self.view_is c.self.invariant)

accesses_are : (c : goal.After-self-2-1) → (with_items c.self.inside.accesses c.fill_accesses.new.accesses).items ≡ c.fill_accesses.new.accesses
accesses_are c = with_items_is c.self.inside.accesses c.fill_accesses.new.accesses (c.fill_accesses.ensures.size ∙ ap length c.as_mut_slice.ensures.value ∙ sym c.self.inside.accesses.ok.0)

values_are : (c : goal.After-self-2-1) → (with_items c.self.inside.values c.fill_values.new.values).items ≡ c.fill_values.new.values
values_are c = with_items_is c.self.inside.values c.fill_values.new.values (c.fill_values.ensures.size ∙ ap length c.as_mut_slice-2.ensures.value ∙ sym c.self.inside.values.ok.0)

alike : (c : goal.After-self-2-1) → length (with_items c.self.inside.accesses c.fill_accesses.new.accesses).items ≡ length (with_items c.self.inside.values c.fill_values.new.values).items
alike c =
    let same : length c.self.inside.accesses.items ≡ length c.self.inside.values.items = c.self.invariant in
    ap length (accesses_are c) ∙ c.fill_accesses.ensures.size ∙ ap length c.as_mut_slice.ensures.value ∙ same ∙ sym (ap length (values_are c) ∙ c.fill_values.ensures.size ∙ ap length c.as_mut_slice-2.ensures.value)

pub returns-clause-size : goal.returns-clause-size
returns-clause-size c =
    length-bytes_of (with_items c.self.inside.accesses c.fill_accesses.new.accesses).items (with_items c.self.inside.values c.fill_values.new.values).items (alike c)
    ∙ ap length (values_are c)
    ∙ c.fill_values.ensures.size
    ∙ ap length c.as_mut_slice-2.ensures.value
    ∙ sym (seen_length c.self.inside.accesses.items c.self.inside.values.items c.args.self.now c.self.view_is c.self.invariant)

pub returns-clause-each : goal.returns-clause-each
returns-clause-each c i =
    let t : Bool = spans c.args.at c.args.len i in
    let v : ℕ = slice_index c.args.values.now (i - c.args.at) in
    block_seen c.self.inside.accesses.items (with_items c.self.inside.accesses c.fill_accesses.new.accesses).items c.self.inside.values.items
    (with_items c.self.inside.values c.fill_values.new.values).items c.args.self.now t c.args.access v i
    c.self.view_is c.self.invariant (alike c)
    (ap (λ xs. slice_index_or xs i Absent) (accesses_are c) ∙ c.fill_accesses.ensures.each i ∙ ap (λ xs. cond t c.args.access (slice_index_or xs i Absent)) c.as_mut_slice.ensures.value)
    (ap (λ xs. slice_index xs i) (values_are c) ∙ c.fill_values.ensures.each i ∙ ap (λ xs. cond t v (slice_index xs i)) c.as_mut_slice-2.ensures.value)
