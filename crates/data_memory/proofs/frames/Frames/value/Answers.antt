use Rattle.std.proofs.Common.{◌≡◌, length, Some, ap, sym, ◌∙◌, arith}
use Rattle.data_memory.proofs.Bytes.{access_default, seen_length, value_seen, no_value_seen}
use Rattle.std.proofs.lemmas.Grind.{get_or_default_zero}
use Rattle.data_memory.proofs.frames.Frames.value.Goals as goal

pub index-requires : goal.index-requires
index-requires c =
    let same : length c.self.inside.accesses.items ≡ length c.self.inside.values.items = c.self.invariant in
    omega (arith, c.requires, same, c.self.inside.accesses.ok.0, seen_length c.self.inside.accesses.items c.self.inside.values.items c.args.self.now c.self.view_is c.self.invariant)

pub index-requires-then-may_load : goal.index-requires-then-may_load
index-requires-then-may_load c = omega (arith, c.requires, c.self.inside.values.ok.0, seen_length c.self.inside.accesses.items c.self.inside.values.items c.args.self.now c.self.view_is c.self.invariant)

pub returns-then-may_load : goal.returns-then-may_load
returns-then-may_load c =
    ap Some (c.index-then-may_load.ensures ∙ get_or_default_zero c.self.inside.values.items c.args.at c.index-then-may_load.result.now
    (omega (arith, c.requires, seen_length c.self.inside.accesses.items c.self.inside.values.items c.args.self.now c.self.view_is c.self.invariant)))
    ∙ value_seen c.self.inside.accesses.items c.self.inside.values.items c.args.self.now c.args.at c.index.result.now c.self.view_is c.self.invariant
    (c.index.ensures ∙ access_default c.self.inside.accesses.items c.args.at c.index.result.now
    (let same : length c.self.inside.accesses.items ≡ length c.self.inside.values.items = c.self.invariant in omega
    (arith, c.requires, same, seen_length c.self.inside.accesses.items c.self.inside.values.items c.args.self.now c.self.view_is c.self.invariant)))
    (sym c.if-may_load.ensures)

pub returns-else-may_load : goal.returns-else-may_load
returns-else-may_load c =
    no_value_seen c.self.inside.accesses.items c.self.inside.values.items c.args.self.now c.args.at c.index.result.now c.self.view_is c.self.invariant
    (c.index.ensures ∙ access_default c.self.inside.accesses.items c.args.at c.index.result.now
    (let same : length c.self.inside.accesses.items ≡ length c.self.inside.values.items = c.self.invariant in omega
    (arith, c.requires, same, seen_length c.self.inside.accesses.items c.self.inside.values.items c.args.self.now c.self.view_is c.self.invariant)))
    (sym c.if-may_load.ensures)
