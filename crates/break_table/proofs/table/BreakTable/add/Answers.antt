use Rattle.std.proofs.Common.{◌≡◌, ◌+◌, ◌++◌, ◌<◌, ap, arith, refl, [], ◌∷◌, IsOk, vec_len, length, map, subst, sym, ◌∙◌}
use Rattle.std.proofs.lemmas.List.{length-map}
use Rattle.break_table.specs.Entry.{entry_of}
use Rattle.break_table.specs.Table.{Table}
use Rattle.break_table.proofs.Lists.{if-ok}
use Rattle.break_table.proofs.Placing.{ArePlaced-push}
use Rattle.break_table.proofs.Keeping.{IsKept-inserted}
use Rattle.break_table.proofs.table.BreakTable.add.Goals as goal

pub invariant_of-self : goal.invariant_of-self
invariant_of-self c =
    let held : vec_len c.self.inside.entries ≡ length (map entry_of c.self.inside.entries.items) = c.self.inside.entries.ok.0 ∙ sym (length-map c.self.inside.entries.items entry_of) in
    let room = subst (λ (t : Table). length t.entries < 128) (sym c.self.view_is) c.requires.room in
    let free : vec_len c.self.inside.entries < 128 = omega (arith, room, held) in
    let ok : IsOk c.push.result = c.push.ensures.succeeds (omega (arith, c.self.invariant.room)) in
    let pushed : c.push.new.self.items ≡ c.self.inside.entries.items ++ c.new.result ∷ [] = if-ok c.push.result _ _ _ ok c.push.ensures.items in
    let more : vec_len c.push.new.self ≡ vec_len c.self.inside.entries + 1 = if-ok c.push.result _ _ _ ok c.push.ensures.len in
    let count : c.len.result ≡ length (map entry_of c.self.inside.entries.items) = c.len.ensures ∙ held in
    let address : c.new.result.address ≡ c.args.spec.address = ap (λ e. e.address) c.new.ensures in
    IsKept-inserted c.self.inside c.push.new.self c.add_place.new.places c.new.result c.self.invariant pushed
    (ArePlaced-push c.self.inside.places.items _ _ _ (entry_of c.new.result) c.self.invariant.placed c.add_place.ensures.sorted c.add_place.ensures.found (rw (count, address) refl))
    (ap (λ e. e.number) c.new.ensures) free more c.push.ensures.capacity c.add_place.ensures.len c.add_place.ensures.capacity
