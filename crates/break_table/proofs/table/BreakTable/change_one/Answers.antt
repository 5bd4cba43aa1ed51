use Rattle.std.proofs.Common.{◌≡◌, ◌∙◌, ap, refl, length, map}
use Rattle.std.proofs.lemmas.List.{with_items_is}
use Rattle.break_table.specs.declared.change.Change.{Change}
use Rattle.break_table.specs.declared.change.Change.TheVariants.{Enabled, Condition, Ignore}
use Rattle.break_table.specs.Entry.{Entry, entry_of}
use Rattle.break_table.specs.Changes.{made}
use Rattle.break_table.specs.Table.{changed_entry}
use Rattle.break_table.proofs.Keeping.{IsKept-changed}
use Rattle.break_table.proofs.table.BreakTable.change_one.Goals as goal

made-number : (change : Change) (e : Entry) → (made change e).number ≡ e.number
made-number (Enabled enabled) e = refl
made-number (Condition condition) e = refl
made-number (Ignore ignore) e = refl

made-address : (change : Change) (e : Entry) → (made change e).address ≡ e.address
made-address (Enabled enabled) e = refl
made-address (Condition condition) e = refl
made-address (Ignore ignore) e = refl

pub invariant_of-self : goal.invariant_of-self
invariant_of-self c =
    let long : length c.change_entry.new.entries ≡ c.self.inside.entries.len = c.change_entry.auto.entries ∙ c.deref_mut.ensures.len in
    let f : Entry → Entry = made c.args.change in
    IsKept-changed f c.args.number c.self.inside _ (made-number c.args.change) (made-address c.args.change) c.self.invariant
    (ap (map entry_of) (with_items_is c.self.inside.entries c.change_entry.new.entries long) ∙ c.change_entry.ensures.entries ∙ ap (λ es. map (changed_entry f c.args.number) (map entry_of es)) c.deref_mut.ensures.value)
    refl refl
