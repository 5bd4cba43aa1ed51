-- What a table keeps where its fields change.
use Rattle.std.proofs.Common.{◌≡◌, ℕ, ◌+◌, ◌<◌, ◌≤◌, refl, arith, true, false, cond, [], ◌∷◌, ◌++◌, map, vec_len, vec_capacity, Vec, ◌==◌}
use Rattle.std.specs.Global.{Global}
use Rattle.std.proofs.lemmas.List.{map-append}
use Rattle.break_table.specs.declared.entry.BreakEntry.{BreakEntry}
use Rattle.break_table.specs.declared.table.BreakTable.TheInside.{Inside}
use Rattle.break_table.specs.Entry.{Entry, entry_of}
use Rattle.break_table.specs.Table.{changed_entry}
use Rattle.break_table.specs.Places.{ArePlaced}
use Rattle.break_table.specs.declared.places.Place.{Place}
use Rattle.break_table.specs.Inside.{IsKept}
use Rattle.break_table.proofs.Rising.{IsRising-push, IsRising-map}
use Rattle.break_table.proofs.Placing.{ArePlaced-map}

-- entries that keep their numbers and addresses
pub IsKept-mapped : (f : Entry → Entry) (t : Inside) (entries : Vec BreakEntry Global) → ((e : Entry) → (f e).number ≡ e.number)
    → ((e : Entry) → (f e).address ≡ e.address) → IsKept t → map entry_of entries.items ≡ map f (map entry_of t.entries.items)
    → vec_len entries ≡ vec_len t.entries → vec_capacity entries ≡ vec_capacity t.entries → IsKept (record t { entries = entries })
IsKept-mapped f t entries named standing kept is long room = record {
  rising = rw is (IsRising-map 0 t.given f named (map entry_of t.entries.items) kept.rising);
  few = omega (arith, kept.few);
  room = omega (arith, kept.room);
  same = omega (arith, kept.same);
  room_for_places = kept.room_for_places;
  placed = rw is (ArePlaced-map f standing t.places.items (map entry_of t.entries.items) kept.placed);
}

module _ (f : Entry → Entry) (number : ℕ) where
  changed-number : ((e : Entry) → (f e).number ≡ e.number) → (e : Entry) → (changed_entry f number e).number ≡ e.number
  changed-number same e = elim (e.number == number) as (λ b. (cond b (f e) e).number ≡ e.number) [ true ↦ same e | false ↦ refl ]

  changed-address : ((e : Entry) → (f e).address ≡ e.address) → (e : Entry) → (changed_entry f number e).address ≡ e.address
  changed-address same e = elim (e.number == number) as (λ b. (cond b (f e) e).address ≡ e.address) [ true ↦ same e | false ↦ refl ]

  pub IsKept-changed : (t : Inside) (entries : Vec BreakEntry Global) → ((e : Entry) → (f e).number ≡ e.number)
      → ((e : Entry) → (f e).address ≡ e.address) → IsKept t
      → map entry_of entries.items ≡ map (changed_entry f number) (map entry_of t.entries.items) → vec_len entries ≡ vec_len t.entries
      → vec_capacity entries ≡ vec_capacity t.entries → IsKept (record t { entries = entries })
  IsKept-changed t entries named standing = IsKept-mapped (changed_entry f number) t entries (changed-number named) (changed-address standing)

pub IsKept-inserted : (t : Inside) (entries : Vec BreakEntry Global) (places : Vec Place Global) (e : BreakEntry) → IsKept t
    → entries.items ≡ t.entries.items ++ e ∷ [] → ArePlaced places.items (map entry_of t.entries.items ++ entry_of e ∷ []) → e.number ≡ t.given + 1
    → vec_len t.entries < 128 → vec_len entries ≡ vec_len t.entries + 1 → vec_capacity t.entries ≤ vec_capacity entries
    → vec_len places ≡ vec_len t.places + 1 → vec_capacity t.places ≤ vec_capacity places → IsKept (record t { entries = entries; places = places; given = t.given + 1 })
IsKept-inserted t entries places e kept pushed placed next free more room longer wider = record {
  rising = rw (pushed, map-append entry_of t.entries.items (e ∷ []), ← next) (IsRising-push 0 t.given (map entry_of t.entries.items) (entry_of e) kept.rising (omega (arith, next)));
  few = omega arith;
  room = omega (arith, kept.room);
  same = omega (arith, kept.same);
  room_for_places = omega (arith, kept.room_for_places);
  placed = rw (pushed, map-append entry_of t.entries.items (e ∷ [])) placed;
}
