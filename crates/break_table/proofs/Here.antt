-- What an arrival does is what the entries at its address do.
use Rattle.std.proofs.Common.{◌≡◌, ℕ, ◌-◌, refl, Bool, true, false, ◌&&◌, cond, List, filter, Option, ◌==◌}
use Rattle.std.specs.List.{list_any}
use Rattle.break_table.specs.Entry.{Entry}
use Rattle.break_table.specs.Arrival.{fits, counts, stops, stays, leaves, raised, settled_entry, due_of}
use Rattle.break_table.specs.Table.{stands, stands_at}
use Rattle.break_table.proofs.Lists.{filter-here, list_any-here, filter-kept}

and-false : (a : Bool) → (a && false) ≡ false
and-false true = refl
and-false false = refl

abbrev pub at : ℕ → Entry → Bool
at addr e = e.address == addr

fits-elsewhere : (hart pc : ℕ) (e : Entry) → at pc e ≡ false → fits hart pc e ≡ false
fits-elsewhere hart pc e h = rw h (and-false e.enabled)

pub stands-here : (addr : ℕ) (entries : List Entry) → stands addr (filter (at addr) entries) ≡ stands addr entries
stands-here addr entries = list_any-here (stands_at addr) (at addr) (λ e h. rw h (and-false e.enabled)) entries

module _ (hart : ℕ) (registers : ℕ → ℕ) (bytes : ℕ → Option ℕ) where
  counts-elsewhere : (e : Entry) → at (registers 32) e ≡ false → counts hart (registers 32) e ≡ false
  counts-elsewhere e h = rw (fits-elsewhere hart (registers 32) e h) refl

  stops-elsewhere : (e : Entry) → at (registers 32) e ≡ false → stops hart registers bytes e ≡ false
  stops-elsewhere e h = rw (fits-elsewhere hart (registers 32) e h) refl

  leaves-elsewhere : (e : Entry) → at (registers 32) e ≡ false → leaves hart registers bytes e ≡ false
  leaves-elsewhere e h = rw (stops-elsewhere e h, and-false e.temporary) refl

  pub due-here : (entries : List Entry) → due_of hart registers bytes (filter (at (registers 32)) entries) ≡ due_of hart registers bytes entries
  due-here entries =
      rw (filter-here (stops hart registers bytes) (at (registers 32)) stops-elsewhere entries, list_any-here (counts hart (registers 32)) (at (registers 32)) counts-elsewhere entries) refl

  -- where no entry at the address leaves, all stay
  pub staying-here : (entries : List Entry) → list_any (leaves hart registers bytes) (filter (at (registers 32)) entries) ≡ false → filter (stays hart registers bytes) entries ≡ entries
  staying-here entries h = filter-kept (stays hart registers bytes) entries (rw (← list_any-here (leaves hart registers bytes) (at (registers 32)) leaves-elsewhere entries) h)

  pub settled_entry-elsewhere : (e : Entry) → at (registers 32) e ≡ false → settled_entry hart registers bytes e ≡ e
  settled_entry-elsewhere e h = rw (counts-elsewhere e h, stops-elsewhere e h) refl

  -- an arrival changes no number and no address
  pub settled_entry-number : (e : Entry) → (settled_entry hart registers bytes e).number ≡ e.number
  settled_entry-number e =
      elim (counts hart (registers 32) e) as
      (λ c. (cond c (record e { times = raised e.times; ignore = e.ignore - 1 }) (cond (stops hart registers bytes e) (record e { times = raised e.times }) e)).number ≡ e.number)
      [ true ↦ refl | false ↦ elim (stops hart registers bytes e) as (λ s. (cond s (record e { times = raised e.times }) e).number ≡ e.number) [ true ↦ refl | false ↦ refl ] ]

  pub settled_entry-address : (e : Entry) → (settled_entry hart registers bytes e).address ≡ e.address
  settled_entry-address e =
      elim (counts hart (registers 32) e) as
      (λ c. (cond c (record e { times = raised e.times; ignore = e.ignore - 1 }) (cond (stops hart registers bytes e) (record e { times = raised e.times }) e)).address ≡ e.address)
      [ true ↦ refl | false ↦ elim (stops hart registers bytes e) as (λ s. (cond s (record e { times = raised e.times }) e).address ≡ e.address) [ true ↦ refl | false ↦ refl ] ]
