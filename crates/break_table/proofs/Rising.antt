-- Lists in rising order of number.
use Rattle.std.proofs.Common.{◌≡◌, ℕ, zero, suc, ◌<◌, ◌≤◌, ap, refl, arith, cond, Bool, true, false, List, [], ◌∷◌, ◌++◌, map, filter, set, get_or, slice_get, Some, ◌==◌, ◌||◌, option_map}
use Rattle.std.proofs.lemmas.Bool.{ne_eqb, eq-eqb}
use Rattle.break_table.specs.declared.entry.BreakEntry.{BreakEntry}
use Rattle.break_table.specs.Entry.{Entry, entry_of}
use Rattle.break_table.specs.Table.{IsRising, changed_entry, has_number}

or-true : (a : Bool) → (a || true) ≡ true
or-true true = refl
or-true false = refl

or-left : (a b : Bool) → (a || b) ≡ false → a ≡ false
or-left true b h = cc
or-left false b h = refl

or-right : (a b : Bool) → (a || b) ≡ false → b ≡ false
or-right true b h = cc
or-right false b h = h

pub IsRising-push : (low high : ℕ) (entries : List Entry) (e : Entry) → IsRising low entries high → high < e.number → IsRising low (entries ++ e ∷ []) e.number
IsRising-push low high [] e h above = (omega arith, omega arith)
IsRising-push low high (x ∷ rest) e h above = (h.0, IsRising-push x.number high rest e h.1 above)

pub IsRising-higher : (low high more : ℕ) (entries : List Entry) → IsRising low entries high → high ≤ more → IsRising low entries more
IsRising-higher low high more [] h above = omega arith
IsRising-higher low high more (x ∷ rest) h above = (h.0, IsRising-higher x.number high more rest h.1 above)

IsRising-lower : (low less high : ℕ) (entries : List Entry) → less ≤ low → IsRising low entries high → IsRising less entries high
IsRising-lower low less high [] below h = omega arith
IsRising-lower low less high (x ∷ rest) below h = let first : low < x.number = h.0 in (omega arith, h.1)

pub IsRising-filter : (low high : ℕ) (p : Entry → Bool) (entries : List Entry) → IsRising low entries high → IsRising low (filter p entries) high
IsRising-filter low high p [] h = h
IsRising-filter low high p (x ∷ rest) h =
    let first : low < x.number = h.0 in
    elim (p x) as (λ b. IsRising low (cond b (x ∷ filter p rest) (filter p rest)) high)
    [ true ↦ (first, IsRising-filter x.number high p rest h.1) | false ↦ IsRising-lower x.number low high (filter p rest) (omega arith) (IsRising-filter x.number high p rest h.1) ]

pub IsRising-map : (low high : ℕ) (f : Entry → Entry) (same : (e : Entry) → (f e).number ≡ e.number) (entries : List Entry) → IsRising low entries high → IsRising low (map f entries) high
IsRising-map low high f same [] h = h
IsRising-map low high f same (x ∷ rest) h = (rw (same x) h.0, rw (same x) (IsRising-map x.number high f same rest h.1))

-- an entry above others is no one of them
IsRising-at : (low high k number : ℕ) (entries : List BreakEntry) → IsRising low (map entry_of entries) high → option_map (λ e. e.number) (slice_get entries k) ≡ Some number → low < number
IsRising-at low high k number [] h at = cc
IsRising-at low high zero number (x ∷ rest) h at = let e : x.number ≡ number = cc in let first : low < x.number = h.0 in omega arith
IsRising-at low high (suc k) number (x ∷ rest) h at =
    let first : low < x.number = h.0 in let later : x.number < number = IsRising-at x.number high k number rest h.1 at in omega arith

changed-above : (low high number : ℕ) (f : Entry → Entry) (entries : List Entry) → IsRising low entries high → number ≤ low → map (changed_entry f number) entries ≡ entries
changed-above low high number f [] h below = refl
changed-above low high number f (x ∷ rest) h below =
    let first : low < x.number = h.0 in
    let other : (x.number == number) ≡ false = ne_eqb x.number number (λ q. omega arith) in
    rw other (ap (λ es. x ∷ es) (changed-above x.number high number f rest h.1 (omega arith)))

-- the entry of a number is changed at its place
pub changed-at : (low high number k : ℕ) (f : Entry → Entry) (entries : List BreakEntry) (after : BreakEntry)
    → IsRising low (map entry_of entries) high → option_map (λ e. e.number) (slice_get entries k) ≡ Some number
    → entry_of after ≡ f (entry_of (get_or entries k after)) → map entry_of (set entries k after) ≡ map (changed_entry f number) (map entry_of entries)
changed-at low high number k f [] after h at is = refl
changed-at low high number zero f (x ∷ rest) after h at is =
    let same : x.number ≡ number = cc in
    let here : (x.number == number) ≡ true = eq-eqb x.number number same in
    let later : map (changed_entry f number) (map entry_of rest) ≡ map entry_of rest = changed-above x.number high number f (map entry_of rest) h.1 (omega arith) in
    rw (here, later) (ap (λ e. e ∷ map entry_of rest) is)
changed-at low high number (suc k) f (x ∷ rest) after h at is =
    let above : x.number < number = IsRising-at x.number high k number rest h.1 at in
    let other : (x.number == number) ≡ false = ne_eqb x.number number (λ q. omega arith) in
    rw other (ap (λ es. entry_of x ∷ es) (changed-at x.number high number k f rest after h.1 at is))

-- an entry of that number stands there
pub has_number-at : (number k : ℕ) (entries : List BreakEntry) → option_map (λ e. e.number) (slice_get entries k) ≡ Some number → has_number number (map entry_of entries) ≡ true
has_number-at number k [] at = cc
has_number-at number zero (x ∷ rest) at = let same : x.number ≡ number = cc in rw (eq-eqb x.number number same) refl
has_number-at number (suc k) (x ∷ rest) at = rw (has_number-at number k rest at, or-true (x.number == number)) refl

-- no entry has the number, so none is changed
pub changed-missing : (number : ℕ) (f : Entry → Entry) (entries : List Entry) → has_number number entries ≡ false → map (changed_entry f number) entries ≡ entries
changed-missing number f [] h = refl
changed-missing number f (x ∷ rest) h =
    let other : (x.number == number) ≡ false = or-left (x.number == number) (has_number number rest) h in
    rw other (ap (λ es. x ∷ es) (changed-missing number f rest (or-right (x.number == number) (has_number number rest) h)))
