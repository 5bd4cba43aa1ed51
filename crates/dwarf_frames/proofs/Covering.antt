-- The FDE that a table finds is the first that covers an address.
use Rattle.std.proofs.Common.{◌≡◌, ℕ, zero, suc, ◌+◌, true, false, List, length, Option, None, Some, Result, Ok, Err, refl, sym, ◌∙◌, ap, cond}
use Rattle.std.specs.Prelude.{nat_le, find, if◌then◌else◌}
use Rattle.address_tables.specs.Tables.{IsTable, value_from}
use Rattle.address_tables.specs.declared.entry.Entry.{Entry}
use Rattle.std.specs.Option.{option_map}
use Rattle.address_tables.specs.Tables as tables
use Rattle.address_tables.specs.Tables.{value_among}
use Rattle.address_tables.specs.declared.entry.AddressRange.{AddressRange}
use Rattle.dwarf_frames.specs.Reading.{◌>>=◌, Read, found}
use Rattle.dwarf_frames.specs.Entries.{Entries, Ends, Fde, covering, covers, entries, entries_from, entry_at, fde_at, fde_of, is_covering, then_rest}
use Rattle.dwarf_frames.specs.Index.{fault_or, fde_ranges, first_fault, unless_faulty}
use Rattle.dwarf_frames.specs.declared.fault.FrameFault.{FrameFault}

-- what is found of a place and a fault
abbrev pub told : List ℕ → Option ℕ → Option FrameFault → Result (Option Fde) FrameFault
told section (Some place) fault = fde_at section place
told section None (Some e) = Err e
told section None None = Ok None

abbrev IsTold : ℕ → List ℕ → Entries → Type 0
IsTold pc section rest = covering pc rest ≡ told section (value_among (fde_ranges rest) pc) (first_fault rest)

pub at_place : (section body : List ℕ) (at next : ℕ) (d : Option Fde) → entry_at section at ≡ found body next → fde_of body ≡ Ok d → Ok d ≡ fde_at section at
unfolding fde_at
at_place section body at next d h f = sym (ap (λ (r : Read (List ℕ)). r >>= (λ entry. fde_of entry.0)) h ∙ f)

by_fde : (pc : ℕ) (section body : List ℕ) (at next : ℕ) (rest : Entries) (d : Result (Option Fde) FrameFault) → entry_at section at ≡ found body next → fde_of body ≡ d → IsTold pc section rest
    → (d >>= (λ d. if is_covering pc d then Ok d else covering pc rest)) ≡ told section (value_among (unless_faulty at d (fde_ranges rest)) pc) (fault_or d (first_fault rest))
by_fde pc section body at next rest (Err e) h f more = refl
by_fde pc section body at next rest (Ok None) h f more = more
by_fde pc section body at next rest (Ok (Some d)) h f more =
    elim (covers d pc) as (λ b. cond b (Ok (Some d)) (covering pc rest) ≡ told section
    (option_map (λ (r : AddressRange ℕ). r.value)
    (cond b (Some (record { begin = d.initial_location; end = d.initial_location + d.address_range; value = at }))
    (find (tables.covers pc) (fde_ranges rest)))) (first_fault rest))
    [ true ↦ at_place section body at next (Some d) h f | false ↦ more ]

by_entry : (pc most : ℕ) (section : List ℕ) (at : ℕ) (r : Read (List ℕ)) → entry_at section at ≡ r → ((next : ℕ) → IsTold pc section (entries_from most section next)) → IsTold pc section (then_rest at r (entries_from most section))
by_entry pc most section at (Err e) h more = refl
by_entry pc most section at (Ok r) h more = by_fde pc section r.0 at r.1 (entries_from most section r.1) (fde_of r.0) h refl (more r.1)

is_told : (pc most : ℕ) (section : List ℕ) (at : ℕ) → IsTold pc section (entries_from most section at)
is_told pc zero section at = refl
is_told pc (suc most) section at =
    elim (nat_le (length section) at) as (λ b. IsTold pc section (cond b Ends (then_rest at (entry_at section at) (entries_from most section))))
    [ true ↦ refl | false ↦ by_entry pc most section at (entry_at section at) refl (is_told pc most section) ]

pub covering_told : (pc : ℕ) (section : List ℕ) → covering pc (entries section) ≡ told section (value_among (fde_ranges (entries section)) pc) (first_fault (entries section))
unfolding entries
covering_told pc section = is_told pc (length section) section 0

-- what is found by the table of an index
pub told_by : (pc number : ℕ) (lent kept shown : List ℕ) (table fdes : List (Entry ℕ)) (fault : Option FrameFault) (place : Option ℕ)
    → lent ≡ kept → kept ≡ shown → IsTable fdes (value_among (fde_ranges (entries kept))) → fault ≡ first_fault (entries kept)
    → table ≡ fdes → number ≡ pc → place ≡ value_from None table number → told lent place fault ≡ covering pc (entries shown)
told_by pc number lent kept shown table fdes fault place l k t f e n v =
    let at : place ≡ value_among (fde_ranges (entries kept)) pc =
    v ∙ ap (λ (rows : List (Entry ℕ)). value_from None rows number) e ∙ ap (value_from None fdes) n ∙ t.value pc in
    ap (λ (bytes : List ℕ). told bytes place fault) l
    ∙ ap (λ (o : Option ℕ). told kept o fault) at
    ∙ ap (told kept (value_among (fde_ranges (entries kept)) pc)) f
    ∙ sym (covering_told pc kept)
    ∙ ap (λ (bytes : List ℕ). covering pc (entries bytes)) k
