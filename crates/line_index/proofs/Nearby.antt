-- Where no other line begins around an address: one value of the table of sequences, and no such row in its sequence.
use Rattle.std.proofs.Common.{◌≡◌, ℕ, zero, suc, ◌+◌, ◌-◌, ◌≤◌, ◌<◌, ◌^◌, Bool, true, false, List, [], ◌∷◌, length, get_or, Option, None, Some, reverse, filter, find, refl, ap, ◌∙◌, sym, subst, arith, cond}
use Rattle.std.specs.Prelude.{◌≢◌, nat_le, nat_lt, ◌&&◌, ◌==◌, not, option_and_then, if◌then◌else◌}
use Rattle.std.specs.List.{All, Contains, list_any}
use Rattle.std.specs.Option.{option_map_or}
use Rattle.std.specs.List.Sorted.{IsNonDecreasingBy}
use Rattle.std.proofs.lemmas.Bool.Decides.{nat_tests}
use Rattle.std.proofs.lemmas.List.{get_or-reverse, length-reverse}
use Rattle.std.proofs.lemmas.List.Elements.{All-filter, All-head, All-tail, All-contains}
use Rattle.address_tables.specs.Tables.{RisesFrom, value_from}
use Rattle.address_tables.specs.declared.entry.Entry.{Entry}
use Rattle.address_tables.proofs.Lookups.{IsCount, found-last, found-none, rises-order}
use Rattle.address_tables.proofs.Orders.{le-no, le-yes, yes-le, no-le, yes-lt, no-lt}
use Rattle.elf_symbols.specs.Names.{foremost}
use Rattle.line_rows.specs.RowList.{AreInOrder}
use Rattle.line_rows.specs.declared.row.Row.{Row}
use Rattle.line_index.specs.Lines.{addresses, begins, below, is_ahead, is_another, least_from, row_in}
use Rattle.line_index.specs.Marks.{has}
use Rattle.line_index.specs.declared.marks.Mark.{Mark}
use Rattle.line_index.specs.declared.marks.Mark.TheVariants.{Another}
use Rattle.line_index.proofs.Least.{IsLeast, Under, is-least}
use Rattle.line_index.proofs.Marked.{has_address}

-- ---- one value of a table

-- up to the next entry as many count
same_count : (entries : List (Entry ℕ)) (pc a count : ℕ) → RisesFrom 0 entries → count ≤ length entries → IsCount entries pc count
    → ((d : Entry ℕ) → 0 < count → (get_or entries (count - 1) d).address ≤ a) → ((d : Entry ℕ) → count < length entries → a < (get_or entries count d).address) → IsCount entries a count
same_count entries pc a count rises bound point last next =
    let order = rises-order 0 entries rises in (
      λ k d from before. (let up = order k (count - 1) d (omega (arith, before)) (omega (arith, before, bound)) in let low = last d (omega (arith, before)) in le-yes _ a (omega (arith, up, low))),
      λ k d behind within. (let up = order count k d behind within in let low = next d (omega (arith, behind, within)) in le-no _ a (omega (arith, low, up))),
    )

pub same_value : (entries : List (Entry ℕ)) (pc a count : ℕ) → RisesFrom 0 entries → count ≤ length entries → IsCount entries pc count
    → ((d : Entry ℕ) → 0 < count → (get_or entries (count - 1) d).address ≤ a) → ((d : Entry ℕ) → count < length entries → a < (get_or entries count d).address) → value_from None entries a ≡ value_from None entries pc
same_value entries pc a zero rises bound point last next = sym (found-none entries a 0 (same_count entries pc a 0 rises bound point last next) refl) ∙ found-none entries pc 0 point refl
same_value entries pc a (suc i) rises bound point last next =
    let d : Entry ℕ = record { address = 0; value = None } in
    sym (found-last entries a (suc i) i d (same_count entries pc a (suc i) rises bound point last next) bound (omega arith)) ∙ found-last entries pc (suc i) i d point bound (omega arith)

-- ---- the row of an address is one of the rows

abbrev pub On : (Row → Type 0) → Option Row → Type 0
On P None = Unit {0}
On P (Some r) = P r

find_on : (P : Row → Type 0) (p : Row → Bool) (rows : List Row) → All P rows → On P (find p rows)
find_on P p [] all = tt
find_on P p (r ∷ rows) all = elim (p r) as (λ v. On P (if v then Some r else find p rows)) [ true ↦ All-head P r rows all | false ↦ find_on P p rows (All-tail P r rows all) ]

all_reverse : (P : Row → Type 0) (rows : List Row) → All P rows → All P (reverse rows)
all_reverse P rows all k d within =
    let inside : k < length rows = omega (arith, within, length-reverse rows) in
    subst P (sym (get_or-reverse rows k d inside)) (all (length rows - 1 - k) d (omega (arith, inside)))

row_on : (P : Row → Type 0) (pc : ℕ) (rows : List Row) → All P rows → On P (row_in pc rows)
row_on P pc rows all =
    let some = filter (λ (r : Row). nat_le r.address pc) rows in
    find_on P _ (reverse some) (all_reverse P some (All-filter (λ (r : Row). nat_le r.address pc) P rows all))

-- ---- no other line begins

-- rows that don't have the mark in a range, but at one address
abbrev pub Clear : ℕ → ℕ → ℕ → Mark → Row → Type 0
Clear start end pc mark r = start ≤ r.address → r.address < end → r.address ≢ pc → has mark r ≡ false

begins_by : (file line a : ℕ) (r : Row) (b s : Bool) → (b ≡ true → s ≡ true → is_another file line r ≡ false) → option_map_or (is_another file line) (if b && s then Some r else None) false ≡ false
begins_by file line a r true true clear = clear refl refl
begins_by file line a r true false clear = refl
begins_by file line a r false s clear = refl

other_off : (s b : Bool) → s ≡ true → (s && b) ≡ false → b ≡ false
other_off true b e f = f
other_off false b e f = cc

row_clear : (file line start end pc a : ℕ) (o : Option Row) → start ≤ a → a < end → a ≢ pc → On (Clear start end pc (Another file line)) o → option_map_or (is_another file line) (option_and_then (begins a) o) false ≡ false
row_clear file line start end pc a None from below apart on = refl
row_clear file line start end pc a (Some r) from below apart on =
    begins_by file line a r (r.address == a) r.is_stmt
    (λ e s. (let same : r.address ≡ a = grind (arith, nat_tests) in other_off r.is_stmt (is_another file line r) s (on (omega (arith, same, from)) (omega (arith, same, below)) (λ is. apart (sym same ∙ is)))))

pub none_begins : (file line start end pc a : ℕ) (rows : List Row) → start ≤ a → a < end → a ≢ pc → All (Clear start end pc (Another file line)) rows
    → option_map_or (is_another file line) (option_and_then (begins a) (row_in a rows)) false ≡ false
none_begins file line start end pc a rows from below apart all = row_clear file line start end pc a (row_in a rows) from below apart (row_on (Clear start end pc (Another file line)) a rows all)

-- ---- rows with a mark

-- the first one above an address
not_above : (start end n : ℕ) (o found : Option ℕ) → below end o ≡ found → Under o n → n < end → (a : ℕ) → (found ≡ None → ⊥) × ((f : ℕ) → found ≡ Some f → f ≤ n)
not_above start end n None found is under low a = absurd under
not_above start end n (Some b) found is under low a =
    let less : nat_lt b end ≡ true = grind (arith, nat_tests) in
    let here : Some b ≡ found = sym (ap (λ v. if v then Some b else None) less) ∙ is in
    (λ e. (let f : Some b ≡ None = here ∙ e in cc), λ f e. (let g : Some b ≡ Some f = here ∙ e in let same : b ≡ f = cc in omega (arith, same, under)))

-- no row above an address is in front of the first one that was found
pub first_above : (mark : Mark) (rows : List Row) (pc end k : ℕ) (d : Row) (found : Option ℕ) → below end (least_from (pc + 1) (addresses (has mark) rows)) ≡ found → k < length rows → has mark (get_or rows k d) ≡ true
    → pc < (get_or rows k d).address → (get_or rows k d).address < end → (found ≡ None → ⊥) × ((f : ℕ) → found ≡ Some f → f ≤ (get_or rows k d).address)
first_above mark rows pc end k d found is within marked above low =
    let n = (get_or rows k d).address in
    let ns = addresses (has mark) rows in
    let o = least_from (pc + 1) ns in
    let c = has_address (has mark) rows k d within marked in
    let under : Under o n = All-contains (λ m. pc + 1 ≤ m → Under o m) ns n (is-least (pc + 1) ns).under c (omega (arith, above)) in
    not_above (pc + 1) end n o found is under low 0

below_some : (end a : ℕ) (o : Option ℕ) → below end o ≡ Some a → o ≡ Some a
below_some end a None is = cc
below_some end a (Some b) is = elim (nat_lt b end) as (λ v. (if v then Some b else None) ≡ Some a → Some b ≡ Some a) [ true ↦ λ e. e | false ↦ λ e. cc ] is

-- what is found above an address is above it
pub found_above : (pc end a : ℕ) (ns : List ℕ) → below end (least_from (pc + 1) ns) ≡ Some a → pc < a
found_above pc end a ns is = let up = ((is-least (pc + 1) ns).one a (below_some end a (least_from (pc + 1) ns) is)).1 in omega (arith, up)

-- and below the end
pub found_below : (end a : ℕ) (o : Option ℕ) → below end o ≡ Some a → a < end
found_below end a None is = cc
found_below end a (Some b) is =
    elim (nat_lt b end) as (λ v. nat_lt b end ≡ v → (if v then Some b else None) ≡ Some a → a < end) [
      | true ↦ λ e f. (let less = yes-lt b end e in let same : b ≡ a = cc in omega (arith, less, same))
      | false ↦ λ e f. cc
    ] refl is

-- rows around an address, by what was found below and above it
pub clear_row : (mark : Mark) (rows : List Row) (pc start end low high k : ℕ) (d : Row) (found : Option ℕ)
    → below end (least_from (pc + 1) (addresses (has mark) rows)) ≡ found → low ≤ start → high ≤ end → ((f : ℕ) → found ≡ Some f → high ≤ f)
    → All (λ r. low ≤ r.address → r.address < pc → has mark r ≡ false) rows → k < length rows → start ≤ (get_or rows k d).address
    → (get_or rows k d).address < high → (get_or rows k d).address ≢ pc → (b : Bool) → has mark (get_or rows k d) ≡ b → b ≡ false
clear_row mark rows pc start end low high k d found is up down first behind within from less apart false marked = refl
clear_row mark rows pc start end low high k d found is up down first behind within from less apart true marked =
    let n = (get_or rows k d).address in
    elim (nat_lt n pc) as (λ v. nat_lt n pc ≡ v → true ≡ false) [
      | true ↦ λ e. sym marked ∙ behind k d within (omega (arith, up, from)) (yes-lt n pc e)
      | false ↦ λ e.
          let at_least = no-lt n pc e in
          let above : pc < n = by_apart n pc at_least apart in
          let f = first_above mark rows pc end k d found is within marked above (omega (arith, less, down)) in
          none_left found n high f first less
    ] refl
  where
    by_apart : (n pc : ℕ) → pc ≤ n → n ≢ pc → pc < n
    by_apart n pc up apart = elim (nat_lt pc n) as (λ v. nat_lt pc n ≡ v → pc < n) [ true ↦ λ e. yes-lt pc n e | false ↦ λ e. (let same : n ≡ pc = omega (arith, up, no-lt pc n e) in absurd (apart same)) ] refl

    none_left : (found : Option ℕ) (n high : ℕ) → (found ≡ None → ⊥) × ((f : ℕ) → found ≡ Some f → f ≤ n) → ((f : ℕ) → found ≡ Some f → high ≤ f) → n < high → true ≡ false
    none_left None n high f first less = absurd (f.0 refl)
    none_left (Some g) n high f first less = absurd (omega (arith, f.1 g refl, first g refl, less))

-- the rows from a place on up to an address don't have the mark
abbrev pub Behind : ℕ → Mark → List Row → ℕ → Type 0
Behind pc mark rows count = (k : ℕ) (d : Row) → count ≤ k → k < length rows → (get_or rows k d).address < pc → has mark (get_or rows k d) ≡ false

-- what is found around an address, by the search for it
pub record Spans (entries : List (Entry ℕ)) (pc count start end : ℕ) : Type 0 where
  pub bound : count ≤ length entries
  pub point : IsCount entries pc count
  pub none : count ≡ 0 → start ≡ 0
  pub last : (d : Entry ℕ) → 0 < count → start ≡ (get_or entries (count - 1) d).address
  pub next : (d : Entry ℕ) → count < length entries → end ≡ (get_or entries count d).address
  pub past : length entries ≤ count → end ≡ 2 ^ 64 - 1

pub span_same : (entries : List (Entry ℕ)) (pc count start end a : ℕ) → RisesFrom 0 entries → Spans entries pc count start end → start ≤ a → a < end → value_from None entries a ≡ value_from None entries pc
span_same entries pc count start end a rises s from below =
    same_value entries pc a count rises s.bound s.point (λ d some. omega (arith, s.last d some, from)) (λ d some. omega (arith, s.next d some, below))

span_low : (entries : List (Entry ℕ)) (pc count start : ℕ) (d : Entry ℕ) → count ≤ length entries → IsCount entries pc count → start ≡ (get_or entries (count - 1) d).address → 0 < count → start ≤ pc
span_low entries pc count start d bound point last some =
    let at = yes-le (get_or entries (count - 1) d).address pc (point.0 (count - 1) d (omega arith) (omega (arith, some))) in
    omega (arith, last, at)

pub span_from : (entries : List (Entry ℕ)) (pc count start end : ℕ) → Spans entries pc count start end → start ≤ pc
span_from entries pc zero start end s = let low = s.none refl in omega (arith, low)
span_from entries pc (suc i) start end s =
    let d : Entry ℕ = record { address = 0; value = None } in
    let low : start ≤ pc = span_low entries pc (suc i) start d s.bound s.point (s.last d (omega arith)) (omega arith) in
    low

pub span_below : (entries : List (Entry ℕ)) (pc count start end : ℕ) → pc < 2 ^ 32 → Spans entries pc count start end → pc < end
span_below entries pc count start end small s =
    elim (nat_lt count (length entries)) as (λ v. nat_lt count (length entries) ≡ v → pc < end) [
      | true ↦ λ e.
          let d : Entry ℕ = record { address = 0; value = None } in
          let some : count < length entries = yes-lt count (length entries) e in
          let high = s.next d some in
          let above = no-le (get_or entries count d).address pc (s.point.1 count d (omega arith) some) in
          omega (arith, high, above)
      | false ↦ λ e. (let high = s.past (no-lt count (length entries) e) in omega (arith, high, small))
    ] refl
