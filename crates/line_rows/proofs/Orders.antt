-- Rows whose addresses don't fall.
use Rattle.std.proofs.Common.{◌≡◌, ℕ, ◌-◌, ◌<◌, ◌≤◌, Bool, true, false, List, [], ◌∷◌, ◌++◌, length, map, take, drop, ap, arith, get_or, subst, ◌∙◌, sym, refl, length-take}
use Rattle.std.specs.Prelude.{All, Option, Some, nat_lt, slice_get, slice_range}
use Rattle.std.specs.Option.{option_map_or}
use Rattle.std.proofs.lemmas.Bool.Decides.{nat_tests}
use Rattle.std.proofs.lemmas.List.{drop-append-le, drop-map, drop_all, length-map, length_push, get_or-append_right, get_or_append_left, get_or-map, get_or-take, map-append, take-map, take_rest}
use Rattle.std.proofs.lemmas.List.Elements.{All-append, All-drop, All-push, All-take}
use Rattle.std.proofs.lemmas.Option.{slice_get-get_or}
use Rattle.line_rows.specs.RowList.{AreInOrder, Sequence, last_address, mapped}
use Rattle.line_rows.specs.KeptSequences.{IsRowRange, sequence_in, sequences_in}
use Rattle.line_rows.specs.declared.row.Row.{Row}
use Rattle.line_rows.specs.declared.sequences.RowRange.{RowRange}
use Rattle.line_rows.proofs.Flat.{sequences_in-append}
use Rattle.line_rows.proofs.Mapped.{sequences-mapped}

pub rises_none : AreInOrder []
rises_none i j d order within = absurd (omega (arith, within))

last_is : (rows : List Row) (d : Row) → 0 < length rows → last_address rows ≡ (get_or rows (length rows - 1) d).address
last_is rows d some = ap (λ (o : Option Row). option_map_or (λ r. r.address) o 0) (slice_get-get_or rows (length rows - 1) d (omega (arith, some)))

up_to_last : (rows : List Row) (i : ℕ) (d : Row) → AreInOrder rows → i < length rows → (get_or rows i d).address ≤ last_address rows
up_to_last rows i d h within =
    let last = last_is rows d (omega (arith, within)) in
    let order = h i (length rows - 1) d (omega (arith, within)) (omega (arith, within)) in
    omega (arith, last, order)

push_by : (rows : List Row) (r : Row) (i j : ℕ) (d : Row) → AreInOrder rows → last_address rows ≤ r.address → i ≤ j → j < length (rows ++ r ∷ []) → (b c : Bool) → nat_lt i (length rows) ≡ b → nat_lt j (length rows) ≡ c
    → (get_or (rows ++ r ∷ []) i d).address ≤ (get_or (rows ++ r ∷ []) j d).address
push_by rows r i j d h low order within b true e f =
    let below : j < length rows = grind (arith, nat_tests) in
    let lower : i < length rows = omega (arith, order, below) in
    rw (get_or_append_left rows (r ∷ []) d i lower, get_or_append_left rows (r ∷ []) d j below) (h i j d order below)
push_by rows r i j d h low order within true false e f =
    let below : i < length rows = grind (arith, nat_tests) in
    let above : length rows ≤ j = grind (arith, nat_tests) in
    let last : j - length rows ≡ 0 = omega (arith, length_push rows r, within) in
    rw (get_or_append_left rows (r ∷ []) d i below, get_or-append_right rows (r ∷ []) (length rows) j d refl above, last) (omega (arith, low, up_to_last rows i d h below))
push_by rows r i j d h low order within false false e f =
    let above : length rows ≤ i = grind (arith, nat_tests) in
    let same : i ≡ j = omega (arith, length_push rows r, within, order, above) in
    rw same (omega arith)

-- a row more that isn't below the last one
pub rises_push : (rows : List Row) (r : Row) → AreInOrder rows → last_address rows ≤ r.address → AreInOrder (rows ++ r ∷ [])
rises_push rows r h low i j d order within = push_by rows r i j d h low order within (nat_lt i (length rows)) (nat_lt j (length rows)) refl refl

-- rows that are changed and keep their addresses
abbrev pub Stays : (Row → Row) → Type 0
Stays f = (r : Row) → (f r).address ≡ r.address

pub rises_mapped : (f : Row → Row) (rows : List Row) → Stays f → AreInOrder rows → AreInOrder (map f rows)
rises_mapped f rows same h i j d order within =
    let inside : j < length rows = omega (arith, within, length-map rows f) in
    rw (get_or-map f rows i d d (omega (arith, order, inside)), get_or-map f rows j d d inside) (omega (arith, same (get_or rows i d), same (get_or rows j d), h i j d order inside))

rise_by : (f : Row → Row) (ss : List Sequence) (k : ℕ) (d : Sequence) → Stays f → k < length ss → All (λ s. AreInOrder s.rows) ss → AreInOrder (get_or (map (mapped f) ss) k d).rows
rise_by f ss k d same within h = rw (get_or-map (mapped f) ss k d d within) (rises_mapped f (get_or ss k d).rows same (h k d within))

pub all_mapped : (f : Row → Row) (ss : List Sequence) → Stays f → All (λ s. AreInOrder s.rows) ss → All (λ s. AreInOrder s.rows) (map (mapped f) ss)
all_mapped f ss same h k d within = rise_by f ss k d same (omega (arith, within, length-map ss (mapped f))) h

-- the last row of those behind a place
pub last_behind : (rows : List Row) (k n : ℕ) (o : Option Row) → o ≡ slice_get (take (length rows - k) (drop k rows)) (n - 1) → n ≡ length (take (length rows - k) (drop k rows)) → take (length rows - k) (drop k rows) ≡ drop k rows
    → option_map_or (λ r. r.address) o 0 ≡ last_address (drop k rows)
last_behind rows k n o is size whole =
    ap (λ (p : Option Row). option_map_or (λ r. r.address) p 0) (is ∙ ap (λ (m : ℕ). slice_get (take (length rows - k) (drop k rows)) (m - 1)) size ∙ ap (λ (l : List Row). slice_get l (length l - 1)) whole)

abbrev AllRise : List Sequence → Type 0
AllRise ss = All (λ s. AreInOrder s.rows) ss

-- a row more behind all others
pub rise_pushed : (rows more : List Row) (row : Row) (ranges : List RowRange) (pending : ℕ) → more ≡ rows ++ row ∷ [] → pending ≤ length rows → All (IsRowRange pending) ranges → All (λ s. AreInOrder s.rows) (sequences_in rows ranges)
    → All (λ s. AreInOrder s.rows) (sequences_in more ranges)
rise_pushed rows more row ranges pending is within inside h =
    let same : sequences_in more ranges ≡ sequences_in rows ranges = ap (λ (l : List Row). sequences_in l ranges) is ∙ sequences_in-append rows (row ∷ []) pending ranges within inside in
    subst AllRise (sym same) h

pub pending_pushed : (rows more : List Row) (row : Row) (pending : ℕ) → more ≡ rows ++ row ∷ [] → pending ≤ length rows → AreInOrder (drop pending rows) → last_address (drop pending rows) ≤ row.address → AreInOrder (drop pending more)
pending_pushed rows more row pending is within h low =
    let same : drop pending more ≡ drop pending rows ++ row ∷ [] = ap (drop pending) is ∙ drop-append-le pending rows (row ∷ []) within in
    subst AreInOrder (sym same) (rises_push (drop pending rows) row h low)

-- the rows behind the others become a sequence
pub rise_ended : (rows : List Row) (ranges more : List RowRange) (r : RowRange) → more ≡ ranges ++ r ∷ [] → r.past ≡ length rows → All (λ s. AreInOrder s.rows) (sequences_in rows ranges) → AreInOrder (drop r.start rows)
    → All (λ s. AreInOrder s.rows) (sequences_in rows more)
rise_ended rows ranges more r is past h last =
    let behind : slice_range rows r.start r.past ≡ drop r.start rows = ap (λ (n : ℕ). take (n - r.start) (drop r.start rows)) past ∙ take_rest rows r.start in
    let one : AreInOrder (slice_range rows r.start r.past) = subst AreInOrder (sym behind) last in
    let both = All-push (λ (s : Sequence). AreInOrder s.rows) (sequences_in rows ranges) (sequence_in rows r) h one in
    subst AllRise (sym (ap (sequences_in rows) is ∙ map-append (sequence_in rows) ranges (r ∷ []))) both

pub none_behind : (rows : List Row) (n : ℕ) → n ≡ length rows → AreInOrder (drop n rows)
none_behind rows n e = subst AreInOrder (sym (drop_all n rows (omega (arith, e)))) rises_none

-- all rows are changed
pub rise_mapped : (f : Row → Row) (rows more : List Row) (ranges : List RowRange) → Stays f → more ≡ map f rows → All (λ s. AreInOrder s.rows) (sequences_in rows ranges) → All (λ s. AreInOrder s.rows) (sequences_in more ranges)
rise_mapped f rows more ranges same is h =
    subst AllRise (sym (ap (λ (l : List Row). sequences_in l ranges) is ∙ sequences-mapped f rows ranges)) (all_mapped f (sequences_in rows ranges) same h)

pub pending_mapped : (f : Row → Row) (rows more : List Row) (pending : ℕ) → Stays f → more ≡ map f rows → AreInOrder (drop pending rows) → AreInOrder (drop pending more)
pending_mapped f rows more pending same is h =
    subst AreInOrder (sym (ap (drop pending) is ∙ drop-map f pending rows)) (rises_mapped f (drop pending rows) same h)

-- the sequences before a place, and those behind it with rows that are changed
pub rise_kept : (f : Row → Row) (rows now : List Row) (ranges : List RowRange) (k : ℕ) → Stays f → sequences_in now ranges ≡ sequences_in rows (take k ranges) ++ map (mapped f) (sequences_in rows (drop k ranges))
    → All (λ s. AreInOrder s.rows) (sequences_in rows ranges) → All (λ s. AreInOrder s.rows) (sequences_in now ranges)
rise_kept f rows now ranges k same is h =
    let first : sequences_in rows (take k ranges) ≡ take k (sequences_in rows ranges) = sym (take-map (sequence_in rows) k ranges) in
    let rest : sequences_in rows (drop k ranges) ≡ drop k (sequences_in rows ranges) = sym (drop-map (sequence_in rows) k ranges) in
    let front = subst AllRise (sym first) (All-take (λ (s : Sequence). AreInOrder s.rows) k (sequences_in rows ranges) h) in
    let back = all_mapped f (sequences_in rows (drop k ranges)) same (subst AllRise (sym rest) (All-drop (λ (s : Sequence). AreInOrder s.rows) k (sequences_in rows ranges) h)) in
    subst AllRise (sym is) (All-append (λ (s : Sequence). AreInOrder s.rows) (sequences_in rows (take k ranges)) (map (mapped f) (sequences_in rows (drop k ranges))) front back)

-- the sequences before a place
pub rise_front : (rows : List Row) (ranges : List RowRange) (k : ℕ) → All (λ s. AreInOrder s.rows) (sequences_in rows ranges) → All (λ s. AreInOrder s.rows) (sequences_in rows (take k ranges))
rise_front rows ranges k h = subst AllRise (take-map (sequence_in rows) k ranges) (All-take (λ (s : Sequence). AreInOrder s.rows) k (sequences_in rows ranges) h)

-- a sequence by its number
pub kept_at : (rows : List Row) (ranges : List RowRange) (kept : List Sequence) (n k : ℕ) (r : RowRange) → sequences_in rows (take n ranges) ≡ kept → k < length kept → r ≡ get_or ranges k r → slice_get kept k ≡ Some (sequence_in rows r)
kept_at rows ranges kept n k r e within is =
    let inside : k < length (take n ranges) = omega (arith, within, ap length e, length-map (take n ranges) (sequence_in rows)) in
    let there : get_or (take n ranges) k r ≡ r = get_or-take n ranges k r (omega (arith, inside, length-take n ranges)) ∙ sym is in
    ap (λ (l : List Sequence). slice_get l k) (sym e)
    ∙ slice_get-get_or (sequences_in rows (take n ranges)) k (sequence_in rows r) (omega (arith, inside, length-map (take n ranges) (sequence_in rows)))
    ∙ ap (λ (s : Sequence). Some s) (get_or-map (sequence_in rows) (take n ranges) k r (sequence_in rows r) inside ∙ ap (sequence_in rows) there)

pub rise_at : (rows : List Row) (ranges : List RowRange) (kept : List Sequence) (n k : ℕ) (r : RowRange) → sequences_in rows (take n ranges) ≡ kept → k < length kept → r ≡ get_or ranges k r
    → All (λ s. AreInOrder s.rows) (sequences_in rows ranges) → AreInOrder (slice_range rows r.start r.past)
rise_at rows ranges kept n k r e within is h =
    let inside : k < length ranges = omega (arith, within, ap length e, length-map (take n ranges) (sequence_in rows), length-take n ranges) in
    let d : Sequence = record { rows = []; end = 0 } in
    let there : get_or (sequences_in rows ranges) k d ≡ sequence_in rows r = get_or-map (sequence_in rows) ranges k r d inside ∙ ap (sequence_in rows) (sym is) in
    subst (λ (s : Sequence). AreInOrder s.rows) there (h k d (omega (arith, inside, length-map ranges (sequence_in rows))))
