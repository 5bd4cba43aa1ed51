-- Sequences whose rows are changed each by itself.
use Rattle.std.proofs.Common.{◌≡◌, ℕ, suc, ◌+◌, ◌-◌, ◌≤◌, List, [], ◌∷◌, ◌++◌, length, map, take, drop, refl, ap, ◌∙◌, sym, arith, length-take}
use Rattle.std.specs.Prelude.{slice_range}
use Rattle.std.proofs.lemmas.List.{take-append-drop, take-map, take-take, drop-map, map-append}
use Rattle.line_rows.specs.RowList.{Sequence, SequenceList, mapped}
use Rattle.line_rows.specs.KeptSequences.{Chained, sequence_in, sequences_in}
use Rattle.line_rows.specs.declared.row.Row.{Row}
use Rattle.line_rows.specs.declared.sequences.RowRange.{RowRange}
use Rattle.line_rows.proofs.Chains.{chain_ordered, chain_ranges}
use Rattle.line_rows.proofs.Flat.{sequences_in-append}

slice_range-map : (f : Row → Row) (rows : List Row) (i j : ℕ) → slice_range (map f rows) i j ≡ map f (slice_range rows i j)
slice_range-map f rows i j = ap (take (j - i)) (drop-map f i rows) ∙ take-map f (j - i) (drop i rows)

pub sequences-mapped : (f : Row → Row) (rows : List Row) (ranges : List RowRange) → sequences_in (map f rows) ranges ≡ map (mapped f) (sequences_in rows ranges)
sequences-mapped f rows [] = refl
sequences-mapped f rows (r ∷ rs) = rw (slice_range-map f rows r.start r.past, sequences-mapped f rows rs) refl

drop_past : (front rows : List Row) (n : ℕ) → drop (length front + n) (front ++ rows) ≡ drop n rows
drop_past [] rows n = let e : 0 + n ≡ n = omega arith in ap (λ (k : ℕ). drop k rows) e
drop_past (x ∷ front) rows n = let e : suc (length front) + n ≡ suc (length front + n) = omega arith in ap (λ (k : ℕ). drop k (x ∷ (front ++ rows))) e ∙ drop_past front rows n

slice_past : (front rows : List Row) (i j : ℕ) → length front ≤ i → slice_range (front ++ rows) i j ≡ slice_range rows (i - length front) (j - length front)
slice_past front rows i j h =
    let from : i ≡ length front + (i - length front) = omega arith in
    let count : j - i ≡ (j - length front) - (i - length front) = omega arith in
    ap (λ (n : ℕ). take (j - i) (drop n (front ++ rows))) from
    ∙ ap (take (j - i)) (drop_past front rows (i - length front))
    ∙ ap (λ (n : ℕ). take n (drop (i - length front) rows)) count

-- where only rows behind some others are changed
sequences-behind : (f : Row → Row) (front rows : List Row) (at : ℕ) (ranges : List RowRange) (past : ℕ) → length front ≤ at → Chained at ranges past
    → sequences_in (front ++ map f rows) ranges ≡ map (mapped f) (sequences_in (front ++ rows) ranges)
sequences-behind f front rows at [] past h chain = refl
sequences-behind f front rows at (r ∷ rs) past h chain =
    let from : length front ≤ r.start = omega (arith, h, chain.0) in
    let here : slice_range (front ++ map f rows) r.start r.past ≡ map f (slice_range (front ++ rows) r.start r.past) =
    slice_past front (map f rows) r.start r.past from ∙ slice_range-map f rows (r.start - length front) (r.past - length front) ∙ ap (map f) (sym (slice_past front rows r.start r.past from)) in
    let rest = sequences-behind f front rows r.past rs past (omega (arith, from, chain.1)) chain.2 in
    rw (here, rest) refl

-- rows behind the ranges don't count
pub sequences-within : (rows : List Row) (at : ℕ) (ranges : List RowRange) (past : ℕ) → past ≤ length rows → Chained at ranges past → sequences_in (take past rows) ranges ≡ sequences_in rows ranges
sequences-within rows at ranges past h chain =
    let size : past ≤ length (take past rows) = omega (arith, h, length-take past rows) in
    sym (sequences_in-append (take past rows) (drop past rows) past ranges size (chain_ranges at ranges past chain))
    ∙ ap (λ (l : List Row). sequences_in l ranges) (take-append-drop past rows)

-- the sequences up to a place stay, and the rows of those behind it are changed
pub kept_all : (f : Row → Row) (rows now : List Row) (ranges : List RowRange) (k at past : ℕ) → past ≤ length rows → Chained 0 (take k ranges) at → Chained at (drop k ranges) past
    → now ≡ take at (take past rows) ++ map f (drop at (take past rows))
    → sequences_in now ranges ≡ sequences_in rows (take k ranges) ++ map (mapped f) (sequences_in rows (drop k ranges))
kept_all f rows now ranges k at past h front back is =
    let order : at ≤ past = chain_ordered at (drop k ranges) past back in
    let first = take at (take past rows) in
    let rest = drop at (take past rows) in
    let size : length first ≡ at = omega (arith, h, order, length-take at (take past rows), length-take past rows) in
    let before : sequences_in (first ++ map f rest) (take k ranges) ≡ sequences_in rows (take k ranges) =
    sequences_in-append first (map f rest) at (take k ranges) (omega (arith, size)) (chain_ranges 0 (take k ranges) at front)
    ∙ ap (λ (l : List Row). sequences_in l (take k ranges)) (take-take at past rows order)
    ∙ sequences-within rows 0 (take k ranges) at (omega (arith, h, order)) front in
    let behind : sequences_in (first ++ map f rest) (drop k ranges) ≡ map (mapped f) (sequences_in rows (drop k ranges)) =
    sequences-behind f first rest at (drop k ranges) past (omega (arith, size)) back
    ∙ ap (λ (l : List Row). map (mapped f) (sequences_in l (drop k ranges))) (take-append-drop at (take past rows))
    ∙ ap (map (mapped f)) (sequences-within rows at (drop k ranges) past h back) in
    ap (λ (l : List Row). sequences_in l ranges) is
    ∙ ap (sequences_in (first ++ map f rest)) (sym (take-append-drop k ranges))
    ∙ map-append (sequence_in (first ++ map f rest)) (take k ranges) (drop k ranges)
    ∙ ap (λ (l : List Sequence). l ++ sequences_in (first ++ map f rest) (drop k ranges)) before
    ∙ ap (λ (l : List Sequence). sequences_in rows (take k ranges) ++ l) behind

pub list_is : {k l e f : List Sequence} {p q : List Row} → k ≡ l → e ≡ f → p ≡ q → (let s : SequenceList = record { kept = k; ended = e; pending = p } in s ≡ record { kept = l; ended = f; pending = q })
list_is first second third = rw (first, second, third) refl
