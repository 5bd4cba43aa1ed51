-- Parts of a list that grows at its end.
use Rattle.std.proofs.Common.{◌≡◌, ℕ, ◌+◌, ◌-◌, ◌≤◌, List, [], ◌∷◌, ◌++◌, length, take, drop, refl, ap, ◌∙◌, arith, length-drop}
use Rattle.std.specs.Prelude.{slice_range, All}
use Rattle.std.proofs.lemmas.List.{take-append-le, drop-append-le, map-append}
use Rattle.std.proofs.lemmas.List.Elements.{All-head, All-tail}
use Rattle.std.proofs.Math.Seq.{drop-append_seam, take-length}
use Rattle.line_rows.specs.RowList.{NameList, SequenceList}
use Rattle.line_rows.specs.KeptNames.{name_in, names_in, IsNameRange}
use Rattle.line_rows.specs.KeptSequences.{sequences_in, IsRowRange}
use Rattle.line_rows.specs.declared.names.NameRange.{NameRange}
use Rattle.line_rows.specs.declared.row.Row.{Row}
use Rattle.line_rows.specs.declared.sequences.RowRange.{RowRange}

pub slice_range-append : {A : Type 0} (xs ys : List A) (i j : ℕ) → i ≤ j → j ≤ length xs → slice_range (xs ++ ys) i j ≡ slice_range xs i j
slice_range-append xs ys i j h k =
    ap (take (j - i)) (drop-append-le i xs ys (omega arith)) ∙ take-append-le (j - i) (drop i xs) ys (simp length-drop (omega arith))

take_all : {A : Type 0} (xs : List A) (n : ℕ) → n ≡ length xs → take n xs ≡ xs
take_all xs n e = rw e (take-length xs)

pub slice_range-behind : {A : Type 0} (xs ys : List A) (i j : ℕ) → i ≡ length xs → j ≡ length xs + length ys → slice_range (xs ++ ys) i j ≡ ys
slice_range-behind xs ys i j e f = rw (e, drop-append_seam xs ys) (take_all ys (j - length xs) (omega arith))

-- names stay where bytes come behind them
pub names_in-append : (bytes more : List ℕ) (ranges : List NameRange) → All (IsNameRange (length bytes)) ranges → names_in (bytes ++ more) ranges ≡ names_in bytes ranges
names_in-append bytes more [] h = refl
names_in-append bytes more (r ∷ rs) h =
    let one = All-head (IsNameRange (length bytes)) r rs h in
    let here : name_in (bytes ++ more) r ≡ name_in bytes r = slice_range-append bytes more r.start r.past one.ordered one.within in
    let rest : names_in (bytes ++ more) rs ≡ names_in bytes rs = names_in-append bytes more rs (All-tail (IsNameRange (length bytes)) r rs h) in
    cc

-- a name that comes behind the others
pub names_in-push : (bytes name : List ℕ) (ranges : List NameRange) (r : NameRange) → All (IsNameRange (length bytes)) ranges → r.start ≡ length bytes → r.past ≡ length bytes + length name
    → names_in (bytes ++ name) (ranges ++ r ∷ []) ≡ names_in bytes ranges ++ name ∷ []
names_in-push bytes name ranges r h e f =
    let all : names_in (bytes ++ name) ranges ≡ names_in bytes ranges = names_in-append bytes name ranges h in
    let here : name_in (bytes ++ name) r ≡ name = slice_range-behind bytes name r.start r.past e f in
    map-append (name_in (bytes ++ name)) ranges (r ∷ []) ∙ cc

-- the same of the texts with their names
pub list_push : (bytes name : List ℕ) (ranges : List NameRange) (r : NameRange) → All (IsNameRange (length bytes)) ranges → r.start ≡ length bytes → r.past ≡ length bytes + length name
    → (let more : NameList = record { texts = bytes ++ name; names = names_in (bytes ++ name) (ranges ++ r ∷ []) } in more ≡ record { texts = bytes ++ name; names = names_in bytes ranges ++ name ∷ [] })
list_push bytes name ranges r h e f = rw (names_in-push bytes name ranges r h e f) refl

-- sequences stay where rows come behind them
pub sequences_in-append : (rows more : List Row) (count : ℕ) (ranges : List RowRange) → count ≤ length rows → All (IsRowRange count) ranges → sequences_in (rows ++ more) ranges ≡ sequences_in rows ranges
sequences_in-append rows more count [] p h = refl
sequences_in-append rows more count (r ∷ rs) p h =
    let one = All-head (IsRowRange count) r rs h in
    let here : slice_range (rows ++ more) r.start r.past ≡ slice_range rows r.start r.past = slice_range-append rows more r.start r.past one.ordered (omega arith) in
    let rest : sequences_in (rows ++ more) rs ≡ sequences_in rows rs = sequences_in-append rows more count rs p (All-tail (IsRowRange count) r rs h) in
    rw (here, rest) refl

-- a row more
pub sequences_push : (rows : List Row) (row : Row) (pending at : ℕ) (before behind : List RowRange) → at ≤ pending → pending ≤ length rows → All (IsRowRange at) before → All (IsRowRange pending) behind
    → (let more : SequenceList = record { kept = sequences_in (rows ++ row ∷ []) before; ended = sequences_in (rows ++ row ∷ []) behind; pending = drop pending (rows ++ row ∷ []) }
    in more ≡ record { kept = sequences_in rows before; ended = sequences_in rows behind; pending = drop pending rows ++ row ∷ [] })
sequences_push rows row pending at before behind order p g h =
    let kept = sequences_in-append rows (row ∷ []) at before (omega (arith, order, p)) g in
    let ended = sequences_in-append rows (row ∷ []) pending behind p h in
    let open_rows = drop-append-le pending rows (row ∷ []) p in
    rw (kept, ended, open_rows) refl
