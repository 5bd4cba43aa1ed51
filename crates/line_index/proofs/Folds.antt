-- What is found in one element, or in one sequence, more.
use Rattle.std.proofs.Common.{◌≡◌, ℕ, ◌+◌, ◌<◌, Bool, true, false, List, [], ◌∷◌, ◌++◌, length, filter, fold, take, get_or, refl, ap, ◌∙◌, sym, cond}
use Rattle.std.specs.Prelude.{Some, None, flat_map, slice_get, if◌then◌else◌}
use Rattle.std.proofs.lemmas.List.{take_more}
use Rattle.std.proofs.lemmas.List.Elements.{filter-append}
use Rattle.std.proofs.lemmas.List.Sums.{fold-append}
use Rattle.std.proofs.lemmas.Grind.{flat_map-append}
use Rattle.elf32_read.specs.declared.spans.Span.{Span}
use Rattle.elf_symbols.specs.Names.{better}
use Rattle.line_rows.specs.RowList.{Sequence}
use Rattle.line_rows.specs.declared.row.Row.{Row}
use Rattle.line_index.specs.Lines.{begins_in, is_sooner, kept}
use Rattle.line_index.proofs.Indexes.{take-more}

last_by : {A B : Type 0} (f : B → A → B) (acc : B) (x : A) (b : Bool) → fold f acc (cond b (x ∷ []) []) ≡ (if b then f acc x else acc)
last_by f acc x true = refl
last_by f acc x false = refl

pub fold_filter_more : {A B : Type 0} (f : B → A → B) (p : A → Bool) (acc : B) (xs : List A) (i : ℕ) (d : A) → i < length xs
    → (if p (get_or xs i d) then f (fold f acc (filter p (take i xs))) (get_or xs i d) else fold f acc (filter p (take i xs))) ≡ fold f acc (filter p (take (i + 1) xs))
fold_filter_more f p acc xs i d within =
    let x = get_or xs i d in
    sym
    (ap (λ l. fold f acc (filter p l)) (take_more xs i d within)
    ∙ ap (fold f acc) (filter-append p (take i xs) (x ∷ []))
    ∙ fold-append f acc (filter p (take i xs)) (filter p (x ∷ []))
    ∙ last_by f (fold f acc (filter p (take i xs))) x (p x))

-- the rows of the sequences that count
abbrev pub rows_in : List Span → List Sequence → List Row
rows_in text ss = flat_map (λ s. s.rows) (kept text ss)

-- one sequence more
pub rows_more : (text : List Span) (ss : List Sequence) (k : ℕ) (s : Sequence) → slice_get ss k ≡ Some s → rows_in text (take (k + 1) ss) ≡ rows_in text (take k ss) ++ rows_in text (s ∷ [])
rows_more text ss k s h =
    ap (rows_in text) (take-more ss k s h)
    ∙ ap (flat_map (λ (s : Sequence). s.rows)) (filter-append (begins_in text) (take k ss) (s ∷ []))
    ∙ flat_map-append (λ (s : Sequence). s.rows) (kept text (take k ss)) (kept text (s ∷ []))

pub soonest_sequence_more : (p : Row → Bool) (text : List Span) (ss : List Sequence) (k : ℕ) (s : Sequence) → slice_get ss k ≡ Some s
    → fold (better is_sooner) (fold (better is_sooner) None (filter p (rows_in text (take k ss)))) (filter p (rows_in text (s ∷ []))) ≡ fold (better is_sooner) None (filter p (rows_in text (take (k + 1) ss)))
soonest_sequence_more p text ss k s h =
    sym
    (ap (λ (l : List Row). fold (better is_sooner) None (filter p l)) (rows_more text ss k s h)
    ∙ ap (fold (better is_sooner) None) (filter-append p (rows_in text (take k ss)) (rows_in text (s ∷ [])))
    ∙ fold-append (better is_sooner) None (filter p (rows_in text (take k ss))) (filter p (rows_in text (s ∷ []))))
