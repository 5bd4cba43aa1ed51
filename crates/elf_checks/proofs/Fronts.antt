-- The entries of a table before the first that has an address in common with an earlier one.
use Rattle.std.proofs.Common.{◌≡◌, ℕ, zero, suc, ◌+◌, ◌<◌, ◌≤◌, Bool, true, false, List, [], ◌∷◌, ◌++◌, length, take, get_or, refl, ◌∙◌, ap, arith, inl, inr}
use Rattle.std.specs.Prelude.{All, AllPairs, nat_lt, not}
use Rattle.std.specs.List.{list_any}
use Rattle.std.proofs.lemmas.Grind.{common_steps}
use Rattle.std.proofs.lemmas.Bool.Decides.{nat_tests}
use Rattle.std.proofs.lemmas.Bool.{cases_lt}
use Rattle.std.proofs.lemmas.List.Folds.{list_any_none, list_any_at}
use Rattle.elf32_read.specs.Fields.{overlap}
use Rattle.elf32_read.specs.Spans.{Apart, IsRising, numbered}
use Rattle.elf32_read.specs.declared.spans.Span.{Span}
use Rattle.elf32_read.proofs.Numbered.{span, length-numbered, get-numbered}
use Rattle.elf32_read.proofs.Rising.{pairs-permutation}
use Rattle.elf_checks.specs.Overlaps.{IsApartFront, IsSpanTable}
use Rattle.elf_checks.specs.declared.overlaps.SpanTable.{SpanTable}
use Rattle.std.proofs.lemmas.List.{take_all, take_more, get_or_default, get_or-take}
use Rattle.elf_checks.proofs.Middles.{rise_from}

-- whether two entries have an address in common
abbrev pub meets : {X : Type 0} → (X → ℕ) → (X → ℕ) → X → X → Bool
meets start size x y = overlap (start x) (size x) (start y) (size y)

meets-sym : {X : Type 0} (start size : X → ℕ) (x y : X) → meets start size x y ≡ meets start size y x
meets-sym start size x y = grind (arith, nat_tests)

-- of the first n entries no two have an address in common
abbrev pub FrontApart : {X : Type 0} → (X → ℕ) → (X → ℕ) → List X → ℕ → Type 0
FrontApart {X} start size xs n = (i j : ℕ) (e : X) → i < j → j < n → meets start size (get_or xs i e) (get_or xs j e) ≡ false

pub entries_apart : {X : Type 0} (start size : X → ℕ) (xs : List X) (n : ℕ) → n ≤ length xs → AllPairs Apart (take n (numbered start size 0 xs)) → FrontApart start size xs n
entries_apart start size xs n le h i j e lt within =
    let ss = numbered start size 0 xs in
    let d : Span = span 0 0 0 in
    let len = length-numbered start size 0 xs in
    let b : j < length (take n ss) = grind (arith, common_steps) in
    rw (get_or-take n ss i d (omega arith), get_or-take n ss j d within, get-numbered start size 0 xs i d e (omega arith), get-numbered start size 0 xs j d e (omega arith)) at (h i j d lt b)

pub spans_apart : {X : Type 0} (start size : X → ℕ) (xs : List X) (n : ℕ) (e : X) → n ≤ length xs → FrontApart start size xs n → AllPairs Apart (take n (numbered start size 0 xs))
spans_apart start size xs n e le h i j d lt within =
    let ss = numbered start size 0 xs in
    let len = length-numbered start size 0 xs in
    let most : j < n = grind (arith, common_steps) in
    rw (get_or-take n ss i d (omega arith), get_or-take n ss j d most, get-numbered start size 0 xs i d e (omega arith), get-numbered start size 0 xs j d e (omega arith)) (h i j e lt most)

not_any : {X : Type 0} (p : X → Bool) (xs : List X) (i : ℕ) (d : X) (b : Bool) → i < length xs → list_any p xs ≡ false → p (get_or xs i d) ≡ b → b ≡ false
not_any p xs i d false lt none e = refl
not_any p xs i d true lt none e = let any : list_any p xs ≡ true = list_any_at p xs i d lt e in cc

-- one more entry that meets none before it
one_more : {X : Type 0} (start size : X → ℕ) (xs : List X) (n : ℕ) (d : X) → n < length xs → FrontApart start size xs n
    → list_any (meets start size (get_or xs n d)) (take n xs) ≡ false → FrontApart start size xs (n + 1)
one_more start size xs n d lt h none i j e low within =
    elim (cases_lt j n) [
      | inl early ↦ h i j e low early
      | inr late ↦ (
          let same : j ≡ n = omega arith in
          let inside : i < length (take n xs) = grind (arith, common_steps) in
          let test = not_any (meets start size (get_or xs n d)) (take n xs) i e (meets start size (get_or xs n d) (get_or (take n xs) i e)) inside none refl in
          let test' = rw (get_or-take n xs i e (omega arith)) at test in
          rw (same, get_or_default xs n e d lt) (meets-sym start size (get_or xs i e) (get_or xs n d) ∙ test'))
    ]

front_by : {X : Type 0} (start size : X → ℕ) (xs : List X) (n : ℕ) (d : X) (b : Bool) → n < length xs → IsApartFront (numbered start size 0 xs) n
    → list_any (meets start size (get_or xs n d)) (take n xs) ≡ b → b ≡ true
front_by start size xs n d true lt f e = refl
front_by start size xs n d false lt f e =
    let len = length-numbered start size 0 xs in
    let more = one_more start size xs n d lt (entries_apart start size xs n (omega arith) f.apart) e in
    absurd (f.most (omega arith) (spans_apart start size xs (n + 1) d (omega arith) more))

all_apart : {X : Type 0} (start size : X → ℕ) (xs : List X) (k n : ℕ) (d : X) → k < n → n ≤ length xs → FrontApart start size xs n
    → All (λ y. meets start size (get_or xs k d) y ≡ false) (take k xs)
all_apart start size xs k n d lt le h i e within =
    let low : i < k = grind (arith, common_steps) in
    rw (get_or-take k xs i e low, get_or_default xs k d e (omega arith))
    (meets-sym start size (get_or xs k e) (get_or xs i e) ∙ h i k e low lt)

-- an entry is before the end of the front exactly where it meets no earlier one
pub in_front : {X : Type 0} (start size : X → ℕ) (xs : List X) (k n : ℕ) (d : X) → k < length xs → k ≤ n → IsApartFront (numbered start size 0 xs) n
    → nat_lt k n ≡ not (list_any (meets start size (get_or xs k d)) (take k xs))
in_front start size xs k n d lt le f =
    let len = length-numbered start size 0 xs in
    let within = f.within in
    elim (cases_lt k n) [
      | inl early ↦ (
          let none = list_any_none (meets start size (get_or xs k d)) (take k xs) (all_apart start size xs k n d early (omega arith) (entries_apart start size xs n (omega arith) f.apart)) in
          let yes : nat_lt k n ≡ true = grind (arith, nat_tests) in
          rw (none, yes) refl)
      | inr late ↦ (
          let same : k ≡ n = omega arith in
          let any = front_by start size xs k d (list_any (meets start size (get_or xs k d)) (take k xs)) lt (rw (← same) at f) refl in
          let none : nat_lt k n ≡ false = grind (arith, nat_tests) in
          rw (any, none) refl)
    ]

-- one more entry, as at a step of a loop
pub numbered-push : {X : Type 0} (start size : X → ℕ) (k : ℕ) (xs : List X) (y : X) → numbered start size k (xs ++ y ∷ []) ≡ numbered start size k xs ++ span (start y) (size y) (k + length xs) ∷ []
numbered-push start size k [] y = let z : k ≡ k + 0 = omega arith in ap (λ (n : ℕ). span (start y) (size y) n ∷ []) z
numbered-push start size k (x ∷ xs) y =
    let n : k + 1 + length xs ≡ k + suc (length xs) = omega arith in
    ap (λ (ss : List Span). span (start x) (size x) k ∷ ss)
    (numbered-push start size (k + 1) xs y ∙ ap (λ (m : ℕ). numbered start size (k + 1) xs ++ span (start y) (size y) m ∷ []) n)

pub numbered-more : {X : Type 0} (start size : X → ℕ) (xs : List X) (k : ℕ) (d : X) → k < length xs
    → numbered start size 0 (take (k + 1) xs) ≡ numbered start size 0 (take k xs) ++ span (start (get_or xs k d)) (size (get_or xs k d)) k ∷ []
numbered-more start size xs k d lt =
    let len : 0 + length (take k xs) ≡ k = grind (arith, common_steps) in
    ap (numbered start size 0) (take_more xs k d lt) ∙ numbered-push start size 0 (take k xs) (get_or xs k d)
    ∙ ap (λ (m : ℕ). numbered start size 0 (take k xs) ++ span (start (get_or xs k d)) (size (get_or xs k d)) m ∷ []) len

-- a table whose entries are all apart
pub table_rises : {X : Type 0} (start size : X → ℕ) (xs : List X) (t : SpanTable) → IsSpanTable (numbered start size 0 xs) t → length xs ≤ t.apart
    → IsRising start size xs t.sorted.items
table_rises start size xs t h all =
    let ss = numbered start size 0 xs in
    let len = length-numbered start size 0 xs in
    let whole : take t.apart ss ≡ ss = take_all t.apart ss (omega arith) in
    let apart = rw whole at h.front.apart in
    record { same = h.same; rise = rise_from t.sorted.items h.ordered (pairs-permutation ss t.sorted.items h.same apart) }
