-- The ranges of a table's entries, one by one.
use Rattle.std.proofs.Common.{◌≡◌, ℕ, zero, suc, ◌+◌, ◌<◌, List, [], ◌∷◌, length, get_or, refl, ◌∙◌, ap, arith}
use Rattle.elf32_read.specs.Spans.{numbered}
use Rattle.elf32_read.specs.declared.spans.Span.{Span}

abbrev pub span : ℕ → ℕ → ℕ → Span
span start size k = record { start = start; size = size; number = k }

pub length-numbered : {X : Type 0} (start size : X → ℕ) (k : ℕ) (xs : List X) → length (numbered start size k xs) ≡ length xs
length-numbered start size k [] = refl
length-numbered start size k (x ∷ xs) = ap suc (length-numbered start size (k + 1) xs)

pub get-numbered : {X : Type 0} (start size : X → ℕ) (k : ℕ) (xs : List X) (i : ℕ) (d : Span) (e : X) → i < length xs
    → get_or (numbered start size k xs) i d ≡ span (start (get_or xs i e)) (size (get_or xs i e)) (k + i)
get-numbered start size k [] i d e lt = absurd (omega arith)
get-numbered start size k (x ∷ xs) zero d e lt = let z : k ≡ k + 0 = omega arith in ap (span (start x) (size x)) z
get-numbered start size k (x ∷ xs) (suc i) d e lt =
    let n : k + 1 + i ≡ k + suc i = omega arith in
    get-numbered start size (k + 1) xs i d e (omega arith) ∙ ap (span (start (get_or xs i e)) (size (get_or xs i e))) n
