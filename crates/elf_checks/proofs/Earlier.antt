-- What each element gives by those before it, from behind elements that were gone over.
use Rattle.std.proofs.Common.{◌≡◌, ℕ, ◌+◌, List, [], ◌∷◌, ◌++◌, refl, sym, ◌∙◌, ap, append_assoc}
use Rattle.std.proofs.lemmas.List.{append-nil}
use Rattle.std.specs.Prelude.{nat_le, sum_by}
use Rattle.std.proofs.lemmas.List.Sums.{sum_by_push}
use Rattle.elf_checks.specs.Checks.{Check, by_earlier, check, memory_check}
use Rattle.elf_checks.specs.declared.fault.ElfKind.TheVariants as kind
use Rattle.elf32_read.specs.declared.header.ProgramHeader.{ProgramHeader}

-- the same, behind earlier elements
abbrev pub from : {X Y : Type 0} → (List X → X → Y) → List X → List X → List Y
from f earlier [] = []
from f earlier (x ∷ xs) = f earlier x ∷ from f (earlier ++ x ∷ []) xs

cons_same : {Y : Type 0} (a b : Y) (xs ys : List Y) → a ≡ b → xs ≡ ys → a ∷ xs ≡ b ∷ ys
cons_same a b xs ys e h = cc

by_earlier-same : {X Y : Type 0} (f g : List X → X → Y) (xs : List X) → ((e : List X) (x : X) → f e x ≡ g e x) → by_earlier f xs ≡ by_earlier g xs
by_earlier-same f g [] h = refl
by_earlier-same f g (x ∷ xs) h =
    cons_same (f [] x) (g [] x) _ _ (h [] x) (by_earlier-same (λ e. f (x ∷ e)) (λ e. g (x ∷ e)) xs (λ e y. h (x ∷ e) y))

by_earlier-behind : {X Y : Type 0} (f : List X → X → Y) (earlier xs : List X) → by_earlier (λ e. f (earlier ++ e)) xs ≡ from f earlier xs
by_earlier-behind f earlier [] = refl
by_earlier-behind {X} f earlier (x ∷ xs) =
    cons_same (f (earlier ++ []) x) (f earlier x) _ _ (ap (λ (e : List X). f e x) (append-nil earlier))
    (by_earlier-same (λ e. f (earlier ++ (x ∷ e))) (λ e. f ((earlier ++ x ∷ []) ++ e)) xs (λ e y. ap (λ (l : List X). f l y) (sym (append_assoc earlier (x ∷ []) e)))
    ∙ by_earlier-behind f (earlier ++ x ∷ []) xs)

pub by_earlier-from : {X Y : Type 0} (f : List X → X → Y) (xs : List X) → by_earlier f xs ≡ from f [] xs
by_earlier-from f xs = by_earlier-behind f [] xs

-- the checks of the sizes in memory, by the sum of those before
abbrev pub memory_from : ℕ → List ProgramHeader → List Check
memory_from sum [] = []
memory_from sum (h ∷ hs) =
    check (nat_le (sum + h.memory_size) 16777216) kind.Large h.place ∷ memory_from (sum + h.memory_size) hs

sum_more : (earlier : List ProgramHeader) (h : ProgramHeader) → sum_by (λ s. s.memory_size) (earlier ++ h ∷ []) ≡ sum_by (λ s. s.memory_size) earlier + h.memory_size
sum_more earlier h = sum_by_push (λ (s : ProgramHeader). s.memory_size) earlier h

memory_behind : (earlier hs : List ProgramHeader) → from memory_check earlier hs ≡ memory_from (sum_by (λ s. s.memory_size) earlier) hs
memory_behind earlier [] = refl
memory_behind earlier (h ∷ hs) =
    cons_same (memory_check earlier h) _ _ _ refl
    (memory_behind (earlier ++ h ∷ []) hs ∙ ap (λ (n : ℕ). memory_from n hs) (sum_more earlier h))

pub by_earlier-memory : (hs : List ProgramHeader) → by_earlier memory_check hs ≡ memory_from 0 hs
by_earlier-memory hs = by_earlier-from memory_check hs ∙ memory_behind [] hs
