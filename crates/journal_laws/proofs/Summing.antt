-- What a journal counts up to.
use Rattle.std.proofs.Common.{◌≡◌, ◌≤◌, ◌+◌, ℕ, Bool, true, false, cond, List, [], ◌∷◌, ◌++◌, length, refl, subst, arith}
use Rattle.std.specs.List.{filter}
use Rattle.plain_machine.specs.PlainRun.{Item}
use Rattle.dbg_model.specs.declared.entry.Entry.{Entry}
use Rattle.dbg_model.specs.declared.entry.Entry.TheVariants.{Ran, Counted, Stopped, Left, Did, Poked}
use Rattle.dbg_model.specs.declared.entry.Poke.TheVariants as poke
use Rattle.dbg_model.specs.Erase.{erase, erase_one, steps}
use Rattle.dbg_model.specs.Journals.{count_of}
use Rattle.dbg_model.proofs.Counting.{steps-replicated}

steps-both : (xs ys : List Item) → steps (xs ++ ys) ≡ steps xs + steps ys
steps-both [] ys = omega arith
steps-both (x ∷ xs) ys = let ih = steps-both xs ys in omega arith

count_steps : (e : Entry) → steps (erase_one e) ≡ count_of e
count_steps (Ran h n) = steps-replicated n h
count_steps (Counted h) = refl
count_steps (Stopped h why) = refl
count_steps (Left h code) = refl
count_steps (Did line) = refl
count_steps (Poked (poke.Register h n v)) = refl
count_steps (Poked (poke.Bytes a bytes)) = refl

-- an entry more
pub next_steps : (e : Entry) (es : List Entry) → steps (erase (e ∷ es)) ≡ count_of e + steps (erase es)
next_steps e es = omega (arith, steps-both (erase_one e) (erase es), count_steps e)

by_test : (b : Bool) (e : Entry) (es : List Entry) → length (cond b (e ∷ es) es) ≡ cond b 1 0 + length es
by_test true e es = omega arith
by_test false e es = omega arith

one_at_most : (b : Bool) → cond b 1 0 ≤ 1
one_at_most true = omega arith
one_at_most false = omega arith

pub next_passes : (p : Entry → Bool) (e : Entry) (es : List Entry) → length (filter p (e ∷ es)) ≡ cond (p e) 1 0 + length (filter p es)
next_passes p e es = by_test (p e) e (filter p es)

-- and no more pass than there are
pub few_pass : (p : Entry → Bool) (es : List Entry) → length (filter p es) ≤ length es
few_pass p [] = omega arith
few_pass p (e ∷ es) = omega (arith, few_pass p es, next_passes p e es, one_at_most (p e))

-- what was counted, n of this entry behind it, and what the others count up to
pub steps_on : (count n : ℕ) (e : Entry) (left more whole : List Entry) → left ≡ e ∷ more → n ≡ count_of e → count + steps (erase left) ≡ steps (erase whole) → (count + n) + steps (erase more) ≡ steps (erase whole)
steps_on count n e left more whole is counts so =
    let all : count + steps (erase (e ∷ more)) ≡ steps (erase whole) = subst (λ (es : List Entry). count + steps (erase es) ≡ steps (erase whole)) is so in
    omega (arith, next_steps e more, counts, all)

pub passes_on : (p : Entry → Bool) (count n : ℕ) (e : Entry) (left more whole : List Entry) → left ≡ e ∷ more → n ≡ cond (p e) 1 0 → count + length (filter p left) ≡ length (filter p whole)
    → (count + n) + length (filter p more) ≡ length (filter p whole)
passes_on p count n e left more whole is counts so =
    let all : count + length (filter p (e ∷ more)) ≡ length (filter p whole) = subst (λ (es : List Entry). count + length (filter p es) ≡ length (filter p whole)) is so in
    omega (arith, next_passes p e more, counts, all)
