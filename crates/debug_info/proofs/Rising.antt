-- Marks whose offsets rise.
use Rattle.debug_info.proofs.Words.{◌≡◌, ◌<◌, ◌≤◌, ◌+◌, ◌++◌, ℕ, zero, suc, true, false, List, [], ◌∷◌, length, map, drop, Option, None, Some, refl, arith, sym, subst, append-nil, ◌==◌, nat_lt, find, slice_index_or, IfSome}
use Rattle.debug_info.proofs.Words.{IsNonDecreasingBy, nat_tests, get_or_default, entry_list, mark_of, IsCount, RisesFrom, from_offset, Entry, Mark}

-- from a first offset on, and below an end
abbrev pub RisesTo : ℕ → List Mark → ℕ → Type 0
RisesTo start [] end = start ≤ end
RisesTo start (e ∷ es) end = (start ≤ e.offset) × RisesTo (e.offset + 1) es end

pub rises_from : (start end : ℕ) (es : List Mark) → RisesTo start es end → RisesFrom start es
rises_from start end [] h = tt
rises_from start end (e ∷ es) h = (h.0, rises_from (e.offset + 1) end es h.1)

rises_later : (start end next : ℕ) (es : List Mark) → RisesTo start es end → end ≤ next → RisesTo start es next
rises_later start end next [] h k = omega arith
rises_later start end next (e ∷ es) h k = (h.0, rises_later (e.offset + 1) end next es h.1 k)

rises_push : (start end next : ℕ) (es : List Mark) (e : Mark) → RisesTo start es end → e.offset ≡ end → end < next → RisesTo start (es ++ e ∷ []) next
rises_push start end next [] e h is k = (omega arith, omega arith)
rises_push start end next (x ∷ es) e h is k = (h.0, rises_push (x.offset + 1) end next es e h.1 is k)

rises_more : (start end next : ℕ) (es : List Mark) (o : Option Entry) → RisesTo start es end → IfSome o (λ e. e.offset ≡ end) → end < next → RisesTo start (es ++ map mark_of (entry_list o)) next
rises_more start end next es None h is k = subst (λ (xs : List Mark). RisesTo start xs next) (sym (append-nil es)) (rises_later start end next es h (omega arith))
rises_more start end next es (Some e) h is k = rises_push start end next es (mark_of e) h is k

pub rises_next : (start end next : ℕ) (es pushed : List Mark) (o : Option Entry) → RisesTo start es end → IfSome o (λ e. e.offset ≡ end) → end < next → pushed ≡ es ++ map mark_of (entry_list o) → RisesTo start pushed next
rises_next start end next es pushed o h is k push = subst (λ (xs : List Mark). RisesTo start xs next) (sym push) (rises_more start end next es o h is k)

rises_all : (start : ℕ) (es : List Mark) (k : ℕ) (d : Mark) → RisesFrom start es → k < length es → start ≤ (slice_index_or es k d).offset
rises_all start [] k d h q = absurd (omega arith)
rises_all start (e ∷ es) zero d h q = h.0
rises_all start (e ∷ es) (suc k) d h q = let rest = rises_all (e.offset + 1) es k d h.1 (omega arith) in let first = h.0 in omega arith

pub rises_order : (start : ℕ) (es : List Mark) → RisesFrom start es → IsNonDecreasingBy (λ m. m.offset) es
rises_order start [] h i j d p q = absurd (omega arith)
rises_order start (e ∷ es) h zero zero d p q = omega arith
rises_order start (e ∷ es) h zero (suc j) d p q = let rest = rises_all (e.offset + 1) es j d h.1 (omega arith) in omega arith
rises_order start (e ∷ es) h (suc i) zero d p q = absurd (omega arith)
rises_order start (e ∷ es) h (suc i) (suc j) d p q = rises_order (e.offset + 1) es h.1 i j d (omega arith) (omega arith)

below : (n offset : ℕ) → nat_lt n offset ≡ true → n < offset
below n offset h = grind (arith, nat_tests)

above : (n offset : ℕ) → nat_lt n offset ≡ false → offset ≤ n
above n offset h = grind (arith, nat_tests)

find_at : (es : List Mark) (offset low : ℕ) (x : Mark) → ((k : ℕ) (d : Mark) → k < low → (slice_index_or es k d).offset < offset) → low < length es → (slice_index_or es low x).offset ≡ offset
    → find (λ e. e.offset == offset) es ≡ Some (slice_index_or es low x)
find_at [] offset low x below q is = absurd (omega arith)
find_at (e ∷ es) offset zero x below q is = let test : (e.offset == offset) ≡ true = grind (arith, nat_tests) in rw test refl
find_at (e ∷ es) offset (suc low) x below q is =
    let less = below 0 e (omega arith) in
    let test : (e.offset == offset) ≡ false = grind (arith, nat_tests) in
    rw test (find_at es offset low x (λ k d under. below (suc k) d (omega arith)) (omega arith) is)

find_none : (es : List Mark) (offset : ℕ) → ((k : ℕ) (d : Mark) → k < length es → (slice_index_or es k d).offset ≡ offset → ⊥) → find (λ e. e.offset == offset) es ≡ None
find_none [] offset h = refl
find_none (e ∷ es) offset h =
    let other = h 0 e (omega arith) in
    let test : (e.offset == offset) ≡ false = grind (arith, nat_tests) in
    rw test (find_none es offset (λ k d under. h (suc k) d (omega arith)))

pub found_there : (es : List Mark) (offset count : ℕ) (x : Mark) → IsCount es offset count → count < length es → (slice_index_or es count x).offset ≡ offset
    → Some (slice_index_or es count x) ≡ find (λ e. e.offset == offset) es
found_there es offset count x h q is = sym (find_at es offset count x (λ k d under. below _ offset (h.0 k d (omega arith) under)) q is)

pub found_nowhere : (es : List Mark) (offset count : ℕ) (x : Mark) → RisesFrom 0 es → IsCount es offset count → (count < length es → (slice_index_or es count x).offset ≡ offset → ⊥)
    → None ≡ find (λ e. e.offset == offset) es
found_nowhere es offset count x r h other = sym (find_none es offset (λ k d under is. cases k d under is))
  where
    cases : (k : ℕ) (d : Mark) → k < length es → (slice_index_or es k d).offset ≡ offset → ⊥
    cases k d under is =
        elim (nat_lt k count) as (λ b. nat_lt k count ≡ b → ⊥) [
          | true ↦ λ e. (let less = below _ offset (h.0 k d (omega arith) (below k count e)) in omega arith)
          | false ↦ λ e. (
              let from = above k count e in
              let order = rises_order 0 es r count k d from under in
              let least = above _ offset (h.1 count d (omega arith) (omega arith)) in
              let here : (slice_index_or es count d).offset ≡ offset = omega arith in
              other (omega arith) (rw (get_or_default es count x d (omega arith)) here))
        ] refl

-- the entries behind a count of marks
counted : (es : List Entry) (offset count : ℕ) → IsCount (map mark_of es) offset count → drop count es ≡ from_offset offset es
counted [] offset zero h = refl
counted [] offset (suc n) h = refl
counted (e ∷ es) offset zero h = (let test : nat_lt e.offset offset ≡ false = h.1 0 (mark_of e) (omega arith) (omega arith) in rw test refl)
counted (e ∷ es) offset (suc n) h =
    let test : nat_lt e.offset offset ≡ true = h.0 0 (mark_of e) (omega arith) (omega arith) in
    rw test (counted es offset n (λ k d q p. h.0 (suc k) d (omega arith) (omega arith), λ k d p q. h.1 (suc k) d (omega arith) (omega arith)))

pub counted_entries : (marks : List Mark) (es : List Entry) (offset count : ℕ) → marks ≡ map mark_of es → IsCount marks offset count → drop count es ≡ from_offset offset es
counted_entries marks es offset count same h = counted es offset count (subst (λ (ms : List Mark). IsCount ms offset count) same h)
