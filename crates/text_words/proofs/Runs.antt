-- Stored words of text side by side.
use Rattle.std.proofs.Common.{◌≡◌, ℕ, zero, suc, ◌+◌, ◌-◌, ◌*◌, ◌^◌, ◌<◌, ◌≤◌, List, length, drop, take, refl, ap}
use Rattle.std.proofs.Common.{sym, ◌∙◌, subst, arith, Bool, true, false, not, nat_eq, Some, None, Option, length-drop, length-take-le, inl, inr, true≢false}
use Rattle.std.specs.Prelude.{slice_get, slice_index, slice_index_or, IsSome, if◌then◌else◌}
use Rattle.std.specs.Option.{option_map}
use Rattle.std.specs.Cmp.Lexicographic.{pointwise, same_text, other_text}
use Rattle.std.proofs.lemmas.Bool.{cases_lt}
use Rattle.std.proofs.lemmas.List.{ext_get_or, get_or-drop, get_or-take}
use Rattle.std.proofs.lemmas.Option.{slice_get-get_or, get_or_from_slice_get}
use Rattle.text_words.specs.declared.region.Region.{Region}
use Rattle.text_words.specs.declared.region.Span.{Span}
use Rattle.text_words.specs.declared.text.TextWords.TheInside.{Inside}
use Rattle.text_words.specs.declared.fetch.Fetch.{Fetch}
use Rattle.text_words.specs.Words.{Words, AreStored, IsAmong, IsStoredAt, shown, stored, stored_as, is_planted, fetched_as, ebreak}
use Rattle.text_words.specs.Layout.{IsLaid, entry, index, seen, word_at}
use Rattle.text_words.specs.Runs.{IsRun}
use Rattle.text_words.proofs.Below.{word_above}
use Rattle.text_words.proofs.Marks.{shown_is, fetched_is, stored_entry}

-- ---- the run that they are

pub cut_length : {A : Type 0} (xs : List A) (first count : ℕ) → first + count ≤ length xs → length (take count (drop first xs)) ≡ count
cut_length xs first count h = length-take-le count (drop first xs) (omega (arith, length-drop first xs))

pub cut_at : {A : Type 0} (xs : List A) (first count k : ℕ) (d : A) → k < count → slice_index_or (take count (drop first xs)) k d ≡ slice_index_or xs (first + k) d
cut_at xs first count k d l = get_or-take count (drop first xs) k d l ∙ get_or-drop first xs k d

-- so many elements from a place on
pub cut : {A : Type 0} (xs ys : List A) (first count : ℕ) → xs ≡ ys → take (first + count - first) (drop first xs) ≡ take count (drop first ys)
cut xs ys first count e = ap (λ k. take k (drop first xs)) (let n : first + count - first ≡ count = omega arith in n) ∙ ap (λ zs. take count (drop first zs)) e

stored_by : (o : Option ℕ) (b : Bool) (w : ℕ) (f : Fetch) → o ≡ Some w → fetched_as o b ≡ f → option_map (λ v. if b then ebreak else v) o ≡ Some (stored_as w f)
stored_by None b w f e g = cc
stored_by (Some v) b w f e g = ap Some (stored_entry v b) ∙ (ap (λ x. Some (stored_as v x)) g ∙ ap (option_map (λ x. stored_as x f)) e)

-- what is stored at the place of an address
stored_there : (t : Inside) (addr i : ℕ) → IsLaid t → addr < 2 ^ 32 → index t.regions.items addr ≡ Some i → i < length t.words.items → stored (seen t) addr ≡ Some (slice_index t.stored.items i)
stored_there t addr i laid low found few =
    stored_by (shown (seen t) addr) (is_planted (seen t) addr) (slice_index t.words.items i) (entry t.words.items t.planted.items i)
    (shown_is t addr low ∙ ap (option_map (slice_index t.words.items)) found) (fetched_is t addr i low found)
    ∙ ap Some (sym (laid.stored.each i few))

pub run_of : (t : Inside) (addr first count : ℕ) → IsLaid t → first + count ≤ length t.words.items → ((k : ℕ) → k < count → addr + 4 * k < 2 ^ 32)
    → ((k : ℕ) → k < count → index t.regions.items (addr + 4 * k) ≡ Some (first + k)) → IsRun (seen t) addr (take count (drop first t.stored.items))
run_of t addr first count laid few low found =
    let many : length (take count (drop first t.stored.items)) ≡ count = cut_length t.stored.items first count (omega (arith, few, laid.stored.whole)) in
    record {
      low = λ k l. low k (omega (arith, l, many));
      are = λ k l.
          let less : k < count = omega (arith, l, many) in
          stored_there t (addr + 4 * k) (first + k) laid (low k less) (found k less) (omega (arith, less, few)) ∙ ap Some (sym (cut_at t.stored.items first count k 0 less));
    }

-- the same where the text and its lists are known by other names
pub run_is : (t : Inside) (w : Words) (addr first count : ℕ) (rs : List Region) (words : List ℕ) → seen t ≡ w → IsLaid t → rs ≡ t.regions.items
    → first + count ≤ length t.words.items → ((k : ℕ) → k < count → addr + 4 * k < 2 ^ 32) → ((k : ℕ) → k < count → index rs (addr + 4 * k) ≡ Some (first + k))
    → words ≡ take count (drop first t.stored.items) → IsRun w addr words
run_is t w addr first count rs words e laid regions few low found are =
    subst (λ v. IsRun v addr words) e
    (subst (λ xs. IsRun (seen t) addr xs) (sym are) (run_of t addr first count laid few low (λ k l. ap (λ xs. index xs (addr + 4 * k)) (sym regions) ∙ found k l)))

-- no word stands behind the last one
none_behind : (t : Inside) (addr count : ℕ) (rs : List Region) → rs ≡ t.regions.items → (addr + 4 * count < 2 ^ 32 → index rs (addr + 4 * count) ≡ None) → shown (seen t) (addr + 4 * count) ≡ None
none_behind t addr count rs regions ends =
    let a : ℕ = addr + 4 * count in
    elim (cases_lt a (2 ^ 32)) [
      | inl low ↦ shown_is t a low ∙ ap (option_map (slice_index t.words.items)) (ap (λ xs. index xs a) (sym regions) ∙ ends low)
      | inr high ↦ word_above (word_at t.regions.items t.words.items) (2 ^ 32) a high
    ]

pub ends_there : {A : Type 0} (t : Inside) (w : Words) (addr first count : ℕ) (rs : List Region) (xs ys : List A) → seen t ≡ w → IsLaid t → rs ≡ t.regions.items → first + count ≤ length t.words.items → length ys ≡ length t.words.items
    → (addr + 4 * count < 2 ^ 32 → index rs (addr + 4 * count) ≡ None) → xs ≡ ys → shown w (addr + 4 * length (take (first + count - first) (drop first xs))) ≡ None
ends_there t w addr first count rs xs ys e laid regions few whole ends are =
    let many : count ≡ length (take (first + count - first) (drop first xs)) = sym (ap length (cut xs ys first count are) ∙ cut_length ys first count (omega (arith, few, whole))) in
    subst (λ v. shown v (addr + 4 * length (take (first + count - first) (drop first xs))) ≡ None) e (subst (λ n. shown (seen t) (addr + 4 * n) ≡ None) many (none_behind t addr count rs regions ends))

some_none : {P : Type 0} (o : Option ℕ) → IsSome o → o ≡ None → P
some_none None s e = absurd (true≢false (sym s))
some_none (Some v) s e = absurd (cc)

-- a word that is there begins a run
pub some_there : {A : Type 0} (t : Inside) (w : Words) (addr first count : ℕ) (rs : List Region) (xs ys : List A) → seen t ≡ w → IsLaid t → rs ≡ t.regions.items → addr < 2 ^ 32 → first + count ≤ length t.words.items → length ys ≡ length t.words.items
    → (addr + 4 * count < 2 ^ 32 → index rs (addr + 4 * count) ≡ None) → xs ≡ ys → IsSome (shown w addr) → 0 < length (take (first + count - first) (drop first xs))
some_there t w addr first zero rs xs ys e laid regions l few whole ends are s =
    let none : shown w (addr + 0) ≡ None = subst (λ v. shown v (addr + 0) ≡ None) e (none_behind t addr 0 rs regions ends) in
    let same : addr + 0 ≡ addr = omega arith in
    some_none (shown w addr) s (sym (ap (shown w) same) ∙ none)
some_there t w addr first (suc count) rs xs ys e laid regions l few whole ends are s =
    omega (arith, ap length (cut xs ys first (suc count) are), cut_length ys first (suc count) (omega (arith, few, whole)))

found_some : (o : Option ℕ) (words : List ℕ) → IsSome (option_map (slice_index words) o) → (P : Type 0) → ((i : ℕ) → o ≡ Some i → P) → P
found_some None words s P k = absurd (true≢false (sym s))
found_some (Some i) words s P k = k i refl

-- a word that is there is one of the region's
pub among_there : {A : Type 0} (t : Inside) (w : Words) (addr : ℕ) (s : Span) (rs : List Region) (xs ys : List A) → seen t ≡ w → IsLaid t → rs ≡ t.regions.items → addr < 2 ^ 32 → s.first + s.count ≤ length t.words.items → length ys ≡ length t.words.items
    → ((i : ℕ) → addr < 2 ^ 32 → index rs addr ≡ Some i → IsAmong addr s.address s.count) → xs ≡ ys → IsSome (shown w addr) → IsAmong addr s.address (length (take (s.first + s.count - s.first) (drop s.first xs)))
among_there t w addr s rs xs ys e laid regions l few whole here are some =
    let many : s.count ≡ length (take (s.first + s.count - s.first) (drop s.first xs)) = sym (ap length (cut xs ys s.first s.count are) ∙ cut_length ys s.first s.count (omega (arith, few, whole))) in
    let there : IsSome (word_at t.regions.items t.words.items addr) = subst IsSome (shown_is t addr l) (subst (λ v. IsSome (shown v addr)) (sym e) some) in
    let Q : ℕ → Type 0 = λ n. IsAmong addr s.address n in
    subst Q many (found_some (index t.regions.items addr) t.words.items there (Q s.count) (λ i f. here i l (ap (λ xs. index xs addr) regions ∙ f)))

-- ---- what is stored there

some_same : (v w : ℕ) → Some v ≡ Some w → v ≡ w
some_same v w e = cc

-- words that are stored are those of the run
pub held : (t : Words) (addr : ℕ) (words given : List ℕ) (n : ℕ) → IsRun t addr words → n ≤ length words → n ≤ length given → AreStored t addr given
    → take n words ≡ take n given
held t addr words given n run few some all =
    ext_get_or 0 (take n words) (take n given) (length-take-le n words few ∙ sym (length-take-le n given some))
    (λ k l.
    let less : k < n = omega (arith, l, length-take-le n words few) in
    get_or-take n words k 0 less
    ∙ (some_same _ _ (sym (run.are k (omega arith)) ∙ (all k (slice_index given k) (slice_get-get_or given k 0 (omega arith))).1) ∙ sym (get_or-take n given k 0 less)))

pub held_stored : (t : Words) (addr : ℕ) (words given : List ℕ) (n k w : ℕ) → IsRun t addr words → n ≤ length words → take n words ≡ take n given → k < n
    → slice_get given k ≡ Some w → IsStoredAt t addr k w
held_stored t addr words given n k w run few same l e =
    let less : k < length words = omega arith in (
      run.low k less,
      run.are k less
          ∙ ap Some (sym (get_or-take n words k 0 l) ∙ (ap (λ xs. slice_index xs k) same ∙ (get_or-take n given k 0 l ∙ get_or_from_slice_get given k w 0 e))),
    )

-- ---- comparisons of words

yes : (b : Bool) → not b ≡ false → true ≡ b
yes true e = refl
yes false e = absurd (true≢false e)

no : (b : Bool) → not b ≡ true → false ≡ b
no true e = absurd (true≢false (sym e))
no false e = refl

pub agree : (xs ys : List ℕ) → not (pointwise nat_eq xs ys) ≡ false → xs ≡ ys
agree xs ys e = same_text xs ys (yes (pointwise nat_eq xs ys) e)

pub differ : (xs ys : List ℕ) → not (pointwise nat_eq xs ys) ≡ true → xs ≡ ys → ⊥
differ xs ys e = other_text xs ys (no (pointwise nat_eq xs ys) e)
