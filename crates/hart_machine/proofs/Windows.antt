-- Windows of stored words.
use Rattle.std.proofs.Common.{◌≡◌, ℕ, zero, suc, ◌+◌, ◌-◌, ◌*◌, ◌^◌, ◌<◌, ◌≤◌, length, length-append, length-take-le, take, drop, arith, List, [], ◌∷◌, ◌++◌, ap, sym, ◌∙◌, refl, subst, Bool, true, false, inl, inr}
use Rattle.std.proofs.Common.{append_assoc, append-nil, min}
use Rattle.std.specs.Prelude.{◌⊎◌, Option, Some, None, IsSome, Result, Ok, OnOk, slice_get, slice_index, slice_index_or, slice_set, unwrap_or, replicate, if◌then◌else◌}
use Rattle.std.specs.Option.{option_and_then, option_map}
use Rattle.std.proofs.lemmas.Bool.{cases_lt}
use Rattle.std.proofs.lemmas.List.{get_or_append_left, get_or-append_right, get_or-drop, get_or-take, take_all}
use Rattle.std.proofs.lemmas.Option.{slice_get_within}
use Rattle.std.proofs.Math.Seq.{take-suc}
use Rattle.rv_decode.specs.declared.instr.Instr.{Instr}
use Rattle.rv_decode.specs.declared.instr.Instr.TheVariants.{Ebreak}
use Rattle.rv_exec.specs.declared.operation.Operation.{Operation}
use Rattle.rv_exec.specs.declared.operation.Operation.TheVariants.{Break}
use Rattle.rv_exec.specs.Operations.{flat}
use Rattle.rv_decode.specs.Decode.{decode}
use Rattle.rv_decode.specs.Word as fields
use Rattle.reg_slices.specs.Slices.{AreDecoded}
use Rattle.text_words.specs.Words.{Words, AreStored, decoded_as, ebreak, fetched, fetched_as, operation_of, is_planted, shown, stored}
use Rattle.text_words.specs.Runs.{AreOperations, IsRun}
use Rattle.hart_machine.specs.Slices.{window, window_room, word_then, words_from}

-- one more word
one_more : (t : Words) (addr next n k w : ℕ) (words all : List ℕ) → words ++ words_from t addr n ≡ all → n ≡ suc k → next ≡ addr + 4 → stored t addr ≡ Some w
    → (words ++ w ∷ []) ++ words_from t next k ≡ all
one_more t addr next n k w words all so_far more on is =
    append_assoc words (w ∷ []) (words_from t next k)
    ∙ (ap (λ a. words ++ w ∷ words_from t a k) on
    ∙ (ap (λ o. words ++ word_then o (words_from t (addr + 4) k)) (sym is)
    ∙ (ap (λ j. words ++ words_from t addr j) (sym more) ∙ so_far)))

-- the words of a run, and those that come after them
near_words : (t : Words) (addr room n : ℕ) (words : List ℕ) → IsRun t addr words → n ≤ length words → n ≤ room
    → take n words ++ words_from t (addr + 4 * n) (room - n) ≡ words_from t addr room
near_words t addr room zero words run few some = ap (words_from t (addr + 4 * 0)) (let e : room - 0 ≡ room = omega arith in e) ∙ ap (λ a. words_from t a room) (let e : addr + 4 * 0 ≡ addr = omega arith in e)
near_words t addr room (suc n) words run few some =
    ap (λ xs. xs ++ words_from t (addr + 4 * suc n) (room - suc n)) (take-suc words n 0 few)
    ∙ one_more t (addr + 4 * n) (addr + 4 * suc n) (room - n) (room - suc n) (slice_index words n) (take n words) (words_from t addr room)
    (near_words t addr room n words run (omega arith) (omega arith)) (omega arith) (omega arith) (run.are n few)

stored_none : (t : Words) (addr : ℕ) → shown t addr ≡ None → stored t addr ≡ None
stored_none t addr e = ap (option_map (λ w. if is_planted t addr then ebreak else w)) e

no_words : (t : Words) (addr n : ℕ) → n ≡ 0 ⊎ (stored t addr ≡ None) → words_from t addr n ≡ []
no_words t addr zero h = refl
no_words t addr (suc n) h = elim h [ inl e ↦ absurd (omega (arith, e)) | inr e ↦ ap (λ o. word_then o (words_from t (addr + 4) n)) e ]

-- a run that goes on up to a gap has the words of the window
pub window_of : (t : Words) (at n : ℕ) (words : List ℕ) → IsRun t at words → shown t (at + 4 * length words) ≡ None → n ≡ min (window_room at) (length words) → take n words ≡ window t at
window_of t at n words run ends is =
    let room : ℕ = window_room at in
    let rest : words_from t (at + 4 * n) (room - n) ≡ [] =
    no_words t (at + 4 * n) (room - n)
    (elim (cases_lt n room) [
      | inl less ↦ inr (ap (λ k. stored t (at + 4 * k)) (let e : n ≡ length words = omega (arith, is, less) in e) ∙ stored_none t (at + 4 * length words) ends)
      | inr all ↦ inl (omega (arith, all))
    ]) in
    sym (append-nil (take n words)) ∙ (ap (λ xs. take n words ++ xs) (sym rest) ∙ near_words t at room n words run (omega (arith, is)) (omega (arith, is)))

pub on_ok : {A E P : Type 0} (r : Result A E) (x : A) → r ≡ Ok x → OnOk r P → P
on_ok {P = P} r x is h = subst (λ q. OnOk q P) is h

-- ---- the instructions of a window

pub ebreak_is : Some Ebreak ≡ decode ebreak
unfolding decode fields.bits
ebreak_is = refl

by_decoded : (o : Option Instr) → flat (unwrap_or o Ebreak) ≡ operation_of (decoded_as o)
by_decoded None = refl
by_decoded (Some i) = refl

by_fetched : (o : Option ℕ) (b : Bool) → flat (unwrap_or (option_and_then decode (option_map (λ w. if b then ebreak else w) o)) Ebreak) ≡ operation_of (fetched_as o b)
by_fetched None b = refl
by_fetched (Some w) true = ap (λ o. flat (unwrap_or o Ebreak)) (sym ebreak_is)
by_fetched (Some w) false = by_decoded (decode w)

pub stored_is : (t : Words) (addr : ℕ) (i : Operation) → i ≡ operation_of (fetched t addr) → i ≡ flat (unwrap_or (option_and_then decode (stored t addr)) Ebreak)
stored_is t addr i same = same ∙ sym (by_fetched (shown t addr) (is_planted t addr))

then_word : (t : Words) (addr : ℕ) (o : Option ℕ) (ws : List ℕ) (k : ℕ) → o ≡ stored t addr → ((j : ℕ) → j < length ws → slice_get ws j ≡ stored t (addr + 4 + 4 * j)) → k < length (word_then o ws)
    → slice_get (word_then o ws) k ≡ stored t (addr + 4 * k)
then_word t addr None ws k is each low = absurd (omega arith)
then_word t addr (Some w) ws zero is each low = is ∙ ap (stored t) (let e : addr ≡ addr + 4 * 0 = omega arith in e)
then_word t addr (Some w) ws (suc k) is each low = each k (omega arith) ∙ ap (stored t) (let e : addr + 4 + 4 * k ≡ addr + 4 * suc k = omega arith in e)

-- the word at a place of the words from an address on
pub word_is : (t : Words) (addr n k : ℕ) → k < length (words_from t addr n) → slice_get (words_from t addr n) k ≡ stored t (addr + 4 * k)
word_is t addr zero k low = absurd (omega arith)
word_is t addr (suc n) k low = then_word t addr (stored t addr) (words_from t (addr + 4) n) k refl (λ j l. word_is t (addr + 4) n j l) low

then_few : (o : Option ℕ) (ws : List ℕ) (n : ℕ) → length ws ≤ n → length (word_then o ws) ≤ suc n
then_few None ws n few = omega arith
then_few (Some w) ws n few = omega arith

pub few_words : (t : Words) (addr n : ℕ) → length (words_from t addr n) ≤ n
few_words t addr zero = omega arith
few_words t addr (suc n) = then_few (stored t addr) (words_from t (addr + 4) n) n (few_words t (addr + 4) n)

-- no word of a window is past the last address
pub within_room : (t : Words) (at i : ℕ) → at < 2 ^ 32 → i < length (window t at) → (i < 64) × (at + 4 * i < 2 ^ 32)
within_room t at i low here = let few : length (window t at) ≤ window_room at = few_words t at (window_room at) in (omega arith, omega arith)

past : (ws : List ℕ) (k : ℕ) → length ws ≤ k → slice_get ws k ≡ None
past [] k high = refl
past (w ∷ ws) zero high = absurd (omega arith)
past (w ∷ ws) (suc k) high = past ws k (omega arith)

none_decoded : (n k : ℕ) → slice_index_or (replicate n Break) k Break ≡ Break
none_decoded zero k = refl
none_decoded (suc n) zero = refl
none_decoded (suc n) (suc k) = none_decoded n k

all_decoded : (words : List ℕ) (instructions : List Operation) (n : ℕ) → length words ≤ n → ((k : ℕ) → k < n → slice_index_or instructions k Break ≡ flat (unwrap_or (option_and_then decode (slice_get words k)) Ebreak))
    → ((k : ℕ) → n ≤ k → slice_index_or instructions k Break ≡ Break) → AreDecoded words instructions
all_decoded words instructions n few below above k =
    elim (cases_lt k n) [
      | inl low ↦ below k low
      | inr high ↦ above k high ∙ sym (ap (λ o. flat (unwrap_or (option_and_then decode o) Ebreak)) (past words k (omega arith)))
    ]

-- ---- a window whose instructions stand side by side

then_many : (o : Option ℕ) (b : Bool) (ws : List ℕ) (n : ℕ) → IsSome o → n ≤ length ws → suc n ≤ length (word_then (option_map (λ w. if b then ebreak else w) o) ws)
then_many None b ws n s l = cc
then_many (Some w) b ws n s l = omega (arith, l)

-- words that are there without a gap are the window's
many_words : (t : Words) (addr n near : ℕ) → near ≤ n → ((k : ℕ) → k < near → IsSome (shown t (addr + 4 * k))) → near ≤ length (words_from t addr n)
many_words t addr n zero few s = omega arith
many_words t addr zero (suc near) few s = absurd (omega (arith, few))
many_words t addr (suc n) (suc near) few s =
    then_many (shown t addr) (is_planted t addr) (words_from t (addr + 4) n) near
    (subst (λ a. IsSome (shown t a)) (let e : addr + 4 * 0 ≡ addr = omega arith in e) (s 0 (omega arith)))
    (many_words t (addr + 4) n near (omega (arith, few)) (λ k l. subst (λ a. IsSome (shown t a)) (let e : addr + 4 * suc k ≡ addr + 4 + 4 * k = omega arith in e) (s (suc k) (omega (arith, l)))))

then_none : (o : Option ℕ) (ws : List ℕ) → o ≡ None → length (word_then o ws) ≤ 0
then_none None ws e = omega arith
then_none (Some w) ws e = cc

-- it ends at a gap
pub no_more : (t : Words) (addr n near : ℕ) → stored t (addr + 4 * near) ≡ None → length (words_from t addr n) ≤ near
no_more t addr zero near e = omega arith
no_more t addr (suc n) zero e = then_none (stored t addr) (words_from t (addr + 4) n) (ap (stored t) (let z : addr ≡ addr + 4 * 0 = omega arith in z) ∙ e)
no_more t addr (suc n) (suc near) e =
    then_few (stored t addr) (words_from t (addr + 4) n) near (no_more t (addr + 4) n near (ap (stored t) (let z : addr + 4 + 4 * near ≡ addr + 4 * suc near = omega arith in z) ∙ e))

behind : (is : List Operation) (k : ℕ) → length is ≤ k → slice_index_or is k Break ≡ Break
behind [] k high = refl
behind (i ∷ is) zero high = absurd (omega arith)
behind (i ∷ is) (suc k) high = behind is k (omega arith)

decoded_there : (t : Words) (at : ℕ) (is : List Operation) → AreOperations t at is → length is ≤ window_room at → length (window t at) ≤ length is → AreDecoded (window t at) is
decoded_there t at is run few whole =
    let room : ℕ = window_room at in
    let many : length is ≤ length (window t at) = many_words t at room (length is) few run.there in
    all_decoded (window t at) is (length is) whole
    (λ k l.
    stored_is t (at + 4 * k) (slice_index_or is k Break) (run.are k l)
    ∙ sym (ap (λ o. flat (unwrap_or (option_and_then decode o) Ebreak)) (word_is t at room k (omega (arith, l, many)))))
    (λ k l. behind is k l)

-- so many of them alone
fewer : (t : Words) (at n : ℕ) (is : List Operation) → n ≤ length is → AreOperations t at is → AreOperations t at (take n is)
fewer t at n is few run =
    let many : length (take n is) ≡ n = length-take-le n is few in
    record {
      low = λ k l. run.low k (omega (arith, l, many, few));
      there = λ k l. run.there k (omega (arith, l, many, few));
      are = λ k l. get_or-take n is k Break (omega (arith, l, many)) ∙ run.are k (omega (arith, l, many, few));
    }

decoded_first : (t : Words) (at : ℕ) (is : List Operation) → AreOperations t at is → window_room at ≤ length is → AreDecoded (window t at) (take (window_room at) is)
decoded_first t at is run enough =
    let room : ℕ = window_room at in
    let many : length (take room is) ≡ room = length-take-le room is enough in
    decoded_there t at (take room is) (fewer t at room is enough run) (omega (arith, many)) (omega (arith, many, few_words t at room))

-- the words of a window are stored
pub window_stored : (t : Words) (at : ℕ) → at < 2 ^ 32 → AreStored t at (window t at)
window_stored t at low i w is =
    let here : i < length (window t at) = slice_get_within (window t at) i w is in
    ((within_room t at i low here).1, sym (word_is t at (window_room at) i here) ∙ is)

-- ---- operations of a run that goes on up to a gap

pub decoded_of : (t : Words) (at n : ℕ) (is : List Operation) → AreOperations t at is → shown t (at + 4 * length is) ≡ None → n ≡ min (window_room at) (length is) → AreDecoded (window t at) (take n is)
decoded_of t at n is run ends e =
    let room : ℕ = window_room at in
    elim (cases_lt n room) [
      | inl less ↦
          let all : n ≡ length is = omega (arith, e, less) in
          let P : List Operation → Type 0 = λ xs. AreDecoded (window t at) xs in
          subst P (sym (ap (λ k. take k is) all ∙ take_all (length is) is (omega arith)))
          (decoded_there t at is run (omega (arith, all, less)) (no_more t at room (length is) (stored_none t (at + 4 * length is) ends)))
      | inr enough ↦
          let whole : n ≡ room = omega (arith, e, enough) in
          let P : ℕ → Type 0 = λ k. AreDecoded (window t at) (take k is) in
          subst P (sym whole) (decoded_first t at is run (omega (arith, e, enough)))
    ]

-- ---- operations that are copied to the front of a list

front_by : (is : List Operation) (k : ℕ) (b : (k < length is) ⊎ (length is ≤ k)) → slice_index_or (is ++ drop (length is) (replicate 64 Break)) k Break ≡ slice_index_or is k Break
front_by is k (inl low) = get_or_append_left is (drop (length is) (replicate 64 Break)) Break k low
front_by is k (inr high) =
    get_or-append_right is (drop (length is) (replicate 64 Break)) (length is) k Break refl high
    ∙ get_or-drop (length is) (replicate 64 Break) (k - length is) Break
    ∙ none_decoded 64 (length is + (k - length is))
    ∙ sym (behind is k high)

pub copied_decoded : (words : List ℕ) (is : List Operation) → AreDecoded words is → AreDecoded words (is ++ drop (length is) (replicate 64 Break))
copied_decoded words is are k = front_by is k (cases_lt k (length is)) ∙ are k
