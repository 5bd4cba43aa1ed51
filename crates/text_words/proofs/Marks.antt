-- Words, marks and instructions at the places of addresses.
use Rattle.std.proofs.Common.{◌≡◌, ◌≢◌, ℕ, suc, zero, ◌%◌, ◌^◌, ◌<◌, List, length, replicate, subst}
use Rattle.std.proofs.Common.{refl, ap, sym, ◌∙◌, arith, Bool, true, false, cond, Some, None, Option, get_or-set_same, get_or-set_other, length-set, inl, inr, true≢false}
use Rattle.std.specs.Prelude.{slice_index, slice_index_or, slice_set, IsSome, ◌==◌, ◌⊎◌, if◌then◌else◌}
use Rattle.std.specs.Option.{option_map, option_map_or}
use Rattle.std.specs.FinSet as set
use Rattle.std.proofs.lemmas.Bool.Decides.{nat_tests}
use Rattle.rv_decode.specs.declared.instr.Instr.{Instr}
use Rattle.rv_decode.specs.Decode.{decode}
use Rattle.elf32_read.specs.Program.{Program, text_word}
use Rattle.text_words.specs.declared.region.Region.{Region}
use Rattle.text_words.specs.declared.text.TextWords.TheInside.{Inside}
use Rattle.text_words.specs.declared.fetch.Fetch.{Fetch}
use Rattle.text_words.specs.Tables.{words_below, set_below}
use Rattle.text_words.specs.Words.{Words, shown, is_planted, fetched, fetched_as, decoded_as, ebreak, stored_as, unpatched}
use Rattle.text_words.specs.Layout.{Laid, AreKept, place, index, word_at, entry, mark_at, seen}
use Rattle.text_words.proofs.Below.{word_below, in_below, inserted, removed, same_words, none_in}
use Rattle.text_words.proofs.Places.{place_range, one_place}

some_of_test : (b : Bool) (o : Option ℕ) (i : ℕ) → cond b o None ≡ Some i → (b ≡ true) × (o ≡ Some i)
some_of_test true o i e = (refl, e)
some_of_test false o i e = absurd (cc)

zero_test : (a : ℕ) → (a == 0) ≡ true → a ≡ 0
zero_test a e = grind (arith, nat_tests)

pub index_range : (rs : List Region) (end addr i : ℕ) → Laid 0 rs end → index rs addr ≡ Some i → i < end
unfolding index
index_range rs end addr i h e = (place_range rs 0 end addr i h (some_of_test (addr % 4 == 0) (place rs addr) i e).1).1

one_index : (rs : List Region) (end a b i : ℕ) → Laid 0 rs end → index rs a ≡ Some i → index rs b ≡ Some i → a ≡ b
unfolding index
one_index rs end a b i h ea eb =
    let ta : ((a % 4 == 0) ≡ true) × (place rs a ≡ Some i) = some_of_test (a % 4 == 0) (place rs a) i ea in
    let tb : ((b % 4 == 0) ≡ true) × (place rs b ≡ Some i) = some_of_test (b % 4 == 0) (place rs b) i eb in
    one_place rs 0 end a b i h (zero_test (a % 4) ta.0) (zero_test (b % 4) tb.0) ta.1 tb.1

mark_here : (rs : List Region) (planted : List Bool) (addr i : ℕ) (b : Bool) → Laid 0 rs (length planted) → index rs addr ≡ Some i → mark_at rs (slice_set planted i b) addr ≡ b
mark_here rs planted addr i b h e =
    ap (λ o. option_map_or (λ j. slice_index_or (slice_set planted i b) j false) o false) e ∙ get_or-set_same planted i b false (index_range rs (length planted) addr i h e)

mark_other : (rs : List Region) (planted : List Bool) (addr i q : ℕ) (b : Bool) (o : Option ℕ) → Laid 0 rs (length planted) → index rs addr ≡ Some i → q ≢ addr → index rs q ≡ o
    → option_map_or (λ j. slice_index_or (slice_set planted i b) j false) o false ≡ option_map_or (λ j. slice_index_or planted j false) o false
mark_other rs planted addr i q b None h e d w = refl
mark_other rs planted addr i q b (Some j) h e d w =
    get_or-set_other planted i j b false (λ s. d (one_index rs (length planted) q addr i h (w ∙ ap Some s) e))

same_place : (h k : ℕ) → (h ≡ k) ⊎ (h ≡ k → ⊥)
same_place zero zero = inl refl
same_place zero (suc k) = inr (λ e. absurd (omega arith))
same_place (suc h) zero = inr (λ e. absurd (omega arith))
same_place (suc h) (suc k) = elim (same_place h k) [ inl e ↦ inl (ap suc e) | inr n ↦ inr (λ e. n (omega arith)) ]

-- what is kept of each word stays so
pub kept_set : {A : Type 0} (make : ℕ → Fetch → A) (d : A) (words : List ℕ) (planted : List Bool) (kept : List A) (i : ℕ) (b : Bool) (x : A) → length planted ≡ length words → i < length words
    → x ≡ make (slice_index words i) (fetched_as (Some (slice_index words i)) b) → AreKept make d words planted kept → AreKept make d words (slice_set planted i b) (slice_set kept i x)
kept_set make d words planted kept i b x whole low is all = record {
  whole = length-set kept i x ∙ all.whole;
  each = λ k within.
      elim (same_place i k) [
        | inl e ↦
            subst (λ j. slice_index_or (slice_set kept i x) j d ≡ make (slice_index words j) (entry words (slice_set planted i b) j)) e
            (get_or-set_same kept i x d (omega (arith, low, all.whole)) ∙ is
            ∙ ap (λ m. make (slice_index words i) (fetched_as (Some (slice_index words i)) m)) (sym (get_or-set_same planted i b false (omega (arith, low, whole)))))
        | inr n ↦
            get_or-set_other kept i k x d (λ e. n (sym e)) ∙ all.each k within
            ∙ ap (λ m. make (slice_index words k) (fetched_as (Some (slice_index words k)) m)) (sym (get_or-set_other planted i k b false (λ e. n (sym e))))
      ];
}

unmarked : (n k : ℕ) → slice_index_or (replicate n false) k false ≡ false
unmarked zero k = refl
unmarked (suc n) zero = refl
unmarked (suc n) (suc k) = unmarked n k

-- what is kept as it is made, with no breakpoint
pub kept_unmarked : {A : Type 0} (make : ℕ → Fetch → A) (d : A) (words : List ℕ) (kept : List A) (n : ℕ) → length kept ≡ length words
    → ((k : ℕ) → k < length words → slice_index_or kept k d ≡ make (slice_index words k) (fetched_as (Some (slice_index words k)) false)) → AreKept make d words (replicate n false) kept
kept_unmarked make d words kept n whole each = record {
  whole = whole;
  each = λ k l. each k l ∙ ap (λ m. make (slice_index words k) (fetched_as (Some (slice_index words k)) m)) (sym (unmarked n k));
}

stored_decoded : (w : ℕ) (o : Option Instr) → w ≡ stored_as w (decoded_as o)
stored_decoded w None = refl
stored_decoded w (Some i) = refl

pub stored_entry : (w : ℕ) (b : Bool) → (if b then ebreak else w) ≡ stored_as w (fetched_as (Some w) b)
stored_entry w true = refl
stored_entry w false = stored_decoded w (decode w)

blank : (n : ℕ) (o : Option ℕ) → option_map_or (λ i. slice_index_or (replicate n false) i false) o false ≡ false
blank n None = refl
blank n (Some i) = unmarked n i

pub shown_is : (t : Inside) (addr : ℕ) → addr < 2 ^ 32 → shown (seen t) addr ≡ word_at t.regions.items t.words.items addr
shown_is t addr l = word_below (word_at t.regions.items t.words.items) (2 ^ 32) addr l

pub none_shown : (t : Inside) (addr : ℕ) → addr < 2 ^ 32 → index t.regions.items addr ≡ None → IsSome (shown (seen t) addr) → ⊥
none_shown t addr l e s = true≢false (sym (subst IsSome (shown_is t addr l ∙ ap (option_map (slice_index t.words.items)) e) s))

pub planted_is : (t : Inside) (addr : ℕ) → addr < 2 ^ 32 → is_planted (seen t) addr ≡ mark_at t.regions.items t.planted.items addr
planted_is t addr l = in_below (mark_at t.regions.items t.planted.items) (2 ^ 32) addr l

-- what a hart finds where a word is
pub fetched_is : (t : Inside) (addr i : ℕ) → addr < 2 ^ 32 → index t.regions.items addr ≡ Some i → fetched (seen t) addr ≡ entry t.words.items t.planted.items i
fetched_is t addr i l e =
    ap (λ o. fetched_as o (is_planted (seen t) addr)) (shown_is t addr l)
    ∙ ap (fetched_as (word_at t.regions.items t.words.items addr)) (planted_is t addr l)
    ∙ ap (λ o. fetched_as (option_map (slice_index t.words.items) o) (option_map_or (λ j. slice_index_or t.planted.items j false) o false)) e

marked_set : (rs : List Region) (old new : List Bool) (addr : ℕ) (b : Bool) → addr < 2 ^ 32 → mark_at rs new addr ≡ b → ((q : ℕ) → q ≢ addr → mark_at rs new q ≡ mark_at rs old q)
    → set_below (mark_at rs new) (2 ^ 32) ≡ (if b then set.insert (set_below (mark_at rs old) (2 ^ 32)) addr else set.remove (set_below (mark_at rs old) (2 ^ 32)) addr)
marked_set rs old new addr true l here others = inserted (mark_at rs old) (mark_at rs new) (2 ^ 32) addr l here (λ r s d. others r d)
marked_set rs old new addr false l here others = removed (mark_at rs old) (mark_at rs new) (2 ^ 32) addr l here (λ r s d. others r d)

-- one place is marked, or no more
pub set_marked : (rs : List Region) (planted : List Bool) (addr i : ℕ) (b : Bool) → addr < 2 ^ 32 → Laid 0 rs (length planted) → index rs addr ≡ Some i
    → set_below (mark_at rs (slice_set planted i b)) (2 ^ 32) ≡ (if b then set.insert (set_below (mark_at rs planted) (2 ^ 32)) addr else set.remove (set_below (mark_at rs planted) (2 ^ 32)) addr)
set_marked rs planted addr i b l h e =
    marked_set rs planted (slice_set planted i b) addr b l (mark_here rs planted addr i b h e) (λ q d. mark_other rs planted addr i q b (index rs q) h e d refl)

-- nothing is marked where no word of text is
pub unmarked_set : (t : Inside) (addr : ℕ) (planted : Bool) → addr < 2 ^ 32 → index t.regions.items addr ≡ None → (planted ≡ true → IsSome (shown (seen t) addr))
    → (seen t).planted ≡ (if planted then set.insert (seen t).planted addr else set.remove (seen t).planted addr)
unmarked_set t addr true l e some = absurd (none_shown t addr l e (some refl))
unmarked_set t addr false l e some =
    marked_set t.regions.items t.planted.items t.planted.items addr false l (ap (λ o. option_map_or (λ j. slice_index_or t.planted.items j false) o false) e) (λ q d. refl)

pub begun : (p : Program) (rs : List Region) (words : List ℕ) (n : ℕ) → ((addr : ℕ) → word_at rs words addr ≡ text_word p addr)
    → ◌≡◌ {A = Words} (record { words = words_below (word_at rs words) (2 ^ 32); planted = set_below (mark_at rs (replicate n false)) (2 ^ 32) }) (unpatched p)
begun p rs words n are =
    ap (λ m. record { words = m; planted = set_below (mark_at rs (replicate n false)) (2 ^ 32) }) (same_words (word_at rs words) (text_word p) (2 ^ 32) (λ q l. are q))
    ∙ ap (λ s. record { words = words_below (text_word p) (2 ^ 32); planted = s }) (none_in (mark_at rs (replicate n false)) (2 ^ 32) (λ q l. blank n (index rs q)))
