-- What bytes in pages have at each address.
use Rattle.std.proofs.Common.{◌≡◌, ℕ, suc, zero, ◌+◌, ◌*◌, ◌/◌, ◌%◌, ◌^◌, ◌<◌, ◌≤◌, inl, inr, List, length, refl, ap, sym, ◌∙◌, subst, arith, Bool, true, false, Some, None, Option, ◌&&◌, length-set, get_or-set_same, get_or-set_other}
use Rattle.std.specs.Prelude.{slice_index, slice_set}
use Rattle.std.specs.FinMap as map
use Rattle.rv_exec.specs.Memory.{Byte, number_at, with_number, with_byte, all_writable, is_writable, IsLen}
use Rattle.data_memory.specs.Blocks.{spot}
use Rattle.data_memory.specs.Paged.{byte, byte_at, paged, IsPaged, spelled, are_writable, with_number_at}
use Rattle.data_memory.proofs.Maps.{get_below, insert_below}

-- an aligned number lies within one page
pub within_page : (k n j : ℕ) → IsLen n → k % n ≡ 0 → j < n → k % 512 + j < 512
within_page k n j (inl e) a h = omega arith
within_page k n j (inr (inl e)) a h = let b : k % 2 ≡ 0 = subst (λ m. k % m ≡ 0) e a in omega arith
within_page k n j (inr (inr e)) a h = let b : k % 4 ≡ 0 = subst (λ m. k % m ≡ 0) e a in omega arith

pub spot_along : (pages : List ℕ) (k j : ℕ) → k % 512 + j < 512 → spot pages (k + j) ≡ spot pages k + j
unfolding spot
spot_along pages k j h =
    let page : (k + j) / 512 ≡ k / 512 = omega arith in
    let place : (k + j) % 512 ≡ k % 512 + j = omega arith in
    ap (λ p. slice_index pages p * 512 + (k + j) % 512) page ∙ omega arith

pub spot_within : (pages : List ℕ) (bytes : List (Option Byte)) (k j : ℕ) → IsPaged pages bytes → k < 2 ^ 32 → k % 512 + j < 512 → spot pages k + j < length bytes
unfolding spot
spot_within pages bytes k j h l w = omega (arith, h.inside (k / 512) (omega arith))

-- the bytes from place i on are those of the addresses from k on
pub record Along (pages : List ℕ) (k i n : ℕ) : Type 0 where
  pub below : k + n ≤ 2 ^ 32
  pub each : (j : ℕ) → j < n → spot pages (k + j) ≡ i + j

pub rest : (pages : List ℕ) (k i n : ℕ) → Along pages k i (suc n) → Along pages (k + 1) (i + 1) n
rest pages k i n h = record {
  below = let b = h.below in omega arith;
  each = λ j l. let e = h.each (j + 1) (omega arith) in (let s : k + 1 + j ≡ k + (j + 1) = omega arith in ap (spot pages) s) ∙ e ∙ omega arith;
}

first : (pages : List ℕ) (k i n : ℕ) → Along pages k i (suc n) → spot pages k ≡ i
first pages k i n h = let e = h.each 0 (omega arith) in ap (spot pages) (omega arith) ∙ e ∙ omega arith

here : (pages : List ℕ) (bytes : List (Option Byte)) (k i n : ℕ) → Along pages k i (suc n) → map.get (paged pages bytes) k ≡ byte bytes i
here pages bytes k i n h =
    get_below (byte_at pages bytes) (2 ^ 32) k (let b = h.below in omega arith) ∙ ap (λ p. byte bytes p) (first pages k i n h)

pub number_along : (pages : List ℕ) (bytes : List (Option Byte)) (k i n : ℕ) → Along pages k i n → number_at (paged pages bytes) k n ≡ spelled bytes i n
number_along pages bytes k i zero h = refl
number_along pages bytes k i (suc n) h =
    ap (λ b. with_byte b (number_at (paged pages bytes) (k + 1) n)) (here pages bytes k i n h)
    ∙ ap (with_byte (byte bytes i)) (number_along pages bytes (k + 1) (i + 1) n (rest pages k i n h))

pub writable_along : (pages : List ℕ) (bytes : List (Option Byte)) (k i n : ℕ) → Along pages k i n → all_writable (paged pages bytes) k n ≡ are_writable bytes i n
writable_along pages bytes k i zero h = refl
writable_along pages bytes k i (suc n) h =
    ap (λ b. is_writable b && all_writable (paged pages bytes) (k + 1) n) (here pages bytes k i n h)
    ∙ ap (λ b. is_writable (byte bytes i) && b) (writable_along pages bytes (k + 1) (i + 1) n (rest pages k i n h))

pub length-with_number_at : (bytes : List (Option Byte)) (i n v : ℕ) → length (with_number_at bytes i n v) ≡ length bytes
length-with_number_at bytes i zero v = refl
length-with_number_at bytes i (suc n) v = length-set (with_number_at bytes (i + 1) n (v / 256)) i (Some (record { value = v % 256; is_writable = true })) ∙ length-with_number_at bytes (i + 1) n (v / 256)

-- two addresses with one place, not both absent, are one
pub one_address : (pages : List ℕ) (bytes : List (Option Byte)) (a b : ℕ) → IsPaged pages bytes → a < 2 ^ 32 → b < 2 ^ 32 → spot pages a ≡ spot pages b
    → (byte bytes (spot pages b) ≡ None → ⊥) → a ≡ b
unfolding spot
one_address pages bytes a b h la lb e n =
    let frames : slice_index pages (a / 512) ≡ slice_index pages (b / 512) = omega arith in
    elim (h.apart (a / 512) (b / 512) (omega arith) (omega arith) frames) [
      | inl z ↦ absurd (n (h.empty (slice_index pages (b / 512) * 512 + b % 512) (omega arith)))
      | inr s ↦ omega arith
    ]

pub and_first : (a b : Bool) → (a && b) ≡ true → a ≡ true
and_first true b e = refl
and_first false b e = e

pub and_second : (a b : Bool) → (a && b) ≡ true → b ≡ true
and_second true b e = e
and_second false b e = absurd (cc)

-- a writable byte isn't absent
pub not_absent : (c : Option Byte) → is_writable c ≡ true → c ≡ None → ⊥
not_absent c w e = let z : false ≡ true = subst (λ d. is_writable d ≡ true) e w in cc

kept_apart : (bytes : List (Option Byte)) (i j : ℕ) → is_writable (byte bytes i) ≡ true → byte bytes j ≡ None → j ≡ i → ⊥
kept_apart bytes i j w a e = not_absent (byte bytes i) w (ap (byte bytes) (sym e) ∙ a)

pub absent_kept : (bytes : List (Option Byte)) (i n v j : ℕ) → are_writable bytes i n ≡ true → byte bytes j ≡ None → byte (with_number_at bytes i n v) j ≡ None
absent_kept bytes i zero v j w a = a
absent_kept bytes i (suc n) v j w a =
    get_or-set_other (with_number_at bytes (i + 1) n (v / 256)) i j (Some (record { value = v % 256; is_writable = true })) None
    (kept_apart bytes i j (and_first (is_writable (byte bytes i)) (are_writable bytes (i + 1) n) w) a)
    ∙ absent_kept bytes (i + 1) n (v / 256) j (and_second (is_writable (byte bytes i)) (are_writable bytes (i + 1) n) w) a

-- a store keeps the pages
pub paged_kept : (pages : List ℕ) (bytes : List (Option Byte)) (i n v : ℕ) → IsPaged pages bytes → are_writable bytes i n ≡ true → IsPaged pages (with_number_at bytes i n v)
paged_kept pages bytes i n v h w = record {
  size = h.size;
  whole = omega (arith, h.whole, length-with_number_at bytes i n v);
  inside = λ p l. omega (arith, h.inside p l, length-with_number_at bytes i n v);
  empty = λ j l. absent_kept bytes i n v j w (h.empty j l);
  apart = h.apart;
}

-- one byte that isn't absent is written
pub paged_set : (pages : List ℕ) (bytes : List (Option Byte)) (ds : List (Option Byte)) (k i b : ℕ) → IsPaged pages bytes → k < 2 ^ 32 → spot pages k ≡ i → i < length ds
    → (byte bytes i ≡ None → ⊥) → paged pages (slice_set ds i (Some (record { value = b; is_writable = true }))) ≡ map.insert (paged pages ds) k (record { value = b; is_writable = true })
paged_set pages bytes ds k i b h l e room n =
    insert_below (byte_at pages ds) (byte_at pages (slice_set ds i (Some (record { value = b; is_writable = true })))) (2 ^ 32) k (record { value = b; is_writable = true }) l
    (ap (λ p. (byte (slice_set ds i (Some (record { value = b; is_writable = true }))) p)) e ∙ (get_or-set_same ds i (Some (record { value = b; is_writable = true })) None room))
    (λ q below other. (get_or-set_other ds i (spot pages q) (Some (record { value = b; is_writable = true })) None
    (λ s. other (one_address pages bytes q k h below l (s ∙ sym e) (λ a. n (ap (byte bytes) (sym e) ∙ a))))))

pub store_along : (pages : List ℕ) (bytes : List (Option Byte)) (k i n v : ℕ) → IsPaged pages bytes → Along pages k i n → i + n ≤ length bytes → are_writable bytes i n ≡ true
    → paged pages (with_number_at bytes i n v) ≡ with_number (paged pages bytes) k n v
store_along pages bytes k i zero v h a room w = refl
store_along pages bytes k i (suc n) v h a room w =
    paged_set pages bytes (with_number_at bytes (i + 1) n (v / 256)) k i (v % 256) h (let b = a.below in omega arith) (first pages k i n a)
    (omega (arith, length-with_number_at bytes (i + 1) n (v / 256)))
    (not_absent (byte bytes i) (and_first (is_writable (byte bytes i)) (are_writable bytes (i + 1) n) w))
    ∙ ap (λ m. map.insert m k (record { value = v % 256; is_writable = true }))
    (store_along pages bytes (k + 1) (i + 1) n (v / 256) h (rest pages k i n a) (omega arith)
    (and_second (is_writable (byte bytes i)) (are_writable bytes (i + 1) n) w))

-- an aligned access goes along its bytes
pub along : (pages : List ℕ) (k n : ℕ) → IsLen n → k % n ≡ 0 → k < 2 ^ 32 → Along pages k (spot pages k) n
along pages k n len a l = record {
  below = elim len [
    | inl e ↦ omega arith
    | inr r ↦ elim r [
      | inl e ↦ let b : k % 2 ≡ 0 = subst (λ m. k % m ≡ 0) e a in omega arith
      | inr e ↦ let b : k % 4 ≡ 0 = subst (λ m. k % m ≡ 0) e a in omega arith
    ]
  ];
  each = λ j s. spot_along pages k j (within_page k n j len a s);
}

pub room : (pages : List ℕ) (bytes : List (Option Byte)) (k n : ℕ) → IsPaged pages bytes → IsLen n → k % n ≡ 0 → k < 2 ^ 32 → spot pages k + n ≤ length bytes
room pages bytes k zero h len a l = omega (arith, spot_within pages bytes k 0 h l (omega arith))
room pages bytes k (suc n) h len a l = omega (arith, spot_within pages bytes k n h l (within_page k (suc n) n len a (omega arith)))
