-- One bit of a row of groups is put.
use Rattle.std.proofs.Common.{◌≡◌, ◌≢◌, ℕ, ◌+◌, ◌*◌, ◌/◌, ◌%◌, ◌^◌, ◌<◌, refl, arith, List, length, slice_set, get_or-set_same, get_or-set_other, inl, inr}
use Rattle.std.specs.Prelude.{slice_index}
use Rattle.std.specs.Int.{bit_at, w64, trailing_zeros}
use Rattle.std.proofs.lemmas.Bool.{cases_eq, cases_lt, ne_eqb, eq-eqb}
use Rattle.std.proofs.lemmas.Nat.Bits.{bit_at-zero, bit_at-trailing_zeros}
use Rattle.scratch_slots.specs.Index.{bit_in, IsFirst, SetsBit}

-- a place by its group and its bit
apart : (j k : ℕ) → j ≢ k → j / 64 ≡ k / 64 → j % 64 ≢ k % 64
apart j k ne e h = ne (omega arith)

-- a group is put, which has one bit changed
pub one_group : (groups : List ℕ) (k g bit : ℕ) → k / 64 < length groups → bit_at g (k % 64) ≡ bit
    → ((i : ℕ) → i < 64 → i ≢ k % 64 → bit_at g i ≡ bit_at (slice_index groups (k / 64)) i)
    → SetsBit groups (slice_set groups (k / 64) g) k bit
one_group groups k g bit inside same other j h =
    elim (cases_eq j k) [
      | inl e ↦ grind (arith, e, same, get_or-set_same groups (k / 64) g 0 inside, eq-eqb j k e)
      | inr ne ↦ elim (cases_eq (j / 64) (k / 64)) [
        | inl e ↦ rw (ne_eqb j k ne, e, get_or-set_same groups (k / 64) g 0 inside) (other (j % 64) (omega arith) (apart j k ne e))
        | inr d ↦ rw (ne_eqb j k ne, get_or-set_other groups (k / 64) (j / 64) g 0 d) refl
      ]
    ]

-- a group without a bit has none in its 64 places
pub none_more : (groups : List ℕ) (g : ℕ) → slice_index groups g ≡ 0 → ((j : ℕ) → j < 64 * g → bit_in groups j ≡ 0)
    → (j : ℕ) → j < 64 * (g + 1) → bit_in groups j ≡ 0
none_more groups g empty below j h =
    elim (cases_lt j (64 * g)) [
      | inl less ↦ below j less
      | inr more ↦
          let e : j / 64 ≡ g = omega arith in
          rw (e, empty) (bit_at-zero (j % 64))
    ]

-- the lowest bit of the first group that has one
pub first_in : (groups : List ℕ) (g : ℕ) → g < 8 → 0 < slice_index groups g → slice_index groups g < 2 ^ 64 → ((j : ℕ) → j < 64 * g → bit_in groups j ≡ 0)
    → IsFirst groups (64 * g + trailing_zeros w64 (slice_index groups g))
first_in groups g inside some fits below =
    let n : ℕ = slice_index groups g in
    let lowest : (trailing_zeros w64 n < 64) × (bit_at n (trailing_zeros w64 n) ≡ 1) × ((i : ℕ) → i < trailing_zeros w64 n → bit_at n i ≡ 0) = bit_at-trailing_zeros w64 n some fits in
    let group : (64 * g + trailing_zeros w64 n) / 64 ≡ g = omega (arith, lowest.0) in
    let place : (64 * g + trailing_zeros w64 n) % 64 ≡ trailing_zeros w64 n = omega (arith, lowest.0) in
    record {
      within = omega (arith, lowest.0);
      one = rw (group, place) lowest.1;
      before = λ j h. elim (cases_lt j (64 * g)) [
        | inl less ↦ below j less
        | inr more ↦
            let e : j / 64 ≡ g = omega (arith, lowest.0) in
            rw e (lowest.2 (j % 64) (omega (arith, lowest.0)))
      ];
    }
