-- Where the words of regions are.
use Rattle.std.proofs.Common.{◌≡◌, ℕ, suc, zero, ◌+◌, ◌-◌, ◌*◌, ◌/◌, ◌%◌, ◌<◌, ◌≤◌, inl, inr, List, [], ◌∷◌, ◌++◌, length, drop, refl, ap, sym, ◌∙◌, subst, arith, Bool, true, false, cond, Some, None, Option, length-append, append_assoc}
use Rattle.std.specs.Prelude.{◌⊎◌, slice_get, slice_index, slice_index_or, find, ◌==◌}
use Rattle.std.specs.Option.{option_map, option_and_then}
use Rattle.std.proofs.lemmas.Bool.{cases_Bool}
use Rattle.std.proofs.lemmas.Bool.Decides.{nat_tests}
use Rattle.std.proofs.lemmas.Option.{slice_get_within, get_or_from_slice_get}
use Rattle.std.proofs.lemmas.List.{drop_more, get_or_append_left, get_or-append_right}
use Rattle.elf32_read.specs.Fields.{spans}
use Rattle.text_words.specs.declared.region.Region.{Region}
use Rattle.text_words.specs.Layout.{Laid, place}

pub laid_le : (ss : List Region) (from end : ℕ) → Laid from ss end → from ≤ end
laid_le [] from end h = omega (arith, h)
laid_le (s ∷ ss) from end h = omega (arith, laid_le ss (from + s.count) end h.1)

-- each region lies within the words
pub laid_at : (ss : List Region) (from end i : ℕ) (d : Region) → Laid from ss end → i < length ss → (slice_index_or ss i d).first + (slice_index_or ss i d).count ≤ end
laid_at [] from end i d h l = absurd (omega arith)
laid_at (s ∷ ss) from end zero d h l = omega (arith, h.0, laid_le ss (from + s.count) end h.1)
laid_at (s ∷ ss) from end (suc i) d h l = laid_at ss (from + s.count) end i d h.1 (omega arith)

pub spanned : (start size addr : ℕ) → spans start size addr ≡ true → (start ≤ addr) × (addr < start + size)
spanned start size addr e = grind (arith, nat_tests)

pub found_place : (s : Region) (ss : List Region) (addr : ℕ) → spans s.address (4 * s.count) addr ≡ true → place (s ∷ ss) addr ≡ Some (s.first + (addr - s.address) / 4)
found_place s ss addr e = ap (λ b. cond b (Some (s.first + (addr - s.address) / 4)) (place ss addr)) e

pub later_place : (s : Region) (ss : List Region) (addr : ℕ) → spans s.address (4 * s.count) addr ≡ false → place (s ∷ ss) addr ≡ place ss addr
later_place s ss addr e = ap (λ b. cond b (Some (s.first + (addr - s.address) / 4)) (place ss addr)) e

some_same : (a b : ℕ) → Some a ≡ Some b → a ≡ b
some_same a b e = cc

-- places are within the words
pub place_range : (ss : List Region) (from end addr i : ℕ) → Laid from ss end → place ss addr ≡ Some i → (from ≤ i) × (i < end)
place_range [] from end addr i h e = absurd (cc)
place_range (s ∷ ss) from end addr i h e =
    elim (cases_Bool (spans s.address (4 * s.count) addr)) [
      | inl t ↦
          let r : (s.address ≤ addr) × (addr < s.address + 4 * s.count) = spanned s.address (4 * s.count) addr t in
          let at : s.first + (addr - s.address) / 4 ≡ i = some_same (s.first + (addr - s.address) / 4) i (sym (found_place s ss addr t) ∙ e) in
          (omega (arith, h.0), omega (arith, h.0, laid_le ss (from + s.count) end h.1))
      | inr f ↦
          let r : (from + s.count ≤ i) × (i < end) = place_range ss (from + s.count) end addr i h.1 (sym (later_place s ss addr f) ∙ e) in
          (omega arith, r.1)
    ]

-- one place is that of one address
pub one_place : (ss : List Region) (from end a b i : ℕ) → Laid from ss end → a % 4 ≡ 0 → b % 4 ≡ 0 → place ss a ≡ Some i → place ss b ≡ Some i → a ≡ b
one_place [] from end a b i h ma mb ea eb = absurd (cc)
one_place (s ∷ ss) from end a b i h ma mb ea eb =
    elim (cases_Bool (spans s.address (4 * s.count) a)) [
      | inl t ↦
          let ra : (s.address ≤ a) × (a < s.address + 4 * s.count) = spanned s.address (4 * s.count) a t in
          let ia : s.first + (a - s.address) / 4 ≡ i = some_same (s.first + (a - s.address) / 4) i (sym (found_place s ss a t) ∙ ea) in
          elim (cases_Bool (spans s.address (4 * s.count) b)) [
            | inl u ↦
                let rb : (s.address ≤ b) × (b < s.address + 4 * s.count) = spanned s.address (4 * s.count) b u in
                let ib : s.first + (b - s.address) / 4 ≡ i = some_same (s.first + (b - s.address) / 4) i (sym (found_place s ss b u) ∙ eb) in
                omega arith
            | inr g ↦
                let r : (from + s.count ≤ i) × (i < end) = place_range ss (from + s.count) end b i h.1 (sym (later_place s ss b g) ∙ eb) in
                absurd (omega (arith, h.0))
          ]
      | inr f ↦
          let r : (from + s.count ≤ i) × (i < end) = place_range ss (from + s.count) end a i h.1 (sym (later_place s ss a f) ∙ ea) in
          elim (cases_Bool (spans s.address (4 * s.count) b)) [
            | inl u ↦
                let rb : (s.address ≤ b) × (b < s.address + 4 * s.count) = spanned s.address (4 * s.count) b u in
                let ib : s.first + (b - s.address) / 4 ≡ i = some_same (s.first + (b - s.address) / 4) i (sym (found_place s ss b u) ∙ eb) in
                absurd (omega (arith, h.0))
            | inr g ↦ one_place ss (from + s.count) end a b i h.1 ma mb (sym (later_place s ss a f) ∙ ea) (sym (later_place s ss b g) ∙ eb)
          ]
    ]
