-- Pages that are given frames, and bytes that are put.
use Rattle.std.proofs.Common.{◌≡◌, ◌≢◌, ℕ, ◌+◌, ◌-◌, ◌/◌, ◌%◌, ◌^◌, ◌<◌, ◌≤◌, ◌⊎◌, inl, inr, min, List, length, ap, sym, ◌∙◌, subst, arith, false, cond, None, Option}
use Rattle.std.proofs.lemmas.Bool.{cases_lt}
use Rattle.std.proofs.lemmas.Bool.Decides.{nat_tests}
use Rattle.std.specs.Prelude.{slice_index, slice_set}
use Rattle.rv_exec.specs.Memory.{Byte}
use Rattle.elf32_read.specs.Fields.{spans}
use Rattle.data_memory.specs.Blocks.{spot, GivenBlock}
use Rattle.data_memory.specs.Paged.{byte_at, IsPaged, Holds, GrowsByFrame, byte, replaced}
use Rattle.data_memory.proofs.Blocked.{given}
use Rattle.data_memory.proofs.Pages.{spot_along}
use Rattle.data_memory.proofs.Parts.{spans_above, spans_below, spans_in}

-- a page has been given a frame
pub framed : (pages pages' : List ℕ) (bytes bytes' : List (Option Byte)) (p n : ℕ) → IsPaged pages bytes → p < 8388608 → slice_index pages p ≡ 0 → n ≡ length bytes / 512
    → GrowsByFrame bytes bytes' → pages' ≡ slice_set pages p n → GivenBlock None 8388608 pages bytes pages' bytes' p
framed pages pages' bytes bytes' p n h l free e more is =
    subst (λ ps. GivenBlock None 8388608 pages bytes ps bytes' p) (sym is)
    (subst (λ bs. GivenBlock None 8388608 pages bytes (slice_set pages p n) bs p) (sym more.is)
    (given None 8388608 pages bytes more.more p n h l free e more.size more.absent))

pub framed_holds : (pages pages' : List ℕ) (bytes bytes' : List (Option Byte)) (p : ℕ) → GivenBlock None 8388608 pages bytes pages' bytes' p → Holds pages' bytes' (byte_at pages bytes)
framed_holds pages pages' bytes bytes' p g = record { kept = g.kept; each = λ q l. g.each q (omega arith) }

pub block_within : (pages : List ℕ) (bytes : List (Option Byte)) (addr n : ℕ) → IsPaged pages bytes → addr < 2 ^ 32 → addr % 512 + n ≤ 512 → spot pages addr + n ≤ length bytes
unfolding spot
block_within pages bytes addr n h l w = omega (arith, h.inside (addr / 512) (omega arith))

-- what was held, with bytes of one page replaced
module _ (pages : List ℕ) (bytes bytes' : List (Option Byte)) (addr n : ℕ) (f g : ℕ → Option Byte) (h : Holds pages bytes f) (own : slice_index pages (addr / 512) ≢ 0) (l : addr < 2 ^ 32)
    (within : addr % 512 + n ≤ 512) (size : length bytes' ≡ length bytes)
    (each : (i : ℕ) → byte bytes' i ≡ replaced (byte bytes) (spot pages addr) n (λ j. g (j - spot pages addr)) i) where
  above : 512 ≤ spot pages addr
  unfolding spot
  above = omega (arith, own)

  untouched : (i : ℕ) → spans (spot pages addr) n i ≡ false → byte bytes' i ≡ byte bytes i
  untouched i e = each i ∙ ap (λ t. cond t (g (i - spot pages addr)) (byte bytes i)) e

  kept : IsPaged pages bytes'
  kept = record {
    size = h.kept.size;
    whole = omega (arith, h.kept.whole, size);
    inside = λ p s. omega (arith, h.kept.inside p s, size);
    empty = λ j s. untouched j (spans_below (spot pages addr) n j (omega (arith, above))) ∙ h.kept.empty j s;
    apart = h.kept.apart;
  }

  there : (q : ℕ) → addr ≤ q → q < addr + n → spot pages q ≡ spot pages addr + (q - addr)
  there q low high = let is : addr + (q - addr) ≡ q = omega arith in ap (spot pages) (sym is) ∙ spot_along pages addr (q - addr) (omega arith)

  -- a byte of another page, or of this one outside of the range, stands elsewhere
  elsewhere : (q : ℕ) → q < 2 ^ 32 → (q < addr) ⊎ (addr + n ≤ q) → spans (spot pages addr) n (spot pages q) ≡ false
  unfolding spot
  elsewhere q s out =
      elim (cases_lt (spot pages q) (spot pages addr)) [
        | inl low ↦ spans_below (spot pages addr) n (spot pages q) low
        | inr low ↦
            elim (cases_lt (spot pages q) (spot pages addr + n)) [
              | inr high ↦ spans_above (spot pages addr) n (spot pages q) high
              | inl high ↦
                  let same : slice_index pages (q / 512) ≡ slice_index pages (addr / 512) = omega arith in
                  elim (h.kept.apart (q / 512) (addr / 512) (omega arith) (omega arith) same) [
                    | inl z ↦ absurd (own (sym same ∙ z))
                    | inr p ↦ elim out [ inl o ↦ absurd (omega arith) | inr o ↦ absurd (omega arith) ]
                  ]
            ]
      ]

  outside : (q : ℕ) → q < 2 ^ 32 → (q < addr) ⊎ (addr + n ≤ q) → spans addr n q ≡ false → byte_at pages bytes' q ≡ replaced f addr n (λ r. g (r - addr)) q
  outside q s out e = untouched (spot pages q) (elsewhere q s out) ∙ h.each q s ∙ sym (ap (λ t. cond t (g (q - addr)) (f q)) e)

  inside : (q : ℕ) → addr ≤ q → q < addr + n → byte_at pages bytes' q ≡ replaced f addr n (λ r. g (r - addr)) q
  inside q low high =
      let at : spot pages q ≡ spot pages addr + (q - addr) = there q low high in
      let place : spot pages q - spot pages addr ≡ q - addr = omega (arith, at) in
      each (spot pages q)
      ∙ ap (λ t. cond t (g (spot pages q - spot pages addr)) (byte bytes (spot pages q))) (spans_in (spot pages addr) n (spot pages q) (omega (arith, at)) (omega (arith, at)))
      ∙ ap g place
      ∙ sym (ap (λ t. cond t (g (q - addr)) (f q)) (spans_in addr n q low high))

  pub block_placed : Holds pages bytes' (replaced f addr n (λ q. g (q - addr)))
  block_placed = record {
    kept = kept;
    each = λ q s.
        elim (cases_lt q addr) [
          | inl low ↦ outside q s (inl low) (spans_below addr n q low)
          | inr low ↦ elim (cases_lt q (addr + n)) [ inl high ↦ inside q low high | inr high ↦ outside q s (inr high) (spans_above addr n q high) ]
        ];
  }

-- a range is filled page by page
spans_alike : (start i n q : ℕ) → q < start + i → i ≤ n → spans start i q ≡ spans start n q
spans_alike start i n q l m = grind (arith, nat_tests)

spans_none : (start q : ℕ) → spans start 0 q ≡ false
spans_none start q = grind (arith, nat_tests)

filled_each : (start i n q : ℕ) (f g h k : ℕ → Option Byte) → h q ≡ replaced f start i g q → (start + i ≤ q → q < start + i + n → k q ≡ g q) → replaced h (start + i) n k q ≡ replaced f start (i + n) g q
filled_each start i n q f g h k before same =
    elim (cases_lt q (start + i)) [
      | inl low ↦
          ap (λ t. cond t (k q) (h q)) (spans_below (start + i) n q low)
          ∙ before
          ∙ ap (λ t. cond t (g q) (f q)) (spans_alike start i (i + n) q low (omega arith))
      | inr low ↦
          elim (cases_lt q (start + i + n)) [
            | inl high ↦
                ap (λ t. cond t (k q) (h q)) (spans_in (start + i) n q low high)
                ∙ same low high
                ∙ sym (ap (λ t. cond t (g q) (f q)) (spans_in start (i + n) q (omega arith) (omega arith)))
            | inr high ↦
                ap (λ t. cond t (k q) (h q)) (spans_above (start + i) n q high)
                ∙ before
                ∙ ap (λ t. cond t (g q) (f q)) (spans_above start i q low)
                ∙ sym (ap (λ t. cond t (g q) (f q)) (spans_above start (i + n) q (omega arith)))
          ]
    ]

pub filled_more : (p p' : List ℕ) (c c' : List (Option Byte)) (start i n : ℕ) (f g k : ℕ → Option Byte) → Holds p c (replaced f start i g)
    → Holds p' c' (replaced (byte_at p c) (start + i) n k) → ((q : ℕ) → start + i ≤ q → q < start + i + n → k q ≡ g q) → Holds p' c' (replaced f start (i + n) g)
filled_more p p' c c' start i n f g k before now same = record {
  kept = now.kept;
  each = λ q s. now.each q s ∙ filled_each start i n q f g (byte_at p c) k (before.each q s) (same q);
}

pub filled_none : (p : List ℕ) (c : List (Option Byte)) (start : ℕ) (g : ℕ → Option Byte) → IsPaged p c → Holds p c (replaced (byte_at p c) start 0 g)
filled_none p c start g h = record {
  kept = h;
  each = λ q s. sym (ap (λ t. cond t (g q) (byte_at p c q)) (spans_none start q));
}

-- nothing is past the last address
pub filled_whole : (p : List ℕ) (c : List (Option Byte)) (start i size : ℕ) (f g : ℕ → Option Byte) → i ≡ min size (2 ^ 32 - start) → Holds p c (replaced f start i g) → Holds p c (replaced f start size g)
filled_whole p c start i size f g e h = record {
  kept = h.kept;
  each = λ q s.
      h.each q s
      ∙ ap (λ t. cond t (g q) (f q))
      (elim (cases_lt q (start + i)) [
        | inl low ↦ spans_alike start i size q low (omega arith)
        | inr low ↦ spans_above start i q low ∙ sym (spans_above start size q (omega arith))
      ]);
}

pub alike : (p : List ℕ) (c : List (Option Byte)) (start size : ℕ) (f g k : ℕ → Option Byte) → ((q : ℕ) → g q ≡ k q) → Holds p c (replaced f start size g) → Holds p c (replaced f start size k)
alike p c start size f g k e h = record { kept = h.kept; each = λ q s. h.each q s ∙ ap (λ b. cond (spans start size q) b (f q)) (e q) }
