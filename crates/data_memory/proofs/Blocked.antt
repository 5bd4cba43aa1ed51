-- Blocks that runs are given, and items that are put in them.
use Rattle.std.proofs.Common.{◌≡◌, ◌≢◌, ℕ, suc, zero, ◌+◌, ◌*◌, ◌/◌, ◌%◌, ◌<◌, ◌≤◌, ◌⊎◌, inl, inr, List, ◌∷◌, ◌++◌, length, refl, ap, sym, ◌∙◌, arith, ◌-◌, replicate, length-set, length-append, get_or-set_same, get_or-set_other}
use Rattle.std.proofs.lemmas.Bool.{cases_eq}
use Rattle.std.proofs.lemmas.List.{get_or_append_left, get_or-append_right, length-replicate}
use Rattle.std.specs.Prelude.{slice_index, slice_set, slice_index_or}
use Rattle.data_memory.specs.Blocks.{spot, item_at, IsBlocked, GivenBlock, listed}

at_run : (blocks : List ℕ) (p n q : ℕ) → p < length blocks → q ≡ p → slice_index (slice_set blocks p n) q ≡ n
at_run blocks p n q l e = ap (slice_index (slice_set blocks p n)) e ∙ get_or-set_same blocks p n 0 l

off_run : (blocks : List ℕ) (p n q : ℕ) → q ≢ p → slice_index (slice_set blocks p n) q ≡ slice_index blocks q
off_run blocks p n q d = get_or-set_other blocks p q n 0 d

pub spot_within : {A : Type 0} (blank : A) (runs : ℕ) (blocks : List ℕ) (items : List A) (i : ℕ) → IsBlocked blank runs blocks items → i / 512 < runs → spot blocks i < length items
unfolding spot
spot_within blank runs blocks items i h l = omega (arith, h.inside (i / 512) l)

-- a run is given a new block at the end
module _ {A : Type 0} (blank : A) (runs : ℕ) (blocks : List ℕ) (items ys : List A) (p n : ℕ) (h : IsBlocked blank runs blocks items) (l : p < runs) (free : slice_index blocks p ≡ 0)
    (e : n ≡ length items / 512) (more : length ys ≡ 512) (none : (j : ℕ) → slice_index_or ys j blank ≡ blank) where
  long : 512 ≤ length items
  long = omega (arith, h.inside p l)

  room : p < length blocks
  room = omega (arith, h.size)

  grown : length (items ++ ys) ≡ length items + 512
  grown = length-append items ys ∙ ap (λ k. length items + k) more

  left : (i : ℕ) → i < length items → slice_index_or (items ++ ys) i blank ≡ slice_index_or items i blank
  left i s = get_or_append_left items ys blank i s

  inside : (q : ℕ) → q < runs → slice_index (slice_set blocks p n) q * 512 + 512 ≤ length (items ++ ys)
  inside q s =
      elim (cases_eq q p) [
        | inl d ↦ omega (arith, at_run blocks p n q room d, grown)
        | inr d ↦ omega (arith, off_run blocks p n q d, grown, h.inside q s)
      ]

  apart : (q r : ℕ) → q < runs → r < runs → slice_index (slice_set blocks p n) q ≡ slice_index (slice_set blocks p n) r
      → (slice_index (slice_set blocks p n) q ≡ 0) ⊎ (q ≡ r)
  apart q r s t same =
      elim (cases_eq q p) [
        | inl d ↦
            elim (cases_eq r p) [
              | inl d' ↦ inr (d ∙ sym d')
              | inr d' ↦ absurd (omega (arith, at_run blocks p n q room d, off_run blocks p n r d', h.inside r t))
            ]
        | inr d ↦
            elim (cases_eq r p) [
              | inl d' ↦ absurd (omega (arith, at_run blocks p n r room d', off_run blocks p n q d, h.inside q s))
              | inr d' ↦
                  elim (h.apart q r s t (sym (off_run blocks p n q d) ∙ same ∙ off_run blocks p n r d')) [
                    | inl z ↦ inl (off_run blocks p n q d ∙ z)
                    | inr x ↦ inr x
                  ]
            ]
      ]

  each : (q : ℕ) → q / 512 < runs → item_at blank (slice_set blocks p n) (items ++ ys) q ≡ item_at blank blocks items q
  unfolding spot
  each q s =
      elim (cases_eq (q / 512) p) [
        | inl d ↦
            let place : slice_index (slice_set blocks p n) (q / 512) * 512 + q % 512 ≡ length items + q % 512 = omega (arith, at_run blocks p n (q / 512) room d, h.whole) in
            let old : slice_index blocks (q / 512) * 512 + q % 512 ≡ q % 512 = omega (arith, ap (slice_index blocks) d) in
            ap (λ i. slice_index_or (items ++ ys) i blank) place
            ∙ get_or-append_right items ys (length items) (length items + q % 512) blank refl (omega arith)
            ∙ none (length items + q % 512 - length items)
            ∙ sym (ap (λ i. slice_index_or items i blank) old ∙ h.empty (q % 512) (omega arith))
        | inr d ↦
            ap (λ f. slice_index_or (items ++ ys) (f * 512 + q % 512) blank) (off_run blocks p n (q / 512) d)
            ∙ left (slice_index blocks (q / 512) * 512 + q % 512) (omega (arith, h.inside (q / 512) s))
      ]

  pub given : GivenBlock blank runs blocks items (slice_set blocks p n) (items ++ ys) p
  given = record {
    kept = record {
      size = length-set blocks p n ∙ h.size;
      whole = omega (arith, grown, h.whole);
      inside = inside;
      empty = λ i s. left i (omega (arith, long)) ∙ h.empty i s;
      apart = apart;
    };
    own = λ z. omega (arith, at_run blocks p n p room refl, long);
    each = each;
  }

-- an item is put where its run has a block of its own
module _ {A : Type 0} (blank : A) (runs : ℕ) (blocks : List ℕ) (items : List A) (i : ℕ) (x : A) (h : IsBlocked blank runs blocks items) (n : slice_index blocks (i / 512) ≢ 0) (l : i / 512 < runs) where
  above : 512 ≤ spot blocks i
  unfolding spot
  above = omega (arith, n)

  no_other : (q : ℕ) → q / 512 < runs → q ≢ i → spot blocks q ≢ spot blocks i
  unfolding spot
  no_other q s d e =
      let same : slice_index blocks (q / 512) ≡ slice_index blocks (i / 512) = omega arith in
      elim (h.apart (q / 512) (i / 512) s l same) [
        | inl z ↦ n (sym same ∙ z)
        | inr p ↦ d (omega arith)
      ]

  pub put_kept : IsBlocked blank runs blocks (slice_set items (spot blocks i) x)
  put_kept = record {
    size = h.size;
    whole = omega (arith, h.whole, length-set items (spot blocks i) x);
    inside = λ p s. omega (arith, h.inside p s, length-set items (spot blocks i) x);
    empty = λ j s. get_or-set_other items (spot blocks i) j x blank (λ e. omega (arith, above)) ∙ h.empty j s;
    apart = h.apart;
  }

  pub put_same : (q : ℕ) → q ≡ i → item_at blank blocks (slice_set items (spot blocks i) x) q ≡ x
  put_same q d =
      ap (λ j. slice_index_or (slice_set items (spot blocks i) x) j blank) (ap (spot blocks) d)
      ∙ get_or-set_same items (spot blocks i) x blank (spot_within blank runs blocks items i h l)

  pub put_other : (q : ℕ) → q / 512 < runs → q ≢ i → item_at blank blocks (slice_set items (spot blocks i) x) q ≡ item_at blank blocks items q
  put_other q s d = get_or-set_other items (spot blocks i) (spot blocks q) x blank (no_other q s d)

-- one block for all runs
pub first_block : {A : Type 0} (blank : A) (runs : ℕ) (blocks : List ℕ) (items : List A) → length blocks ≡ runs → ((p : ℕ) → p < runs → slice_index blocks p ≡ 0) → length items ≡ 512
    → ((i : ℕ) → slice_index_or items i blank ≡ blank) → IsBlocked blank runs blocks items
first_block blank runs blocks items size zeros long none = record {
  size = size;
  whole = omega (arith, long);
  inside = λ p l. omega (arith, zeros p l, long);
  empty = λ i l. none i;
  apart = λ p q l s e. inl (zeros p l);
}

pub replicated : {A : Type 0} (n i : ℕ) (x : A) → slice_index_or (replicate n x) i x ≡ x
replicated zero i x = refl
replicated (suc n) zero x = refl
replicated (suc n) (suc i) x = replicated n i x

-- lists of what a function gives
pub length-listed : {A : Type 0} (f : ℕ → A) (k n : ℕ) → length (listed f k n) ≡ n
unfolding listed
length-listed f k zero = refl
length-listed f k (suc n) = ap suc (length-listed f (k + 1) n)

pub listed_item : (f : ℕ → ℕ) (k n i j : ℕ) → i < n → j ≡ k + i → slice_index (listed f k n) i ≡ f j
unfolding listed
listed_item f k zero i j l e = absurd (omega arith)
listed_item f k (suc n) zero j l e = ap f (omega arith)
listed_item f k (suc n) (suc i) j l e = listed_item f (k + 1) n i j (omega arith) (omega arith)

pub listed_same : (f g : ℕ → ℕ) (k n : ℕ) → ((q : ℕ) → q < k + n → k ≤ q → g q ≡ f q) → listed f k n ≡ listed g k n
unfolding listed
listed_same f g k zero h = refl
listed_same f g k (suc n) h =
    ap (λ x. x ∷ listed f (k + 1) n) (sym (h k (omega arith) (omega arith)))
    ∙ ap (λ xs. g k ∷ xs) (listed_same f g (k + 1) n (λ q l m. h q (omega arith) (omega arith)))

pub listed_set : (f g : ℕ → ℕ) (k n i j x : ℕ) → i < n → j ≡ k + i → g j ≡ x → ((q : ℕ) → q < k + n → q ≢ j → g q ≡ f q) → listed g k n ≡ slice_set (listed f k n) i x
unfolding listed
listed_set f g k zero i j x l e at off = absurd (omega arith)
listed_set f g k (suc n) zero j x l e at off =
    ap (λ y. y ∷ listed g (k + 1) n) (ap g (omega arith) ∙ at)
    ∙ ap (λ xs. x ∷ xs) (sym (listed_same f g (k + 1) n (λ q s m. off q (omega arith) (λ d. omega arith))))
listed_set f g k (suc n) (suc i) j x l e at off =
    ap (λ y. y ∷ listed g (k + 1) n) (off k (omega arith) (λ d. omega arith))
    ∙ ap (λ xs. f k ∷ xs) (listed_set f g (k + 1) n i j x (omega arith) (omega arith) at (λ q s d. off q (omega arith) d))

-- tables of zeros
pub zero_blocks : (m n : ℕ) (blocks items : List ℕ) → blocks ≡ replicate m 0 → items ≡ replicate n 0 → n ≡ 512 → IsBlocked 0 m blocks items
zero_blocks m n blocks items d t e =
    first_block 0 m blocks items (ap length d ∙ length-replicate m 0) (λ p l. ap (λ xs. slice_index xs p) d ∙ replicated m p 0) (ap length t ∙ length-replicate n 0 ∙ e)
    (λ i. ap (λ xs. slice_index xs i) t ∙ replicated n i 0)

pub zero_frames : (n m p : ℕ) (blocks items : List ℕ) → items ≡ replicate n 0 → p < m → slice_index (listed (item_at 0 blocks items) 0 m) p ≡ 0
zero_frames n m p blocks items t l =
    listed_item (item_at 0 blocks items) 0 m p p l (omega arith) ∙ ap (λ xs. slice_index xs (spot blocks p)) t ∙ replicated n (spot blocks p) 0

-- the frame of a page is put where its run has a table of its own
pub frame_put : (directory tables new tables' : List ℕ) (page frame : ℕ) → page < 8388608 → GivenBlock 0 16384 directory tables new tables' (page / 512)
    → listed (item_at 0 new (slice_set tables' (spot new page) frame)) 0 8388608 ≡ slice_set (listed (item_at 0 directory tables) 0 8388608) page frame
frame_put directory tables new tables' page frame l g =
    listed_set (item_at 0 directory tables) (item_at 0 new (slice_set tables' (spot new page) frame)) 0 8388608 page page frame l (omega arith)
    (put_same 0 16384 new tables' page frame g.kept g.own (omega arith) page refl)
    (λ q s d. put_other 0 16384 new tables' page frame g.kept g.own (omega arith) q (omega arith) d ∙ g.each q (omega arith))
