-- Long lists that are mostly blank, kept in blocks of 512 items: the bytes of pages, and the tables of pages. Each run
-- of 512 places has a block, and the runs without items share the first one (RISC-V Privileged ISA, "Sv32", has two such
-- levels).
use Rattle.std.specs.Prelude.{◌≡◌, ◌≢◌, ℕ, zero, suc, ◌+◌, ◌*◌, ◌/◌, ◌%◌, ◌<◌, ◌≤◌, ◌⊎◌, List, [], ◌∷◌, length, slice_index, slice_index_or}

-- where the item of a place is: in the block that its run has
unfoldable pub spot : List ℕ → ℕ → ℕ
spot blocks i = slice_index blocks (i / 512) * 512 + i % 512

-- the item of a place
abbrev pub item_at : {A : Type 0} → A → List ℕ → List A → ℕ → A
item_at blank blocks items i = slice_index_or items (spot blocks i) blank

-- each run has a block, and only the first block, which is blank, is that of several runs
pub record IsBlocked {A : Type 0} (blank : A) (runs : ℕ) (blocks : List ℕ) (items : List A) : Type 0 where
  pub size : length blocks ≡ runs
  pub whole : length items % 512 ≡ 0
  pub inside : (p : ℕ) → p < runs → slice_index blocks p * 512 + 512 ≤ length items
  pub empty : (i : ℕ) → i < 512 → slice_index_or items i blank ≡ blank
  pub apart : (p q : ℕ) → p < runs → q < runs → slice_index blocks p ≡ slice_index blocks q → (slice_index blocks p ≡ 0) ⊎ (p ≡ q)

-- a run has been given a block of its own, and the items are as before
pub record GivenBlock {A : Type 0} (blank : A) (runs : ℕ) (old : List ℕ) (old_items : List A) (new : List ℕ) (items : List A) (p : ℕ) : Type 0 where
  pub kept : IsBlocked blank runs new items
  pub own : slice_index new p ≢ 0
  pub each : (i : ℕ) → i / 512 < runs → item_at blank new items i ≡ item_at blank old old_items i

-- what a function gives from k on
unfoldable pub listed : {A : Type 0} → (ℕ → A) → ℕ → ℕ → List A
listed f k zero = []
listed f k (suc n) = f k ∷ listed f (k + 1) n

-- the frame of each page, by a directory of tables
abbrev pub frames : List ℕ → List ℕ → List ℕ
frames directory tables = listed (item_at 0 directory tables) 0 8388608
