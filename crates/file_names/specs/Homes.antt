-- Homes of texts: one place for all places where the same text stands. This project's own.
use Rattle.std.specs.Prelude.{◌≡◌, ◌≤◌, ◌+◌, ◌⊎◌, ℕ, List, Some, length, slice_index}
use Rattle.std.specs.List.{Contains}
use Rattle.std.specs.BTreeMap.{BTreeMap, get}
use Rattle.std.specs.Ordering.{nat_cmp}
use Rattle.leb_read.specs.Leb.{text_from}

abbrev pub size_at : List ℕ → ℕ → ℕ
size_at bytes p = length (text_from bytes p)

-- homes of the texts that aren't longer than so many bytes
pub record AreHomesTo (bytes homes : List ℕ) (most : ℕ) : Type 0 where
  pub size : length homes ≡ length bytes + 1
  -- there the same text stands
  pub same : (p : ℕ) → p ≤ length bytes → size_at bytes p ≤ most → (slice_index homes p ≤ length bytes) × (text_from bytes (slice_index homes p) ≡ text_from bytes p)
  -- there is one for each text
  pub one : (p q : ℕ) → p ≤ length bytes → q ≤ length bytes → size_at bytes p ≤ most → text_from bytes p ≡ text_from bytes q → slice_index homes p ≡ slice_index homes q

pub record AreHomes (bytes homes : List ℕ) : Type 0 where
  pub size : length homes ≡ length bytes + 1
  pub same : (p : ℕ) → p ≤ length bytes → (slice_index homes p ≤ length bytes) × (text_from bytes (slice_index homes p) ≡ text_from bytes p)
  pub one : (p q : ℕ) → p ≤ length bytes → q ≤ length bytes → text_from bytes p ≡ text_from bytes q → slice_index homes p ≡ slice_index homes q

-- the places where texts of so many bytes stand
pub record ArePlaces (bytes places : List ℕ) (size : ℕ) : Type 0 where
  pub all : (p : ℕ) → p ≤ length bytes → size_at bytes p ≡ size → Contains places p
  pub no_more : (p : ℕ) → Contains places p → (p ≤ length bytes) × (size_at bytes p ≡ size)

-- where each text ends
pub record AreEnds (bytes ends : List ℕ) : Type 0 where
  pub size : length ends ≡ length bytes + 1
  pub each : (p : ℕ) → p ≤ length bytes → slice_index ends p ≡ p + size_at bytes p

-- a key has a home, and others theirs as before
pub record Settles (old new : BTreeMap ℕ ℕ) (key place home : ℕ) : Type 0 where
  pub here : get nat_cmp new key ≡ Some home
  pub stays : (q h : ℕ) → get nat_cmp old q ≡ Some h → get nat_cmp new q ≡ Some h
  pub from : (q h : ℕ) → get nat_cmp new q ≡ Some h → (get nat_cmp old q ≡ Some h) ⊎ ((q ≡ key) × (h ≡ place))
