-- Regions of text side by side in one list of words.
use Rattle.std.specs.Prelude.{◌≡◌, ◌<◌, ◌≤◌, ℕ, ◌+◌, ◌-◌, ◌*◌, ◌/◌, ◌%◌, ◌^◌, ◌==◌, Bool, false, ◌⊎◌, List, [], ◌∷◌, ◌++◌, length, slice_index, slice_index_or, Option, Some, None, if◌then◌else◌}
use Rattle.std.specs.Option.{option_map, option_map_or}
use Rattle.rv_exec.specs.declared.operation.Operation.{Operation}
use Rattle.rv_exec.specs.declared.operation.Operation.TheVariants.{Break}
use Rattle.elf32_read.specs.Fields.{spans}
use Rattle.elf32_read.specs.Program.{Program, text_word}
use Rattle.text_words.specs.Tables.{words_below, set_below}
use Rattle.text_words.specs.Words.{Words, IsAmong, fetched_as, operation_of, stored_as}
use Rattle.text_words.specs.declared.fetch.Fetch.{Fetch}
use Rattle.text_words.specs.declared.region.Region.{Region}
use Rattle.text_words.specs.declared.region.Span.{Span}
use Rattle.text_words.specs.declared.text.TextWords.TheInside.{Inside}

-- whether a region has an address
abbrev pub has : ℕ → Region → Bool
has addr r = spans r.address (4 * r.count) addr

-- the place of the word at an address, by the first region that has it
abbrev pub place : List Region → ℕ → Option ℕ
place [] addr = None
place (r ∷ rs) addr = if has addr r then Some (r.first + (addr - r.address) / 4) else place rs addr

unfoldable pub index : List Region → ℕ → Option ℕ
index regions addr = if addr % 4 == 0 then place regions addr else None

-- the regions' words follow each other, from one place to another
abbrev pub Laid : ℕ → List Region → ℕ → Type 0
Laid from [] end = from ≡ end
Laid from (r ∷ rs) end = (r.first ≡ from) × Laid (from + r.count) rs end

-- there is a gap between each and the next
abbrev pub AreApart : List Region → Type 0
AreApart rs = (k : ℕ) (d : Region) → k + 1 < length rs → (slice_index_or rs k d).address + 4 * (slice_index_or rs k d).count < (slice_index_or rs (k + 1) d).address

-- each begins at a multiple of 4
abbrev pub AreWhole : List Region → Type 0
AreWhole rs = (k : ℕ) (d : Region) → k < length rs → (slice_index_or rs k d).address % 4 ≡ 0

-- regions in the order of their addresses, and so many words
pub record IsLayout (rs : List Region) (len : ℕ) : Type 0 where
  pub laid : Laid 0 rs len
  pub apart : AreApart rs
  pub whole : AreWhole rs

abbrev pub word_at : List Region → List ℕ → ℕ → Option ℕ
word_at regions words addr = option_map (slice_index words) (index regions addr)

-- the layout of a program's text
pub record IsLayoutOf (p : Program) (rs : List Region) (words : List ℕ) : Type 0 where
  pub layout : IsLayout rs (length words)
  pub words_are : (addr : ℕ) → word_at rs words addr ≡ text_word p addr

-- a region of its own
pub record Begins (old rs : List Region) (address first start len end : ℕ) : Type 0 where
  pub same : rs ≡ old
  pub address_is : address ≡ start
  pub first_is : first ≡ len
  pub gap : (start ≡ end → ⊥) ⊎ (length old ≡ 0)

-- the last region goes on
pub record GoesOn (old rs : List Region) (address first start end : ℕ) : Type 0 where
  pub region : Region
  pub was : old ≡ rs ++ region ∷ []
  pub address_is : address ≡ region.address
  pub first_is : first ≡ region.first
  pub joins : start ≡ end

-- what regions stay before the one that has the next section, and where that one begins
abbrev pub Opens : List Region → List Region → ℕ → ℕ → ℕ → ℕ → ℕ → Type 0
Opens old rs address first start len end = Begins old rs address first start len end ⊎ GoesOn old rs address first start end

-- the words around an address: those of one region, from its beginning on
pub record IsWholeSpan (rs : List Region) (len addr : ℕ) (s : Span) : Type 0 where
  pub within : s.first + s.count ≤ len
  pub low : (k : ℕ) → k < s.count → s.address + 4 * k < 2 ^ 32
  pub found : (k : ℕ) → k < s.count → index rs (s.address + 4 * k) ≡ Some (s.first + k)
  pub here : (i : ℕ) → addr < 2 ^ 32 → index rs addr ≡ Some i → IsAmong addr s.address s.count

-- words of text side by side
pub record IsSpan (rs : List Region) (len : ℕ) (s : Span) : Type 0 where
  pub within : s.first + s.count ≤ len
  pub low : (k : ℕ) → k < s.count → s.address + 4 * k < 2 ^ 32
  pub found : (k : ℕ) → k < s.count → index rs (s.address + 4 * k) ≡ Some (s.first + k)

abbrev pub AreSpans : List Region → ℕ → List Span → Type 0
AreSpans rs len ss = (k : ℕ) (d : Span) → k < length ss → IsSpan rs len (slice_index_or ss k d)

-- whether a breakpoint stands there
abbrev pub mark_at : List Region → List Bool → ℕ → Bool
mark_at regions planted addr = option_map_or (λ i. slice_index_or planted i false) (index regions addr) false

-- the operation of the word at an address; that of EBREAK where none is
abbrev pub operation_at : List Region → List Operation → ℕ → Operation
operation_at regions operations addr = option_map_or (λ i. slice_index_or operations i Break) (index regions addr) Break

abbrev pub seen : Inside → Words
seen t = record { words = words_below (word_at t.regions.items t.words.items) (2 ^ 32); planted = set_below (mark_at t.regions.items t.planted.items) (2 ^ 32) }

-- what stands at each word for a hart
abbrev pub entry : List ℕ → List Bool → ℕ → Fetch
entry words planted k = fetched_as (Some (slice_index words k)) (slice_index_or planted k false)

-- what is kept of each word, made of it and of what stands there
pub record AreKept {A : Type 0} (make : ℕ → Fetch → A) (d : A) (words : List ℕ) (planted : List Bool) (kept : List A) : Type 0 where
  pub whole : length kept ≡ length words
  pub each : (k : ℕ) → k < length words → slice_index_or kept k d ≡ make (slice_index words k) (entry words planted k)

pub record IsLaid (t : Inside) : Type 0 where
  pub layout : IsLayout t.regions.items (length t.words.items)
  pub whole : length t.planted.items ≡ length t.words.items
  pub stored : AreKept stored_as 0 t.words.items t.planted.items t.stored.items
  pub operations : AreKept (λ w. operation_of) Break t.words.items t.planted.items t.operations.items
  pub spans : AreSpans t.regions.items (length t.words.items) t.spans.items
