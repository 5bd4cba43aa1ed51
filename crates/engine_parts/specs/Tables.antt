-- The breakpoints of a table over the words of text. This project's own.
use Rattle.std.specs.Prelude.{◌≡◌, ℕ, Bool, true, false, List, [], ◌∷◌, Option, Some, None, IsSome, ◌==◌, slice_get}
use Rattle.text_words.specs.Words.{Words, shown, is_planted}
use Rattle.break_table.specs.Entry.{Entry as BreakEntry}
use Rattle.break_table.specs.Table.{is_wait}
use Rattle.std.specs.List.{list_any}
use Rattle.engine_parts.specs.Facts.{Wants, wanted}

abbrev pub number_place_by : Bool → BreakEntry → Option ℕ → Option ℕ
number_place_by true b rest = Some b.address
number_place_by false b rest = rest

-- the address of the breakpoint of a number
abbrev pub number_place : List BreakEntry → ℕ → Option ℕ
number_place [] number = None
number_place (b ∷ bs) number = number_place_by (b.number == number) b (number_place bs number)

-- each breakpoint stands at a word of text
abbrev pub HaveWords : Words → List BreakEntry → Type 0
HaveWords t bs = (k : ℕ) (b : BreakEntry) → slice_get bs k ≡ Some b → IsSome (shown t b.address)

-- each hart that waits waits at a word of text
abbrev pub AwaitWords : Words → List (Option ℕ) → Type 0
AwaitWords t ws = (a : ℕ) → list_any (is_wait a) ws ≡ true → IsSome (shown t a)

-- a patch is planted exactly where one is wanted
pub record ArePlanted (t : Words) (w : Wants) : Type 0 where
  pub patches : (a : ℕ) → is_planted t a ≡ wanted w a
  pub words : HaveWords t w.entries
  pub awaits : AwaitWords t w.waits
