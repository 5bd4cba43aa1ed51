-- What is kept of an opening beside a state. This project's own.
use Rattle.std.specs.Prelude.{◌≡◌, ◌≤◌, ◌+◌, ℕ, List, [], ◌∷◌, length, Option, Some, if◌then◌else◌, slice_index}
use Rattle.elf32_read.specs.declared.spans.Span.{Span}
use Rattle.text_words.specs.Words.{Words, unpatched}
use Rattle.break_table.specs.Text.{is_instruction, is_place}
use Rattle.dbg_model.specs.declared.entry.Poke.{Poke}
use Rattle.dbg_model.specs.declared.hart.Hart.{Hart}
use Rattle.dbg_model.specs.declared.opening.Opening.{Opening}
use Rattle.dbg_model.specs.Limits.{history}
use Rattle.dbg_model.specs.Sources.{Sources, sources_of}
use Rattle.dbg_model.specs.State.{State, hart_gone}

-- how many harts have exited
abbrev pub gone : List Hart → ℕ
gone [] = 0
gone (x ∷ xs) = (if hart_gone x then 1 else 0) + gone xs

-- what is kept of an opening beside a state, with the bounds of the state's numbers
pub record Keeps (o : Opening) (s : State) (told : Sources) (decoded : Words) (spans : List Span) (holds : List (Option ℕ)) : Type 0 where
  pub sources : told ≡ sources_of o.image
  pub words : decoded ≡ unpatched o.image
  pub harts : length s.harts ≡ o.settings.harts
  pub places : (addr : ℕ) → is_place spans addr ≡ is_instruction o.image addr
  pub waits : length holds ≡ o.settings.harts
  pub given : s.given ≤ s.noted
  pub few : o.settings.harts ≤ 16
  pub budget : o.settings.budget ≤ 1_000_000_000_000
  pub counts : length s.passed ≡ o.settings.harts
  pub passed : (k : ℕ) → slice_index s.passed k ≤ s.retired
  pub sets : s.sets ≤ s.noted
  -- behind the history come at most a write that it still owes, and an exit of each hart
  pub noted : s.noted ≤ history + 1 + gone s.harts
  pub owing : (p : Poke) → s.pending ≡ Some p → s.noted ≤ history + gone s.harts
