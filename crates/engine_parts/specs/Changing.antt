-- What a line changes, and the words that are planted for it. This project's own.
use Rattle.std.specs.Prelude.{◌≡◌, ℕ, List, Option}
use Rattle.hart_machine.specs.Patched.{Patched}
use Rattle.break_table.specs.Table.{Table}
use Rattle.dbg_model.specs.Outcome.{Change}
use Rattle.dbg_model.specs.Reply.{answer_of}
use Rattle.engine_parts.specs.declared.mind.Hold.{Hold}
use Rattle.engine_parts.specs.Facts.{Wants}
use Rattle.engine_parts.specs.Seen.{Engine, seen}
use Rattle.engine_parts.specs.Tables.{ArePlanted}

-- the line makes this change
abbrev pub Makes : Engine → List ℕ → Change → Type 0
Makes r line c = (answer_of r.opening (seen r) line).outcome.change ≡ c

-- what patches are wanted for by a table, with this one lifted
abbrev pub wants_by : Table → Option Hold → Wants
wants_by t hold = record { entries = t.entries; waits = t.waits; hold = hold }

-- the machine's patches are those that are wanted now, and nothing else changed
pub record Retabled (old new : Patched) (w : Wants) : Type 0 where
  pub planted : ArePlanted new.text w
  pub words : new.text.words ≡ old.text.words
  pub rest : new ≡ record old { text = new.text }
