-- A tape as contracts see it: this project's own.
use Rattle.std.specs.Prelude.{ℕ, List}
use Rattle.run_tape.specs.declared.marks.Mark.{Mark}

-- the marks, and for how many bytes there is room
pub record Taped : Type 0 where
  pub marks : List Mark
  pub room : ℕ
