-- Bytes that tell marks, as contracts see them: this project's own.
use Rattle.std.specs.Prelude.{ℕ, List}
use Rattle.run_tape.specs.declared.marks.Mark.{Mark}

-- the marks; the hart that is expected; the number whose digits were told; for how many bytes there is room
pub record Coded : Type 0 where
  pub marks : List Mark
  pub expected : ℕ
  pub number : ℕ
  pub room : ℕ
