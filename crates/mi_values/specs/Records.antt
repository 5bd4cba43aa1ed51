-- A list of lines, and its one text (GDB manual, "GDB/MI Output Syntax": out-of-band records and results).
use Rattle.std.specs.Prelude.{◌≡◌, ℕ, List, [], ◌∷◌}
use Rattle.std.specs.List.{flat_map}
use Rattle.mi_values.specs.declared.sign.StreamSign.TheVariants.{Target, Log}
use Rattle.mi_values.specs.Record.{LineTree, result, notice, stream, prompt, line_bytes, IsLine}

-- the texts of the lines, one behind the other
abbrev pub lines_bytes : List LineTree → List ℕ
lines_bytes = flat_map line_bytes

abbrev pub AreLines : List LineTree → Type 0
AreLines [] = Unit {0}
AreLines (l ∷ ls) = IsLine l × AreLines ls

-- these bytes are the lines of these trees
pub record AreRecords (bytes : List ℕ) (trees : List LineTree) : Type 0 where
  pub lines : AreLines trees
  pub text : bytes ≡ lines_bytes trees

-- what a line shows of the program's output
abbrev pub streamed_by : LineTree → List ℕ
streamed_by (result token class fields) = []
streamed_by (notice sign class fields) = []
streamed_by (stream Target bytes) = bytes
streamed_by (stream Log bytes) = []
streamed_by prompt = []

-- the contents of the `@` lines, in order
abbrev pub streamed : List LineTree → List ℕ
streamed = flat_map streamed_by
