-- A line in memory as its tree, and what reading a line gives: this project's own.
use Rattle.std.specs.Prelude.{◌≡◌, ℕ, List, ◌++◌, Result, Ok, Err}
use Rattle.mi_values.specs.declared.line.Line.{Line}
use Rattle.mi_values.specs.declared.line.Line.TheVariants as lines
use Rattle.mi_text.specs.declared.fault.ReadFault.{ReadFault}
use Rattle.mi_text.specs.declared.fault.ReadFault.TheVariants.{NoMemory, Text}
use Rattle.mi_values.specs.Tree.{fields_view}
use Rattle.mi_values.specs.Record.{LineTree, result, notice, stream, prompt, Record}

abbrev pub line_view : Line → LineTree
line_view (lines.Result token class fields) = result token class (fields_view fields.items.items)
line_view (lines.Notice sign class fields) = notice sign class (fields_view fields.items.items)
line_view (lines.Stream sign bytes) = stream sign bytes.items
line_view lines.Prompt = prompt

-- the bytes begin with the line of this tree
pub record Begins (bytes : List ℕ) (tree : LineTree) : Type 0 where
  pub front : List ℕ
  pub rest : List ℕ
  pub line : Record front tree
  pub whole : bytes ≡ front ++ rest

-- the line that is read stands at the front; where none is read none stands there
abbrev pub ReadsLine : List ℕ → Result Line ReadFault → Type 0
ReadsLine bytes (Ok line) = Begins bytes (line_view line)
ReadsLine bytes (Err NoMemory) = Unit {0}
ReadsLine bytes (Err Text) = (tree : LineTree) → Begins bytes tree → ⊥

-- a reader gives this tree, unless out of memory
abbrev pub GivesLine : LineTree → Result Line ReadFault → Type 0
GivesLine tree (Ok line) = line_view line ≡ tree
GivesLine tree (Err NoMemory) = Unit {0}
GivesLine tree (Err Text) = ⊥
