-- Frames and lines of the source (GDB manual, "GDB/MI Frame Information"): a field of which nothing is known is left out.
use Rattle.std.specs.Prelude.{ℕ, ◌+◌, List, [], ◌∷◌, ◌++◌, Option, Some, None, decimal}
use Rattle.dbg_model.specs.declared.frame.ShownFrame.{ShownFrame}
use Rattle.dbg_model.specs.declared.frame.SourceLine.{SourceLine}
use Rattle.mi_values.specs.Tree.{Tree, items, no_item}
use Rattle.mi_values.specs.FieldLists.{tuple_of, in_brackets}
use Rattle.mi_reports.specs.declared.words.Key.TheVariants as key
use Rattle.mi_reports.specs.Words.{key_text, says, says_some}
use Rattle.mi_text.specs.Numeral.{address_text}

-- a line of a file
abbrev pub source_fields : Option SourceLine → List (List ℕ × Tree)
source_fields None = []
source_fields (Some s) = says key.File s.file ∷ says key.Line (decimal s.line) ∷ []

-- behind the address
unfoldable pub frame_rest : ShownFrame → List (List ℕ × Tree)
frame_rest f = says_some key.Func f.function ++ ((key_text key.Args, items no_item) ∷ source_fields f.source)

-- a frame, with its place in the stack where that is told
unfoldable pub frame_fields : Option ℕ → ShownFrame → List (List ℕ × Tree)
frame_fields None f = says key.Addr (address_text f.address) ∷ frame_rest f
frame_fields (Some level) f = says key.Level (decimal level) ∷ says key.Addr (address_text f.address) ∷ frame_rest f

unfoldable pub frame_field : Option ℕ → ShownFrame → List ℕ × Tree
frame_field level f = (key_text key.Frame, tuple_of (frame_fields level f))

-- the frames of a stack, of which the first has this level
abbrev pub stack_fields : ℕ → List ShownFrame → List (List ℕ × Tree)
stack_fields level [] = []
stack_fields level (f ∷ fs) = frame_field (Some level) f ∷ stack_fields (level + 1) fs

-- the frames of a stack, counted from 0
abbrev pub stack_tree : List ShownFrame → Tree
stack_tree fs = in_brackets (stack_fields 0 fs)
