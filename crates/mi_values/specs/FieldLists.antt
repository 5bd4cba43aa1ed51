-- Values and lines of a list of fields (GDB manual, "GDB/MI Output Syntax": results, tuples and lists).
use Rattle.std.specs.Prelude.{ℕ, List, [], ◌∷◌}
use Rattle.mi_values.specs.declared.sign.NoticeSign.{NoticeSign}
use Rattle.mi_values.specs.Tree.{Tree, tuple, items, named, no_item, fields_of}
use Rattle.mi_values.specs.Record.{LineTree, result, notice}

-- fields in braces
unfoldable pub tuple_of : List (List ℕ × Tree) → Tree
tuple_of fs = tuple (fields_of fs)

-- fields in brackets; where there is none, the list of no values has the text of the list of no fields
unfoldable pub in_brackets : List (List ℕ × Tree) → Tree
in_brackets [] = items no_item
in_brackets (f ∷ fs) = named (fields_of (f ∷ fs))

-- what happened, with these fields
unfoldable pub notice_of : NoticeSign → List ℕ → List (List ℕ × Tree) → LineTree
notice_of sign class fs = notice sign class (fields_of fs)

-- the answer to a command, with these fields
unfoldable pub result_of : List ℕ → List ℕ → List (List ℕ × Tree) → LineTree
result_of token class fs = result token class (fields_of fs)
