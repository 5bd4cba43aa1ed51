-- Whether values are listed with the names of variables: PRINT (GDB manual, "GDB/MI Stack Manipulation Commands").
use Rattle.std.specs.Prelude.{ℕ, List, [], ◌∷◌, map, Bool, true, false, ◌||◌, Option, Some, None, is_some, codes, if◌then◌else◌}
use Rattle.std.specs.Str.{bytes_eq}
use Rattle.mi_input.specs.Parts.{WordView}
use Rattle.mi_input.specs.declared.parts.Word.{Word}
use Rattle.mi_commands.specs.declared.operation.Operation.{Operation}
use Rattle.mi_commands.specs.declared.operation.Operation.TheVariants as op

unfoldable pub is_either : List ℕ → List ℕ → List ℕ → Bool
is_either word number name = bytes_eq word number || bytes_eq word name

-- No values, all of them, or simple ones, which all that are listed are.
unfoldable pub prints_of : List ℕ → Option Bool
prints_of word =
    if is_either word (codes "0") (codes "--no-values") then Some false
    else (if is_either word (codes "1") (codes "--all-values") then Some true
    else (if is_either word (codes "2") (codes "--simple-values") then Some true else None))

-- what the first parameter spells
abbrev pub first_prints : List WordView → Option Bool
first_prints [] = None
first_prints (w ∷ ws) = prints_of w.0

-- whether the parameter is PRINT, where one is wanted
abbrev pub print_fits : Operation → List WordView → Bool
print_fits op.VariableList ps = is_some (first_prints ps)
print_fits _ ps = true

-- a word that spells PRINT is a parameter, as a C string is, though it may begin with `-`
abbrev pub as_parameter : WordView → WordView
as_parameter w = (w.0, w.1 || is_some (prints_of w.0))

-- the words as an operation takes them
abbrev pub words_for : Operation → List WordView → List WordView
words_for op.VariableList ws = map as_parameter ws
words_for _ ws = ws

-- how the code keeps a word
abbrev pub parameter_word : Word → Word
parameter_word w = record w { quoted = w.quoted || is_some (prints_of w.bytes.items) }
