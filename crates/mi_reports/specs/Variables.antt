-- Variables as they are listed (GDB manual, "GDB/MI Stack Manipulation Commands": `-stack-list-variables`).
use Rattle.std.specs.Prelude.{ℕ, Bool, true, false, List, [], ◌∷◌, ◌++◌, map, Option, Some, None, decimal}
use Rattle.dbg_model.specs.declared.variable.ShownVariable.{ShownVariable}
use Rattle.dbg_model.specs.declared.variable.VariableValue.{VariableValue}
use Rattle.dbg_model.specs.declared.variable.VariableValue.TheVariants as shown
use Rattle.mi_text.specs.Numeral.{address_text, worth_text}
use Rattle.mi_values.specs.Tree.{Tree, items, items_of}
use Rattle.mi_values.specs.FieldLists.{tuple_of}
use Rattle.mi_reports.specs.declared.words.Key.TheVariants as key
use Rattle.mi_reports.specs.declared.words.Phrase.TheVariants as phrase
use Rattle.mi_reports.specs.Words.{key_text, says}
use Rattle.mi_reports.specs.Phrases.{phrase_text}

-- a value in decimal, or in its place why there is none
abbrev pub shown_text : VariableValue → List ℕ
shown_text (shown.Word word unsigned) = worth_text word unsigned
shown_text shown.OptimizedOut = phrase_text phrase.OptimizedOut
shown_text shown.NotRead = phrase_text phrase.TypeNotRead
shown_text (shown.Unreadable addr) =
    phrase_text phrase.ErrorBegin ++ phrase_text phrase.Unreadable ++ address_text addr ++ phrase_text phrase.ErrorEnd

-- that a variable is a parameter
abbrev pub argument_fields : Bool → List (List ℕ × Tree)
argument_fields true = says key.Arg (decimal 1) ∷ []
argument_fields false = []

abbrev pub shown_fields : Option VariableValue → List (List ℕ × Tree)
shown_fields None = []
shown_fields (Some v) = says key.Value (shown_text v) ∷ []

unfoldable pub variable_fields : ShownVariable → List (List ℕ × Tree)
variable_fields v = says key.Name v.name ∷ (argument_fields v.argument ++ shown_fields v.value)

unfoldable pub variable_tree : ShownVariable → Tree
variable_tree v = tuple_of (variable_fields v)

unfoldable pub variables_field : List ShownVariable → List ℕ × Tree
variables_field vs = (key_text key.Variables, items (items_of (map variable_tree vs)))
