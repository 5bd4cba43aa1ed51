-- The words of a command: its options, and behind them its parameters (GDB's manual, "GDB/MI Input Syntax").
use Rattle.std.specs.Prelude.{ℕ, List, [], ◌∷◌, Bool, true, not, ◌&&◌, ◌||◌, Option, Some, None, is_some, codes, find, length, if◌then◌else◌}
use Rattle.std.specs.List.{list_any}
use Rattle.std.specs.Option.{option_and_then}
use Rattle.std.specs.Str.{bytes_eq}
use Rattle.mi_input.specs.Parts.{WordView, begins}
use Rattle.mi_commands.specs.declared.operation.Operation.{Operation}
use Rattle.mi_commands.specs.declared.counts.OptionName.{OptionName}
use Rattle.mi_commands.specs.declared.counts.OptionName.TheVariants as option
use Rattle.mi_commands.specs.declared.counts.Allowed.{Allowed}
use Rattle.mi_commands.specs.Prints.{print_fits}
use Rattle.mi_commands.specs.Operations.{spelling, is_named, takes_value, allows, fits, shape}

-- `--`, which ends the options
unfoldable pub is_end : WordView → Bool
is_end w = not w.1 && bytes_eq w.0 (codes "--")

-- a word that begins with `-`, is no C string and isn't `--`
abbrev pub is_option : WordView → Bool
is_option w = (not w.1 && begins 45 w.0) && not (is_end w)

-- an option as it stands there: how it is spelled, and its value where it takes one and a word follows
abbrev pub Given : Type 0
Given = List ℕ × Option (List ℕ)

-- the options in front, up to `--` or the first parameter
unfoldable mutual
  pub options : List WordView → List Given
  options [] = []
  options (w ∷ ws) = if is_option w then (if takes_value w.0 then with_value w.0 ws else (w.0, None) ∷ options ws) else []

  pub with_value : List ℕ → List WordView → List Given
  with_value name [] = (name, None) ∷ []
  with_value name (v ∷ ws) = (name, Some v.0) ∷ options ws

abbrev pub behind_end : List WordView → List WordView
behind_end [] = []
behind_end (w ∷ ws) = if is_end w then ws else w ∷ ws

-- what stands behind the options, and behind the `--` that may end them
unfoldable mutual
  pub parameters : List WordView → List WordView
  parameters [] = []
  parameters (w ∷ ws) = if is_option w then (if takes_value w.0 then behind_value ws else parameters ws) else behind_end (w ∷ ws)

  pub behind_value : List WordView → List WordView
  behind_value [] = []
  behind_value (v ∷ ws) = parameters ws

-- whether an option is so spelled
abbrev pub stands : List ℕ → List Given → Bool
stands word given = list_any (λ (g : Given). bytes_eq g.0 word) given

-- the value of the first option of this name
abbrev pub value_in : OptionName → List Given → Option (List ℕ)
value_in name given = option_and_then (λ (g : Given). g.1) (find (λ (g : Given). is_named name g.0) given)

-- Each option is one that the command takes, has its value if it takes one, and stands there once.
abbrev pub option_fits : Allowed → Given → List Given → Bool
option_fits allowed g behind = (allows allowed g.0 && (not (takes_value g.0) || is_some g.1)) && not (stands g.0 behind)

abbrev pub options_fit : Allowed → List Given → Bool
options_fit allowed [] = true
options_fit allowed (g ∷ given) = option_fits allowed g given && options_fit allowed given

-- not both `--all` and `--thread`
abbrev pub one_target : List Given → Bool
one_target given = not (stands (spelling option.All) given && stands (spelling option.Thread) given)

-- whether the operation takes these words
abbrev pub words_fit : Operation → List WordView → Bool
words_fit o ws =
    ((options_fit (shape o).0 (options ws) && one_target (options ws)) && fits (shape o).1 (length (parameters ws)))
    && print_fits o (parameters ws)
