-- Which words are numbers, and of which range: this project's own.
use Rattle.std.specs.Prelude.{ℕ, ◌+◌, ◌-◌, ◌^◌, List, [], ◌∷◌, Bool, false, not, ◌==◌, ◌&&◌, nat_le, Option, Some, None, is_none, unwrap_or, if◌then◌else◌}
use Rattle.std.specs.Option.{option_and_then}
use Rattle.rv_decode.specs.Registers.{between}
use Rattle.mi_text.specs.Number.{number_of}
use Rattle.mi_text.specs.Hexadecimal.{are_bytes}
use Rattle.mi_input.specs.Parts.{WordView}
use Rattle.mi_commands.specs.declared.operation.Operation.{Operation}
use Rattle.mi_commands.specs.declared.operation.Operation.TheVariants as op
use Rattle.mi_commands.specs.declared.counts.OptionName.TheVariants as option
use Rattle.mi_commands.specs.declared.number.Range.{Range}
use Rattle.mi_commands.specs.declared.number.Range.TheVariants as range
use Rattle.mi_commands.specs.declared.number.Numbers.{Numbers}
use Rattle.mi_commands.specs.declared.number.Numbers.TheVariants as numbers
use Rattle.mi_commands.specs.Operations.{or_else, is_named, row}
use Rattle.mi_commands.specs.Words.{Given, options, parameters}
use Rattle.mi_commands.specs.Registers.{assignment}

-- the least and the greatest number of a range
abbrev pub least : Range → ℕ
least range.Any = 0
least range.Count = 0
least range.Register = 0
least range.Length = 1

abbrev pub greatest : Range → ℕ
greatest range.Any = 2 ^ 32 - 1
greatest range.Count = 2 ^ 31 - 1
greatest range.Register = 32
greatest range.Length = 4096

abbrev pub in_range : Range → ℕ → Bool
in_range r n = between (least r) (greatest r) n

-- no number of this range, where one is wanted
abbrev pub is_bad : Option Range → List ℕ → Bool
is_bad None word = false
is_bad (Some r) word = is_none (option_and_then (λ n. if in_range r n then Some n else None) (number_of word))

-- which options have a number as their value
abbrev pub value_range : List ℕ → Option Range
value_range word =
    if is_named option.Ignore word then Some range.Count
    else (if is_named option.InThread word then Some range.Any
    else (if is_named option.Thread word then Some range.Any
    else None))

-- the range of the first parameter, or that of the others
abbrev pub first_and_others : Option Range → Option Range → ℕ → Option Range
first_and_others first others k = if k == 0 then first else others

-- which parameters are numbers, by their places from 0; where a register is set, what stands behind the `=` is one
abbrev pub range_in : Numbers → ℕ → Option Range
range_in numbers.NoNumbers k = None
range_in numbers.Each k = Some range.Any
range_in numbers.First k = first_and_others (Some range.Any) None k
range_in numbers.WithCount k = first_and_others (Some range.Any) (Some range.Count) k
range_in numbers.WithLength k = first_and_others (Some range.Any) (Some range.Length) k
range_in numbers.AroundBytes k = first_and_others (Some range.Any) (Some range.Length) k
range_in numbers.Registers k = first_and_others None (Some range.Register) k

abbrev pub range_at : Operation → ℕ → Option Range
range_at o k = range_in (row o).3 k

-- the first value of an option that should be a number and is none
abbrev pub bad_value : List Given → Option (List ℕ)
bad_value [] = None
bad_value ((word, None) ∷ given) = bad_value given
bad_value ((word, Some value) ∷ given) = if is_bad (value_range word) value then Some value else bad_value given

-- which parameter is bytes, each as two hexadecimal digits
abbrev pub bytes_in : Numbers → ℕ → Bool
bytes_in numbers.AroundBytes k = k == 1
bytes_in _ k = false

abbrev pub has_bytes_at : Operation → ℕ → Bool
has_bytes_at o k = bytes_in (row o).3 k

-- no number or no bytes, where such are wanted
abbrev pub is_bad_at : Operation → ℕ → List ℕ → Bool
is_bad_at o k word = if has_bytes_at o k then not (are_bytes word) else is_bad (range_at o k) word

-- the part of a parameter that is to be a number or bytes
abbrev pub number_part : Operation → List ℕ → List ℕ
number_part op.SetRegister word = (assignment word).value
number_part _ word = word

-- the first parameter that should be a number or bytes and is none; the first has this place
unfoldable pub bad_parameter : Operation → ℕ → List WordView → Option (List ℕ)
bad_parameter o k [] = None
bad_parameter o k (w ∷ ws) =
    if is_bad_at o k (number_part o w.0) then Some (number_part o w.0) else bad_parameter o (k + 1) ws

-- the leftmost word that should be a number and is none: the options stand before the parameters
abbrev pub bad_number : Operation → List WordView → Option (List ℕ)
bad_number o ws = or_else (bad_value (options ws)) (bad_parameter o 0 (parameters ws))

-- the number of a word that is one
abbrev pub number : List ℕ → ℕ
number word = unwrap_or (number_of word) 0
