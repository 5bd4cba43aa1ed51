-- What can be wrong with a line that has parts: this project's own.
use Rattle.std.specs.Prelude.{ℕ, List, [], ◌∷◌, Option, Some, None, if◌then◌else◌}
use Rattle.std.specs.Option.{option_map}
use Rattle.mi_input.specs.Parts.{WordView}
use Rattle.mi_commands.specs.declared.operation.Operation.{Operation}
use Rattle.mi_commands.specs.declared.operation.Operation.TheVariants as op
use Rattle.mi_commands.specs.declared.counts.OptionName.{OptionName}
use Rattle.mi_commands.specs.declared.counts.OptionName.TheVariants as option
use Rattle.mi_commands.specs.declared.refusal.Fault.{Fault}
use Rattle.mi_commands.specs.declared.refusal.Fault.TheVariants as fault
use Rattle.mi_commands.specs.Operations.{or_else}
use Rattle.mi_commands.specs.Words.{options, parameters, value_in, words_fit}
use Rattle.mi_commands.specs.Numbers.{number, bad_number}

-- the number of a fault's error message
abbrev pub fault_number : Fault → ℕ
fault_number (fault.Undefined name) = 4
fault_number (fault.Parameters name) = 5
fault_number (fault.Number word) = 6
fault_number fault.Setting = 7
fault_number (fault.Location word thread) = 13

abbrev pub first_word : List WordView → List ℕ
first_word [] = []
first_word (w ∷ ws) = w.0

abbrev pub second_word : List WordView → List ℕ
second_word [] = []
second_word (w ∷ ws) = first_word ws

-- the number that an option has as its value
abbrev pub number_in : OptionName → List WordView → Option ℕ
number_in name ws = option_map number (value_in name (options ws))

abbrev pub parameters_fault : Operation → List ℕ → List WordView → Option Fault
parameters_fault o name ws = if words_fit o ws then None else Some (fault.Parameters name)

abbrev pub number_fault : Operation → List WordView → Option Fault
number_fault o ws = option_map fault.Number (bad_number o ws)

-- The least of the faults that words have before they are read. `name` is their operation.
abbrev pub words_fault : Operation → List ℕ → List WordView → Option Fault
words_fault o name ws = or_else (parameters_fault o name ws) (number_fault o ws)

-- what is wrong with words that ask for nothing: no location, or no setting, value, format or register
abbrev pub misfit : Operation → List WordView → Fault
misfit op.BreakInsert ws = fault.Location (first_word (parameters ws)) (number_in option.InThread ws)
misfit _ ws = fault.Setting
