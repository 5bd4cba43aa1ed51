-- All that stands against a line of input, each error where it holds, whatever else does, and the answer by it. This project's own.
use Rattle.std.specs.Prelude.{ℕ, ◌+◌, ◌≡◌, List, [], ◌∷◌, ◌++◌, length, Option, Some, None, Result, Ok, Err, if◌then◌else◌, nat_lt}
use Rattle.std.specs.List.{flat_map}
use Rattle.std.specs.Option.{ok_or}
use Rattle.mi_input.specs.Parts.{PartsView, WordView, is_cli, after_blanks}
use Rattle.mi_input.specs.Reading.{parts_read}
use Rattle.mi_commands.specs.declared.command.Command.{Command}
use Rattle.mi_commands.specs.declared.operation.Operation.{Operation}
use Rattle.mi_commands.specs.declared.refusal.Fault.{Fault}
use Rattle.mi_commands.specs.declared.refusal.Fault.TheVariants as fault
use Rattle.mi_commands.specs.Operations.{operation_of}
use Rattle.mi_commands.specs.Words.{Given, options, parameters, words_fit}
use Rattle.mi_commands.specs.Numbers.{is_bad, is_bad_at, number_part, value_range}
use Rattle.mi_commands.specs.Faults.{misfit}
use Rattle.mi_commands.specs.Prints.{words_for}
use Rattle.mi_commands.specs.Registers.{form}
use Rattle.mi_commands.specs.Commands.{answer_as, command_for}
use Rattle.dbg_model.specs.declared.reply.Content.{Content}
use Rattle.dbg_model.specs.declared.reply.Content.TheVariants as content
use Rattle.dbg_model.specs.declared.reply.Refused.{Refused}
use Rattle.dbg_model.specs.declared.reply.Refused.TheVariants as refused
use Rattle.dbg_model.specs.Sight.{Sight}
use Rattle.dbg_model.specs.Refusals.{IsLeast, against, against_named, unknown}

-- ---- the words of a command

abbrev pub no_number : List ℕ → Refused
no_number word = refused.Faulty (fault.Number word)

abbrev pub bad_value_of : Given → List Refused
bad_value_of (word, None) = []
bad_value_of (word, Some value) = if is_bad (value_range word) value then no_number value ∷ [] else []

-- each value of an option that should be a number and is none
abbrev pub bad_values : List Given → List Refused
bad_values = flat_map bad_value_of

-- each parameter that should be a number or bytes and is none; the first has this place
unfoldable pub bad_parameters : Operation → ℕ → List WordView → List Refused
bad_parameters o k [] = []
bad_parameters o k (w ∷ ws) =
    (if is_bad_at o k (number_part o w.0) then no_number (number_part o w.0) ∷ [] else []) ++ bad_parameters o (k + 1) ws

abbrev pub no_command : Result Command Fault → List Refused
no_command (Ok c) = []
no_command (Err f) = refused.Faulty f ∷ []

-- against what words are read as: their command, or of a bad location the thread that stands beside it
abbrev pub against_read : Sight → Result Command Fault → List Refused
against_read s (Ok c) = against s c
against_read s (Err (fault.Location word thread)) = against_named (unknown s) thread
against_read s (Err f) = []

-- options or a number of words that don't fit, words that are no numbers, words that ask for nothing, and what stands against
-- the command, which there is only of words without these
abbrev pub against_words : Sight → List ℕ → Operation → List WordView → List Refused
against_words s name o ws =
    (if words_fit o ws then [] else refused.Faulty (fault.Parameters name) ∷ [])
    ++ ((bad_values (options ws) ++ bad_parameters o 0 (parameters ws))
    ++ (no_command (ok_or (command_for o ws) (misfit o ws))
    ++ against_read s (answer_as name o ws)))

-- ---- the line

abbrev pub against_operation : Sight → List ℕ → Option Operation → List WordView → List Refused
against_operation s name None ws = refused.Faulty (fault.Undefined name) ∷ []
against_operation s name (Some o) ws = against_words s name (form o (parameters (words_for o ws))) (words_for o ws)

-- nothing stands against a line of blanks
abbrev pub against_parts : Sight → Option (List ℕ) → List WordView → List Refused
against_parts s None ws = []
against_parts s (Some name) ws = against_operation s name (operation_of name) ws

abbrev pub against_reading : Sight → List ℕ → Option PartsView → List Refused
against_reading s line None = (if is_cli (after_blanks line) then refused.Cli else refused.Syntax) ∷ []
against_reading s line (Some p) = against_parts s p.operation p.words

-- of a line that is too long nothing else is known
unfoldable pub against_line : Sight → List ℕ → List Refused
against_line s line = if nat_lt 4096 (length line) then refused.Long ∷ [] else against_reading s line (parts_read line)

-- ---- the answer

-- why a line is refused, if it is
abbrev pub refused_in : Content → Option Refused
refused_in (content.Refused r) = Some r
refused_in _ = None

-- Refused with the first of the errors that have the least number, and done where nothing stands against the line.
abbrev pub IsAnswered : Option Refused → List Refused → Type 0
IsAnswered None rs = rs ≡ []
IsAnswered (Some r) rs = IsLeast r rs
