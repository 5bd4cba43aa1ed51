-- What the parts of a line ask for (GDB manual, chapter "The GDB/MI Interface"; the order of faults is this project's own).
use Rattle.std.specs.Prelude.{ℕ, List, [], ◌∷◌, ◌++◌, length, map, Option, Some, None, Result, Ok, Err, unwrap_or, if◌then◌else◌}
use Rattle.std.specs.Option.{ok_or, option_map}
use Rattle.mi_input.specs.Parts.{WordView, PartsView}
use Rattle.mi_commands.specs.declared.operation.Operation.{Operation}
use Rattle.mi_commands.specs.declared.operation.Operation.TheVariants as op
use Rattle.mi_commands.specs.declared.counts.OptionName.TheVariants as option
use Rattle.mi_commands.specs.declared.command.Command.{Command}
use Rattle.mi_commands.specs.declared.command.Command.TheVariants as command
use Rattle.mi_commands.specs.declared.command.Target.{Target}
use Rattle.mi_commands.specs.declared.command.Target.TheVariants as target
use Rattle.mi_commands.specs.declared.command.Location.{Location}
use Rattle.mi_commands.specs.declared.command.Insertion.{Insertion}
use Rattle.mi_commands.specs.declared.refusal.Fault.{Fault}
use Rattle.mi_commands.specs.declared.refusal.Fault.TheVariants as fault
use Rattle.mi_commands.specs.Operations.{spelling, operation_of}
use Rattle.mi_commands.specs.Prints.{first_prints, words_for}
use Rattle.mi_commands.specs.Words.{options, parameters, stands, value_in}
use Rattle.mi_commands.specs.Numbers.{number}
use Rattle.mi_text.specs.Hexadecimal.{bytes_of}
use Rattle.mi_commands.specs.Bytes.{repeated}
use Rattle.rv_decode.specs.Registers.{register_number}
use Rattle.mi_commands.specs.Registers.{Assignment, assignment, form}
use Rattle.mi_commands.specs.Locations.{location_of}
use Rattle.mi_commands.specs.Settings.{format_of, setting_of, set_command}
use Rattle.mi_commands.specs.Faults.{first_word, second_word, number_in, words_fault, misfit}

abbrev pub first_number : List WordView → ℕ
first_number ps = number (first_word ps)

abbrev pub second_number : List WordView → ℕ
second_number ps = number (second_word ps)

abbrev pub rest_of : List WordView → List WordView
rest_of [] = []
rest_of (w ∷ ws) = ws

abbrev pub numbers : List WordView → List ℕ
numbers = map (λ (w : WordView). number w.0)

-- the words with one space before each
unfoldable pub spaced : List WordView → List ℕ
spaced [] = []
spaced (w ∷ ws) = (32 ∷ w.0) ++ spaced ws

-- the words with one space between them
abbrev pub joined : List WordView → List ℕ
joined [] = []
joined (w ∷ ws) = w.0 ++ spaced ws

abbrev pub joined_if_any : List WordView → Option (List ℕ)
joined_if_any [] = None
joined_if_any (w ∷ ws) = Some (joined (w ∷ ws))

-- the number of the first word, if one stands there
abbrev pub number_if_any : List WordView → Option ℕ
number_if_any [] = None
number_if_any (w ∷ ws) = Some (number w.0)

abbrev pub selected_or : Option ℕ → Target
selected_or None = target.Selected
selected_or (Some n) = target.Thread n

abbrev pub target_of : List WordView → Target
target_of ws =
    if stands (spelling option.All) (options ws) then target.All else selected_or (number_in option.Thread ws)

abbrev pub insertion : List WordView → Location → Insertion
insertion ws place = record {
  temporary = stands (spelling option.Temporary) (options ws);
  disabled = stands (spelling option.Disabled) (options ws);
  ignore = unwrap_or (number_in option.Ignore ws) 0;
  condition = value_in option.Condition (options ws);
  thread = number_in option.InThread ws;
  location = place;
  text = first_word (parameters ws);
}

-- `$NAME=VALUE`, of a thread; 32 is pc
abbrev pub set_register : Option ℕ → Assignment → Option Command
set_register thread a = option_map (λ register. command.SetRegister thread a.name register (number a.value)) (register_number a.name)

-- FORMAT and the numbers of registers, of a thread
abbrev pub register_values : Option ℕ → List WordView → Option Command
register_values thread ps = option_map (λ f. command.RegisterValues thread f (numbers (rest_of ps))) (format_of (first_word ps))

-- the bytes of CONTENTS, and how many are written: as many as are given, where there is no COUNT
abbrev pub bytes_written : List ℕ → Option ℕ → List ℕ
bytes_written bytes count = repeated bytes (unwrap_or count (length bytes))

-- ADDRESS CONTENTS [COUNT]
abbrev pub write_memory : List WordView → Command
write_memory ps = command.WriteMemory (first_number ps) (bytes_written (bytes_of (second_word ps)) (number_if_any (rest_of (rest_of ps))))

-- what the words of an operation ask for; none where they spell no location, setting, value, format or register
abbrev pub command_for : Operation → List WordView → Option Command
command_for op.BreakInsert ws = option_map (λ place. command.BreakInsert (insertion ws place)) (location_of (first_word (parameters ws)))
command_for op.BreakDelete ws = Some (command.BreakDelete (numbers (parameters ws)))
command_for op.BreakEnable ws = Some (command.BreakEnable (numbers (parameters ws)))
command_for op.BreakDisable ws = Some (command.BreakDisable (numbers (parameters ws)))
command_for op.BreakCondition ws = Some (command.BreakCondition (first_number (parameters ws)) (joined_if_any (rest_of (parameters ws))))
command_for op.BreakAfter ws = Some (command.BreakAfter (first_number (parameters ws)) (second_number (parameters ws)))
command_for op.BreakList ws = Some command.BreakList
command_for op.BreakWatch ws = Some (command.BreakWatch (joined (parameters ws)))
command_for op.Continue ws = Some (command.Continue (target_of ws))
command_for op.Interrupt ws = Some (command.Interrupt (target_of ws))
command_for op.Step ws = Some (command.Step (number_in option.Thread ws))
command_for op.Next ws = Some (command.Next (number_in option.Thread ws))
command_for op.StepInstruction ws = Some (command.StepInstruction (number_in option.Thread ws))
command_for op.NextInstruction ws = Some (command.NextInstruction (number_in option.Thread ws))
command_for op.Finish ws = Some (command.Finish (number_in option.Thread ws))
command_for op.Wait ws = Some command.Wait
command_for op.ThreadInfo ws = Some (command.ThreadInfo (number_if_any (parameters ws)))
command_for op.ThreadSelect ws = Some (command.ThreadSelect (first_number (parameters ws)))
command_for op.ThreadList ws = Some command.ThreadList
command_for op.FrameList ws = Some (command.FrameList (number_in option.Thread ws))
command_for op.FrameDepth ws = Some (command.FrameDepth (number_in option.Thread ws))
command_for op.FrameInfo ws = Some (command.FrameInfo (number_in option.Thread ws))
command_for op.VariableList ws = option_map (command.VariableList (number_in option.Thread ws)) (first_prints (parameters ws))
command_for op.RegisterNames ws = Some command.RegisterNames
command_for op.RegisterValues ws = register_values (number_in option.Thread ws) (parameters ws)
command_for op.ReadMemory ws = Some (command.ReadMemory (first_number (parameters ws)) (second_number (parameters ws)))
command_for op.WriteMemory ws = Some (write_memory (parameters ws))
command_for op.Evaluate ws = Some (command.Evaluate (number_in option.Thread ws) (joined (parameters ws)))
command_for op.Set ws = set_command (first_word (parameters ws)) (second_word (parameters ws))
command_for op.SetRegister ws = set_register (number_in option.Thread ws) (assignment (first_word (parameters ws)))
command_for op.Show ws = option_map command.Show (setting_of (first_word (parameters ws)))
command_for op.Exit ws = Some command.Exit

abbrev pub unless : Option Fault → Result Command Fault → Result Command Fault
unless None r = r
unless (Some f) r = Err f

abbrev pub answer_as : List ℕ → Operation → List WordView → Result Command Fault
answer_as name o ws = unless (words_fault o name ws) (ok_or (command_for o ws) (misfit o ws))

abbrev pub answer_in : List ℕ → Operation → List WordView → Result Command Fault
answer_in name o ws = answer_as name (form o (parameters ws)) ws

-- An operation that isn't in the table, else the least of the other faults, else the command.
abbrev pub answer_by : List ℕ → Option Operation → List WordView → Result Command Fault
answer_by name None ws = Err (fault.Undefined name)
answer_by name (Some o) ws = answer_in name o (words_for o ws)

unfoldable pub answer_of : Option (List ℕ) → List WordView → Result Command Fault
answer_of None ws = Ok command.Blank
answer_of (Some name) ws = answer_by name (operation_of name) ws

-- what a line of these parts asks for, or what is wrong with it
abbrev pub answer : PartsView → Result Command Fault
answer p = answer_of p.operation p.words
