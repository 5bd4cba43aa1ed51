-- What commands are about: breakpoints and watches, settings, or threads that go on or stop. This project's own.
use Rattle.std.specs.Prelude.{Bool, true, false}
use Rattle.mi_commands.specs.declared.command.Command.{Command}
use Rattle.mi_commands.specs.declared.command.Command.TheVariants as command

-- it is about breakpoints and watches, or blank
abbrev pub is_break : Command → Bool
is_break command.Blank = true
is_break (command.BreakInsert insertion) = true
is_break (command.BreakDelete numbers) = true
is_break (command.BreakEnable numbers) = true
is_break (command.BreakDisable numbers) = true
is_break (command.BreakCondition number condition) = true
is_break (command.BreakAfter number count) = true
is_break command.BreakList = true
is_break (command.BreakWatch expression) = true
is_break _ = false

-- it sets or shows a setting, sets a register, waits or exits
abbrev pub is_setting : Command → Bool
is_setting command.Wait = true
is_setting command.SetNonStop = true
is_setting command.SetMiAsync = true
is_setting (command.SetDisplaced value) = true
is_setting (command.SetRegister thread name register value) = true
is_setting (command.Show setting) = true
is_setting command.Exit = true
is_setting _ = false

-- it has threads go on or stop, or is one of settings
abbrev pub is_move : Command → Bool
is_move (command.Continue target) = true
is_move (command.Interrupt target) = true
is_move (command.Step thread) = true
is_move (command.Next thread) = true
is_move (command.StepInstruction thread) = true
is_move (command.NextInstruction thread) = true
is_move (command.Finish thread) = true
is_move command = is_setting command
