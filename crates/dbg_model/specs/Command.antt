-- What is answered to a command, and what it changes, by the command (GDB manual, chapter "The GDB/MI Interface").
use Rattle.std.specs.Prelude.{true, false, Result, Ok, Err}
use Rattle.mi_commands.specs.declared.command.Command.{Command}
use Rattle.mi_commands.specs.declared.command.Command.TheVariants as command
use Rattle.mi_commands.specs.declared.command.Displaced.{Displaced}
use Rattle.mi_commands.specs.declared.command.Displaced.TheVariants as displaced
use Rattle.mi_commands.specs.declared.command.Setting.{Setting}
use Rattle.mi_commands.specs.declared.command.Setting.TheVariants as settings
use Rattle.mi_commands.specs.declared.refusal.Fault.{Fault}
use Rattle.mi_commands.specs.declared.refusal.Fault.TheVariants as fault
use Rattle.dbg_model.specs.declared.reply.Content.TheVariants as content
use Rattle.dbg_model.specs.declared.reply.Refused.{Refused}
use Rattle.dbg_model.specs.declared.reply.Refused.TheVariants as refused
use Rattle.dbg_model.specs.Sight.{Sight}
use Rattle.dbg_model.specs.Outcome.{Outcome, and_then, displaces, doing, exits, showing, stays}
use Rattle.dbg_model.specs.Threads.{go_on, interrupt, thread_info, thread_list, thread_select}
use Rattle.dbg_model.specs.Breakpoints.{after, change_condition, delete, enable, insert, known_thread, list}
use Rattle.dbg_model.specs.Data.{evaluate, read_memory, register_values}
use Rattle.dbg_model.specs.Frames.{frame_depth, frame_info, frame_list}
use Rattle.dbg_model.specs.Variables.{variable_list}
use Rattle.dbg_model.specs.Steps.{finish_step, line_step, one_step, step}
use Rattle.dbg_model.specs.Watchpoints.{watch}
use Rattle.dbg_model.specs.Writes.{set_register, write_memory}

-- the value of a setting; the mode is always non-stop, and commands are always done while harts run
abbrev pub setting_value : Displaced → Setting → Displaced
setting_value d settings.DisplacedStepping = d
setting_value d _ = displaced.On

unfoldable pub reply : Sight → Command → Result Outcome Refused
reply s command.Blank = Ok (showing content.Blank)
reply s (command.BreakInsert i) = insert s i
reply s (command.BreakDelete ns) = delete s ns
reply s (command.BreakEnable ns) = enable s true ns
reply s (command.BreakDisable ns) = enable s false ns
reply s (command.BreakCondition n text) = change_condition s n text
reply s (command.BreakAfter n count) = after s n count
reply s command.BreakList = list s
reply s (command.BreakWatch text) = watch s text
reply s (command.Continue target) = go_on s target
reply s (command.Interrupt target) = interrupt s target
reply s (command.Step thread) = step (line_step true) s thread
reply s (command.Next thread) = step (line_step false) s thread
reply s (command.StepInstruction thread) = step (one_step false) s thread
reply s (command.NextInstruction thread) = step (one_step true) s thread
reply s (command.Finish thread) = step finish_step s thread
reply s command.Wait = Ok (doing stays)
reply s (command.ThreadInfo thread) = thread_info s thread
reply s (command.ThreadSelect thread) = thread_select s thread
reply s command.ThreadList = thread_list s
reply s (command.FrameList thread) = frame_list s thread
reply s (command.FrameDepth thread) = frame_depth s thread
reply s (command.FrameInfo thread) = frame_info s thread
reply s (command.VariableList thread with_values) = variable_list s thread with_values
reply s command.RegisterNames = Ok (showing content.RegisterNames)
reply s (command.RegisterValues thread format numbers) = register_values s thread format numbers
reply s (command.ReadMemory addr count) = read_memory s addr count
reply s (command.WriteMemory address bytes) = write_memory s address bytes
reply s (command.Evaluate thread text) = evaluate s thread text
reply s command.SetNonStop = Ok (doing stays)
reply s command.SetMiAsync = Ok (doing stays)
reply s (command.SetDisplaced value) = Ok (doing (displaces value))
reply s (command.SetRegister thread name register value) = set_register s thread name register value
reply s (command.Show setting) = Ok (showing (content.Setting (setting_value s.displaced setting)))
reply s command.Exit = Ok (record { content = content.Exit; change = exits })

-- a line that has parts is a command, or has a fault; an unknown thread comes before a bad location
unfoldable pub asked_reply : Sight → Result Command Fault → Result Outcome Refused
asked_reply s (Ok c) = reply s c
asked_reply s (Err (fault.Location word thread)) = and_then (known_thread s thread) (λ u. Err (refused.Faulty (fault.Location word thread)))
asked_reply s (Err f) = Err (refused.Faulty f)
