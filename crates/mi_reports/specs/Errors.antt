-- Why a line is refused (GDB manual, "GDB/MI Result Records": errors).
use Rattle.std.specs.Prelude.{ℕ, List, [], ◌∷◌, ◌++◌, decimal}
use Rattle.cond_expr.specs.declared.fault.FaultKind.{FaultKind}
use Rattle.cond_expr.specs.declared.fault.FaultKind.TheVariants as kind
use Rattle.break_table.specs.declared.due.CondError.{CondError}
use Rattle.break_table.specs.declared.due.CondError.TheVariants.{DivZero, Unread}
use Rattle.mi_commands.specs.declared.refusal.Fault.{Fault}
use Rattle.mi_commands.specs.declared.refusal.Fault.TheVariants as fault
use Rattle.dbg_model.specs.declared.reply.Obstacle.{Obstacle}
use Rattle.dbg_model.specs.declared.reply.Obstacle.TheVariants as obstacle
use Rattle.dbg_model.specs.declared.reply.Refused.{Refused}
use Rattle.dbg_model.specs.declared.reply.Refused.TheVariants as refused
use Rattle.mi_values.specs.Tree.{Tree}
use Rattle.mi_reports.specs.declared.words.Key.TheVariants as key
use Rattle.mi_reports.specs.declared.words.Phrase.TheVariants as phrase
use Rattle.mi_text.specs.Numeral.{address_text}
use Rattle.mi_reports.specs.Words.{says}
use Rattle.mi_reports.specs.Phrases.{phrase_text}

-- the fault of a command
abbrev pub fault_message : Fault → List ℕ
fault_message (fault.Undefined name) = phrase_text phrase.Undefined ++ name
fault_message (fault.Parameters name) = phrase_text phrase.Parameters ++ name
fault_message (fault.Number word) = phrase_text phrase.BadNumber ++ word
fault_message fault.Setting = phrase_text phrase.Setting
fault_message (fault.Location word thread) = phrase_text phrase.BadLocation ++ word

-- the fault of an expression, at a place that is counted from 0
abbrev pub expression_message : FaultKind → ℕ → List ℕ
expression_message kind.Long at = phrase_text phrase.LongExpression
expression_message kind.Text at = phrase_text phrase.ExpressionSyntax ++ decimal at
expression_message kind.Number at = phrase_text phrase.ExpressionNumber ++ decimal at
expression_message kind.Deep at = phrase_text phrase.ExpressionDeep ++ decimal at
expression_message kind.Name at = phrase_text phrase.ExpressionName ++ decimal at

abbrev pub obstacle_message : Obstacle → List ℕ
obstacle_message (obstacle.UnknownThread t) = phrase_text phrase.UnknownThread ++ decimal t
obstacle_message (obstacle.HasExited t) = phrase_text phrase.Thread ++ decimal t ++ phrase_text phrase.HasExited
obstacle_message (obstacle.IsRunning t) = phrase_text phrase.Thread ++ decimal t ++ phrase_text phrase.IsRunning
obstacle_message (obstacle.NotRunning t) = phrase_text phrase.Thread ++ decimal t ++ phrase_text phrase.NotRunning
obstacle_message (obstacle.NoBreakpoint n) = phrase_text phrase.NoBreakpoint ++ decimal n
obstacle_message (obstacle.NoInstruction addr) = phrase_text phrase.NoInstruction ++ address_text addr
obstacle_message obstacle.TooManyBreakpoints = phrase_text phrase.TooManyBreakpoints
obstacle_message (obstacle.Expression f) = expression_message f.kind f.at
obstacle_message obstacle.DivisionByZero = phrase_text phrase.DivisionByZero
obstacle_message (obstacle.Unreadable addr) = phrase_text phrase.Unreadable ++ address_text addr
obstacle_message (obstacle.NoLine addr) = phrase_text phrase.NoLineInformation ++ address_text addr
obstacle_message obstacle.NoCaller = phrase_text phrase.NoCaller
obstacle_message (obstacle.Unwritable addr) = phrase_text phrase.Unwritable ++ address_text addr
obstacle_message obstacle.TooManyWatches = phrase_text phrase.TooManyWatches

-- the message of an error
abbrev pub message : Refused → List ℕ
message refused.Long = phrase_text phrase.LongLine
message refused.Syntax = phrase_text phrase.Syntax
message refused.Cli = phrase_text phrase.Cli
message (refused.Faulty f) = fault_message f
message (refused.Hindered o) = obstacle_message o
message (refused.UnknownName name) = phrase_text phrase.Function ++ name ++ phrase_text phrase.NotDefined
message (refused.UnknownLine file line) = phrase_text phrase.NoLine ++ decimal line ++ phrase_text phrase.InFile ++ file
message (refused.FixedRegister name) = phrase_text phrase.FixedRegister ++ name
message (refused.Unwatchable expression) = phrase_text phrase.CannotWatch ++ expression

-- an operation that isn't known has a code
abbrev pub error_code : Refused → List (List ℕ × Tree)
error_code (refused.Faulty (fault.Undefined name)) = says key.Code (phrase_text phrase.UndefinedCommand) ∷ []
error_code r = []

unfoldable pub error_fields : Refused → List (List ℕ × Tree)
error_fields r = says key.Message (message r) ∷ error_code r

-- why the value of a condition can't be had
abbrev pub condition_error : CondError → List ℕ
condition_error DivZero = phrase_text phrase.DivisionByZero
condition_error (Unread addr) = phrase_text phrase.Unreadable ++ address_text addr

-- what is told of such a condition: a line of its own
unfoldable pub condition_message : ℕ → CondError → List ℕ
condition_message number e = phrase_text phrase.ConditionError ++ decimal number ++ phrase_text phrase.Colon ++ condition_error e ++ 10 ∷ []
