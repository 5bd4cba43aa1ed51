-- What is read of a line and of an expression. This project's own.
use Rattle.std.specs.Prelude.{◌≡◌, ℕ, List, [], Result, Ok, Err}
use Rattle.cond_expr.specs.declared.expr.Expr.{Expr}
use Rattle.cond_expr.specs.declared.fault.ExprFault.{ExprFault}
use Rattle.cond_expr.specs.declared.fault.ParseError.{ParseError}
use Rattle.cond_expr.specs.declared.fault.ParseError.TheVariants as failures
use Rattle.cond_expr.specs.Term.{Term}
use Rattle.cond_expr.specs.Condition.{text_of, tree_of}
use Rattle.mi_input.specs.declared.parts.InputFault.{InputFault}
use Rattle.mi_input.specs.declared.parts.InputFault.TheVariants as input
use Rattle.mi_commands.specs.declared.command.CommandLine.{CommandLine}
use Rattle.mi_commands.specs.declared.refusal.Refusal.{Refusal}
use Rattle.mi_commands.specs.declared.refusal.Refusal.TheVariants as refusal
use Rattle.dbg_model.specs.declared.reply.Refused.TheVariants as refused
use Rattle.dbg_model.specs.Sight.{Sight}
use Rattle.dbg_model.specs.Command.{asked_reply}
use Rattle.dbg_model.specs.Reply.{Answer, answering}

-- the tree that was read, with its text, or the fault
abbrev pub ReadsAs : Result Expr ParseError → Result Term ExprFault → List ℕ → Type 0
ReadsAs (Ok e) r text = (r ≡ Ok (tree_of e)) × (text_of e ≡ text)
ReadsAs (Err failures.NoMemory) r text = Unit {0}
ReadsAs (Err (failures.Fault f)) r text = r ≡ Err f

-- there was memory to read the line
abbrev pub IsRead : Result CommandLine Refusal → Type 0
IsRead (Err (refusal.Input input.NoMemory)) = ⊥
IsRead _ = Unit {0}

-- what is answered to a line that has no parts; nothing, where out of memory
abbrev pub RefusesInput : InputFault → Answer → Type 0
RefusesInput input.NoMemory a = ⊥
RefusesInput input.Long a = a ≡ answering [] (Err refused.Long)
RefusesInput input.Syntax a = a ≡ answering [] (Err refused.Syntax)
RefusesInput (input.Cli token) a = a ≡ answering token (Err refused.Cli)

-- what is answered to a line that was read as this; nothing, where out of memory
abbrev pub AnswersRead : Sight → Result CommandLine Refusal → Answer → Type 0
AnswersRead s (Ok c) a = a ≡ answering c.token (asked_reply s (Ok c.command))
AnswersRead s (Err (refusal.Input f)) a = RefusesInput f a
AnswersRead s (Err (refusal.Faulty token f)) a = a ≡ answering token (asked_reply s (Err f))
