-- The variables of a thread's innermost frame, and expressions in which their names stand (GDB manual, "GDB/MI Stack
-- Manipulation Commands": `-stack-list-variables`, "GDB/MI Data Manipulation": `-data-evaluate-expression`).
use Rattle.std.specs.Prelude.{ℕ, Bool, List, filter, map, Option, Some, None, Result, Ok, Err, if◌then◌else◌}
use Rattle.rv_exec.specs.Registers.{Registers}
use Rattle.cond_expr.specs.declared.evaluating.Value.{Value}
use Rattle.cond_expr.specs.declared.evaluating.Value.TheVariants as worth
use Rattle.cond_expr.specs.declared.fault.ExprFault.{ExprFault}
use Rattle.cond_expr.specs.Reader.{parsed}
use Rattle.cond_expr.specs.Term.{Term}
use Rattle.cond_expr.specs.Value.{value_of}
use Rattle.elf_symbols.specs.Names.{Names}
use Rattle.debug_info.specs.Info.{scope}
use Rattle.debug_info.specs.Scope.{Variable}
use Rattle.frame_walk.specs.Frames.{own_cfa}
use Rattle.var_expr.specs.Expanded.{standing}
use Rattle.var_expr.specs.Parsed.{parsed_in}
use Rattle.var_expr.specs.Stands.{Standing, reads, optimized_out, not_read, standing_of}
use Rattle.dbg_model.specs.declared.reply.Content.TheVariants as content
use Rattle.dbg_model.specs.declared.reply.Obstacle.TheVariants.{Expression}
use Rattle.dbg_model.specs.declared.reply.Refused.{Refused}
use Rattle.dbg_model.specs.declared.reply.Refused.TheVariants.{Hindered}
use Rattle.dbg_model.specs.declared.variable.ShownVariable.{ShownVariable}
use Rattle.dbg_model.specs.declared.variable.VariableValue.{VariableValue}
use Rattle.dbg_model.specs.declared.variable.VariableValue.TheVariants as shown
use Rattle.dbg_model.specs.Views.{register, shown_byte}
use Rattle.dbg_model.specs.Sight.{Sight, stopped, thread_or}
use Rattle.dbg_model.specs.Outcome.{Outcome, and_then, showing}

-- the variables that a thread with these registers can see
abbrev pub variables_at : Sight → Registers → List Variable
variables_at s r = scope s.sources.info r.pc

-- the CFA of its frame
abbrev pub frame_cfa : Sight → Registers → Option ℕ
frame_cfa s r = own_cfa s.sources.frames (register r)

-- ---- the list

-- the value of a text that stands for a variable; no such text divides
abbrev pub value_as : Value → VariableValue
value_as (worth.Word n unsigned) = shown.Word n unsigned
value_as (worth.Unread addr) = shown.Unreadable addr
value_as worth.DivZero = shown.NotRead

-- each text that stands for a variable is an expression
abbrev pub text_value : (ℕ → ℕ) → (ℕ → Option ℕ) → Result Term ExprFault → VariableValue
text_value registers bytes (Ok tree) = value_as (value_of registers bytes tree)
text_value registers bytes (Err f) = shown.NotRead

abbrev pub standing_value : Names → (ℕ → ℕ) → (ℕ → Option ℕ) → Standing → VariableValue
standing_value names registers bytes (reads text) = text_value registers bytes (parsed names text)
standing_value names registers bytes optimized_out = shown.OptimizedOut
standing_value names registers bytes not_read = shown.NotRead

-- the value of a variable in a frame of this CFA: that of the text that stands for it, or why there is none
unfoldable pub variable_value : Names → (ℕ → ℕ) → (ℕ → Option ℕ) → Option ℕ → Variable → VariableValue
variable_value names registers bytes cfa v = standing_value names registers bytes (standing_of registers cfa v)

-- the value of a variable where values are asked for; where they aren't, none
abbrev pub value_listed : Names → (ℕ → ℕ) → (ℕ → Option ℕ) → Option ℕ → Bool → Variable → Option VariableValue
value_listed names registers bytes cfa with_values v = if with_values then Some (variable_value names registers bytes cfa v) else None

unfoldable pub variable_listed : Names → (ℕ → ℕ) → (ℕ → Option ℕ) → Option ℕ → Bool → Variable → ShownVariable
variable_listed names registers bytes cfa with_values v = record {
  name = v.name;
  argument = v.argument;
  value = value_listed names registers bytes cfa with_values v;
}

abbrev pub is_listed : Variable → Bool
is_listed v = v.listed

-- those of a list that are listed, in their order
unfoldable pub variables_listed : Names → (ℕ → ℕ) → (ℕ → Option ℕ) → Option ℕ → Bool → List Variable → List ShownVariable
variables_listed names registers bytes cfa with_values vs = map (variable_listed names registers bytes cfa with_values) (filter is_listed vs)

-- the list of a thread with these registers
abbrev pub variables_of : Sight → Registers → Bool → List ShownVariable
variables_of s r with_values =
    variables_listed s.sources.names (register r) (shown_byte s.image s.memory) (frame_cfa s r) with_values (variables_at s r)

abbrev pub variable_list : Sight → Option ℕ → Bool → Result Outcome Refused
variable_list s thread with_values =
    and_then (stopped s (thread_or s.selected thread)) (λ r. Ok (showing (content.Variables (variables_of s r with_values))))

-- ---- names in expressions

-- the text that stands for the variable of a name
abbrev pub text_named : Sight → Registers → List ℕ → Option (List ℕ)
text_named s r = standing (register r) (frame_cfa s r) (variables_at s r)

abbrev pub tree_as : Result Term ExprFault → Result Term Refused
tree_as (Ok tree) = Ok tree
tree_as (Err f) = Err (Hindered (Expression f))

-- the expression that a text spells with each name of a variable replaced
abbrev pub expression_in : Sight → Registers → List ℕ → Result Term Refused
expression_in s r text = tree_as (parsed_in s.sources.names (text_named s r) text)
