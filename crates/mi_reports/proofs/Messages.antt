-- Messages are of bytes, where the texts that they quote are.
use Rattle.std.specs.Prelude.{decimal}
use Rattle.std.proofs.Common.{◌≡◌, ℕ, List, [], ◌∷◌, ◌++◌, true, refl}
use Rattle.cond_expr.specs.declared.fault.FaultKind.{FaultKind}
use Rattle.cond_expr.specs.declared.fault.FaultKind.TheVariants as kind
use Rattle.break_table.specs.declared.due.CondError.{CondError}
use Rattle.break_table.specs.declared.due.CondError.TheVariants.{DivZero, Unread}
use Rattle.elf_checks.specs.declared.fault.ElfFault.{ElfFault}
use Rattle.elf_checks.specs.declared.fault.ElfKind.{ElfKind}
use Rattle.elf_checks.specs.declared.fault.ElfKind.TheVariants as elf
use Rattle.mi_commands.specs.declared.refusal.Fault.{Fault}
use Rattle.mi_commands.specs.declared.refusal.Fault.TheVariants as fault
use Rattle.dbg_model.specs.declared.reply.Obstacle.{Obstacle}
use Rattle.dbg_model.specs.declared.reply.Obstacle.TheVariants as obstacle
use Rattle.dbg_model.specs.declared.reply.Refused.{Refused}
use Rattle.dbg_model.specs.declared.reply.Refused.TheVariants as refused
use Rattle.mi_text.specs.Numeral.{address_text}
use Rattle.mi_values.specs.Testing.{are_bytes}
use Rattle.mi_reports.specs.declared.words.Phrase.{Phrase}
use Rattle.mi_reports.specs.declared.words.Phrase.TheVariants as phrase
use Rattle.mi_reports.specs.Phrases.{phrase_text}
use Rattle.mi_reports.specs.Fits.{faulty, quoted}
use Rattle.mi_reports.specs.Errors.{fault_message, expression_message, obstacle_message, message, condition_error, condition_message}
use Rattle.mi_reports.specs.Refusals.{kind_name}
use Rattle.mi_reports.proofs.Bytes.{decimal_bytes, address_bytes, joined_bytes}
use Rattle.mi_reports.proofs.Names.{phrase_bytes}

-- a fixed text, and what stands behind it
behind : (p : Phrase) (t : List ℕ) → are_bytes t ≡ true → are_bytes (phrase_text p ++ t) ≡ true
behind p t h = joined_bytes (phrase_text p) t (phrase_bytes p) h

counted : (p : Phrase) (n : ℕ) → are_bytes (phrase_text p ++ decimal n) ≡ true
counted p n = behind p (decimal n) (decimal_bytes n)

at : (p : Phrase) (addr : ℕ) → are_bytes (phrase_text p ++ address_text addr) ≡ true
at p addr = behind p (address_text addr) (address_bytes addr)

-- a text before a fixed one
before : (t : List ℕ) (p : Phrase) → are_bytes t ≡ true → are_bytes (t ++ phrase_text p) ≡ true
before t p h = joined_bytes t (phrase_text p) h (phrase_bytes p)

told : (t : ℕ) (p : Phrase) → are_bytes (phrase_text phrase.Thread ++ decimal t ++ phrase_text p) ≡ true
told t p = before (phrase_text phrase.Thread ++ decimal t) p (counted phrase.Thread t)

fault_bytes : (f : Fault) → are_bytes (faulty f) ≡ true → are_bytes (fault_message f) ≡ true
fault_bytes (fault.Undefined name) h = behind phrase.Undefined name h
fault_bytes (fault.Parameters name) h = behind phrase.Parameters name h
fault_bytes (fault.Number word) h = behind phrase.BadNumber word h
fault_bytes fault.Setting h = phrase_bytes phrase.Setting
fault_bytes (fault.Location word thread) h = behind phrase.BadLocation word h

expression_bytes : (k : FaultKind) (n : ℕ) → are_bytes (expression_message k n) ≡ true
expression_bytes kind.Long n = phrase_bytes phrase.LongExpression
expression_bytes kind.Text n = counted phrase.ExpressionSyntax n
expression_bytes kind.Number n = counted phrase.ExpressionNumber n
expression_bytes kind.Deep n = counted phrase.ExpressionDeep n
expression_bytes kind.Name n = counted phrase.ExpressionName n

obstacle_bytes : (o : Obstacle) → are_bytes (obstacle_message o) ≡ true
obstacle_bytes (obstacle.UnknownThread t) = counted phrase.UnknownThread t
obstacle_bytes (obstacle.HasExited t) = told t phrase.HasExited
obstacle_bytes (obstacle.IsRunning t) = told t phrase.IsRunning
obstacle_bytes (obstacle.NotRunning t) = told t phrase.NotRunning
obstacle_bytes (obstacle.NoBreakpoint n) = counted phrase.NoBreakpoint n
obstacle_bytes (obstacle.NoInstruction addr) = at phrase.NoInstruction addr
obstacle_bytes obstacle.TooManyBreakpoints = phrase_bytes phrase.TooManyBreakpoints
obstacle_bytes (obstacle.Expression f) = expression_bytes f.kind f.at
obstacle_bytes obstacle.DivisionByZero = phrase_bytes phrase.DivisionByZero
obstacle_bytes (obstacle.Unreadable addr) = at phrase.Unreadable addr
obstacle_bytes (obstacle.NoLine addr) = at phrase.NoLineInformation addr
obstacle_bytes obstacle.NoCaller = phrase_bytes phrase.NoCaller
obstacle_bytes (obstacle.Unwritable addr) = at phrase.Unwritable addr
obstacle_bytes obstacle.TooManyWatches = phrase_bytes phrase.TooManyWatches

pub message_bytes : (r : Refused) → are_bytes (quoted r) ≡ true → are_bytes (message r) ≡ true
message_bytes refused.Long h = phrase_bytes phrase.LongLine
message_bytes refused.Syntax h = phrase_bytes phrase.Syntax
message_bytes refused.Cli h = phrase_bytes phrase.Cli
message_bytes (refused.Faulty f) h = fault_bytes f h
message_bytes (refused.Hindered o) h = obstacle_bytes o
message_bytes (refused.UnknownName name) h = before (phrase_text phrase.Function ++ name) phrase.NotDefined (behind phrase.Function name h)
message_bytes (refused.UnknownLine file line) h =
    joined_bytes (phrase_text phrase.NoLine ++ decimal line ++ phrase_text phrase.InFile) file (before (phrase_text phrase.NoLine ++ decimal line) phrase.InFile (counted phrase.NoLine line)) h
message_bytes (refused.FixedRegister name) h = behind phrase.FixedRegister name h
message_bytes (refused.Unwatchable expression) h = behind phrase.CannotWatch expression h

error_bytes : (e : CondError) → are_bytes (condition_error e) ≡ true
error_bytes DivZero = phrase_bytes phrase.DivisionByZero
error_bytes (Unread addr) = at phrase.Unreadable addr

pub condition_bytes : (number : ℕ) (e : CondError) → are_bytes (condition_message number e) ≡ true
unfolding condition_message
condition_bytes number e =
    let front = before (phrase_text phrase.ConditionError ++ decimal number) phrase.Colon (counted phrase.ConditionError number) in
    let error = joined_bytes (phrase_text phrase.ConditionError ++ decimal number ++ phrase_text phrase.Colon) (condition_error e) front (error_bytes e) in
    joined_bytes (phrase_text phrase.ConditionError ++ decimal number ++ phrase_text phrase.Colon ++ condition_error e) (10 ∷ []) error refl

kind_bytes : (k : ElfKind) → are_bytes (kind_name k) ≡ true
kind_bytes elf.Short = refl
kind_bytes k = refl

pub file_bytes : (f : ElfFault) → are_bytes (phrase_text phrase.BadFile ++ kind_name f.kind ++ phrase_text phrase.AtPlace ++ decimal f.place) ≡ true
file_bytes f =
    let kind = phrase_text phrase.BadFile ++ kind_name f.kind in
    let place = before kind phrase.AtPlace (behind phrase.BadFile (kind_name f.kind) (kind_bytes f.kind)) in
    joined_bytes (kind ++ phrase_text phrase.AtPlace) (decimal f.place) place (decimal_bytes f.place)
