-- What is answered to commands on breakpoints, and what they change (GDB manual, "GDB/MI Breakpoint Commands").
use Rattle.std.specs.Prelude.{ℕ, ◌+◌, ◌||◌, Bool, not, List, [], ◌∷◌, length, map, Option, Some, None, Result, Ok, Err, is_some, if◌then◌else◌, nat_lt}
use Rattle.std.specs.Option.{option_map}
use Rattle.elf32_read.specs.Program.{text_word}
use Rattle.elf_symbols.specs.Names.{Names, Symbol}
use Rattle.elf_symbols.specs.Names as symbols
use Rattle.line_index.specs.Lines as tables
use Rattle.dbg_model.specs.Sources.{Sources}
use Rattle.cond_expr.specs.declared.fault.ExprFault.{ExprFault}
use Rattle.cond_expr.specs.Term.{Term}
use Rattle.break_table.specs.Entry.{Asked, Condition, Entry, new_entry}
use Rattle.break_table.specs.Table.{has_number}
use Rattle.mi_commands.specs.declared.command.Insertion.{Insertion}
use Rattle.mi_commands.specs.declared.command.Location.{Location}
use Rattle.mi_commands.specs.declared.command.Location.TheVariants as location
use Rattle.dbg_model.specs.declared.breakpoint.Breakpoint.{Breakpoint}
use Rattle.dbg_model.specs.declared.row.Row.{Row}
use Rattle.dbg_model.specs.declared.row.Row.TheVariants as row
use Rattle.watch_points.specs.declared.watchpoint.Watch.{Watch}
use Rattle.dbg_model.specs.declared.reply.Content.TheVariants as content
use Rattle.dbg_model.specs.declared.reply.Obstacle.{Obstacle}
use Rattle.dbg_model.specs.declared.reply.Obstacle.TheVariants.{UnknownThread, NoBreakpoint, NoInstruction, TooManyBreakpoints, Expression}
use Rattle.dbg_model.specs.declared.reply.Refused.{Refused}
use Rattle.dbg_model.specs.declared.reply.Refused.TheVariants.{Hindered, UnknownName, UnknownLine}
use Rattle.dbg_model.specs.Breaks.{missing_number}
use Rattle.watch_points.specs.Watches.{has_watch}
use Rattle.cond_expr.specs.Reader.{parsed}
use Rattle.dbg_model.specs.Limits.{breakpoints}
use Rattle.dbg_model.specs.Sight.{Sight, thread_at}
use Rattle.dbg_model.specs.Places.{function_name, source_line}
use Rattle.dbg_model.specs.Outcome.{Change, Outcome, and_then, conditions, deletes, doing, enables, ignores, inserts, showing}

-- this has to hold, or else that stands against it
abbrev pub ensured : Bool → Obstacle → Result Unit Refused
ensured b o = if b then Ok tt else Err (Hindered o)

-- ---- breakpoints and watches as they are listed

abbrev pub condition_text : Condition → List ℕ
condition_text c = c.text

abbrev pub listed : Sources → Entry → Breakpoint
listed sources e = record {
  number = e.number;
  address = e.address;
  function = function_name sources e.address;
  source = source_line sources e.address;
  location = e.location;
  temporary = e.temporary;
  enabled = e.enabled;
  ignore = e.ignore;
  condition = option_map condition_text e.condition;
  thread = e.thread;
  times = e.times;
}

abbrev pub breakpoint_row : Sources → Entry → Row
breakpoint_row sources e = row.Breakpoint (listed sources e)

abbrev pub row_number : Row → ℕ
row_number (row.Breakpoint b) = b.number
row_number (row.Watch w) = w.number

-- a row stands before the first one that hasn't a lesser number
abbrev pub with_row : Row → List Row → List Row
with_row r [] = r ∷ []
with_row r (x ∷ xs) = if nat_lt (row_number x) (row_number r) then x ∷ with_row r xs else r ∷ x ∷ xs

-- watches stand by their numbers among the others
abbrev pub with_watches : List Watch → List Row → List Row
with_watches [] xs = xs
with_watches (w ∷ ws) xs = with_watches ws (with_row (row.Watch w) xs)

abbrev pub rows : Sight → List Row
rows s = with_watches s.watches (map (breakpoint_row s.sources) s.breaks)

abbrev pub list : Sight → Result Outcome Refused
list s = Ok (showing (content.Breakpoints (rows s)))

-- ---- breakpoints that have to be there

abbrev pub none_missing : Option ℕ → Result Unit Refused
none_missing None = Ok tt
none_missing (Some number) = Err (Hindered (NoBreakpoint number))

-- each of the numbers has to be a breakpoint's
abbrev pub known : Sight → List ℕ → Result Unit Refused
known s numbers = none_missing (missing_number s.breaks numbers)

abbrev pub of_known : Sight → List ℕ → Change → Result Outcome Refused
of_known s numbers c = and_then (known s numbers) (λ u. Ok (doing c))

-- the first of the numbers that neither a breakpoint nor a watch has
abbrev pub missing_of : List Entry → List Watch → List ℕ → Option ℕ
missing_of es ws [] = None
missing_of es ws (n ∷ ns) = if has_number n es || has_watch n ws then missing_of es ws ns else Some n

-- each of the numbers has to be a breakpoint's or a watch's
abbrev pub known_either : Sight → List ℕ → Result Unit Refused
known_either s numbers = none_missing (missing_of s.breaks s.watches numbers)

abbrev pub of_either : Sight → List ℕ → Change → Result Outcome Refused
of_either s numbers c = and_then (known_either s numbers) (λ u. Ok (doing c))

abbrev pub delete : Sight → List ℕ → Result Outcome Refused
delete s numbers = of_either s numbers (deletes numbers)

abbrev pub enable : Sight → Bool → List ℕ → Result Outcome Refused
enable s enabled numbers = of_either s numbers (enables enabled numbers)

abbrev pub after : Sight → ℕ → ℕ → Result Outcome Refused
after s number count = of_known s (number ∷ []) (ignores number count)

-- ---- conditions

abbrev pub expression_as : List ℕ → Result Term ExprFault → Result Condition Refused
expression_as text (Ok tree) = Ok (record { text = text; tree = tree })
expression_as text (Err f) = Err (Hindered (Expression f))

-- the expression that a text spells
abbrev pub expression : Names → List ℕ → Result Condition Refused
expression names text = expression_as text (parsed names text)

-- the condition that a text spells, if there is one
abbrev pub condition : Names → Option (List ℕ) → Result (Option Condition) Refused
condition names None = Ok None
condition names (Some text) = and_then (expression names text) (λ c. Ok (Some c))

abbrev pub change_condition : Sight → ℕ → Option (List ℕ) → Result Outcome Refused
change_condition s number text =
    and_then (known s (number ∷ [])) (λ u.
    and_then (condition s.sources.names text) (λ c.
    Ok (doing (conditions number c))))

-- ---- a new breakpoint

-- a thread that is named has to be there
abbrev pub known_thread : Sight → Option ℕ → Result Unit Refused
known_thread s None = Ok tt
known_thread s (Some thread) = ensured (is_some (thread_at s.threads thread)) (UnknownThread thread)

-- a function gives its body, another symbol its address
abbrev pub named : Sources → List ℕ → Option Symbol → Result ℕ Refused
named sources name None = Err (UnknownName name)
named sources name (Some s) = Ok (if s.is_function then tables.body_of sources.lines s else s.address)

abbrev pub on_line : List ℕ → ℕ → Option ℕ → Result ℕ Refused
on_line file line None = Err (UnknownLine file line)
on_line file line (Some addr) = Ok addr

-- where a location leads
abbrev pub place : Sources → Location → Result ℕ Refused
place sources (location.Address addr) = Ok addr
place sources (location.Name name) = named sources name (symbols.address_of sources.names name)
place sources (location.Line file line) = on_line file line (tables.address_of sources.lines file line)

-- a word of text has to be there
abbrev pub placed : Sight → ℕ → Result Unit Refused
placed s addr = ensured (is_some (text_word s.image addr)) (NoInstruction addr)

-- there has to be room for one more
abbrev pub room : Sight → Result Unit Refused
room s = ensured (nat_lt (length s.breaks) breakpoints) TooManyBreakpoints

-- the breakpoint that is asked for at an address
abbrev pub asked_at : ℕ → Insertion → Option Condition → Asked
asked_at addr i c = record { address = addr; location = i.text; temporary = i.temporary; enabled = not i.disabled; ignore = i.ignore; condition = c; thread = i.thread }

abbrev pub inserting : Sight → Asked → Outcome
inserting s a = record { content = content.Inserted (listed s.sources (new_entry (s.given + 1) a)); change = inserts a }

abbrev pub insert : Sight → Insertion → Result Outcome Refused
insert s i =
    and_then (known_thread s i.thread) (λ u.
    and_then (place s.sources i.location) (λ addr.
    and_then (placed s addr) (λ u.
    and_then (room s) (λ u.
    and_then (condition s.sources.names i.condition) (λ c.
    Ok (inserting s (asked_at addr i c)))))))
