-- The watch that a text spells, or why it spells none: over the tree that its text has.
use Rattle.std.specs.Prelude.{◌≡◌, ℕ, List, None, Result, Ok, Err, if◌then◌else◌}
use Rattle.elf_symbols.specs.Names.{Names}
use Rattle.cond_expr.specs.declared.fault.ExprFault.{ExprFault}
use Rattle.cond_expr.specs.declared.token.Prefix.TheVariants.{Read}
use Rattle.cond_expr.specs.declared.token.ReadType.{ReadType}
use Rattle.cond_expr.specs.declared.evaluating.Value.{Value as Worth}
use Rattle.cond_expr.specs.declared.evaluating.Value.TheVariants.{Word, DivZero, Unread}
use Rattle.cond_expr.specs.Term.{Term, prefix}
use Rattle.cond_expr.specs.Value.{value_of}
use Rattle.cond_expr.specs.Reader.{parsed}
use Rattle.watch_points.specs.declared.watch.Watched.{Watched}
use Rattle.watch_points.specs.declared.fault.WatchFault.{WatchFault}
use Rattle.watch_points.specs.declared.fault.WatchFault.TheVariants.{Expr, Form, Value}
use Rattle.watch_points.specs.declared.fault.WatchError.{WatchError}
use Rattle.watch_points.specs.declared.fault.WatchError.TheVariants as failures
use Rattle.watch_points.specs.Constant.{is_constant}
use Rattle.watch_points.specs.Watching.{size_of, is_signed}

-- the bytes of a type at an address of this value; a constant address is never one that can't be read
abbrev pub bytes_of : ReadType → Worth → Result Watched WatchFault
bytes_of kind (Word address unsigned) = Ok (record { address = address; size = size_of kind; signed = is_signed kind })
bytes_of kind DivZero = Err Value
bytes_of kind (Unread addr) = Err Value

-- of a tree without its parentheses; the value of a constant needs neither registers nor bytes
abbrev pub tree_watched : Term → Result Watched WatchFault
tree_watched (prefix (Read kind) address) = if is_constant address then bytes_of kind (value_of (λ n. 0) (λ addr. None) address) else Err Form
tree_watched _ = Err Form

abbrev pub read_watched : Result Term ExprFault → Result Watched WatchFault
read_watched (Ok x) = tree_watched x
read_watched (Err f) = Err (Expr f)

-- what a text asks to be watched with the names of these symbols, or why it can't be
unfoldable pub watching : Names → List ℕ → Result Watched WatchFault
watching names text = read_watched (parsed names text)

-- it is this, unless memory runs out
abbrev pub GivesWatch : Result Watched WatchError → Result Watched WatchFault → Type 0
GivesWatch (Ok w) r = r ≡ Ok w
GivesWatch (Err failures.NoMemory) r = Unit {0}
GivesWatch (Err (failures.Fault f)) r = r ≡ Err f
