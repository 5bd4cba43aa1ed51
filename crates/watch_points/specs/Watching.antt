-- What a text asks to be watched: the bytes of a read whose address is constant.
use Rattle.std.specs.Prelude.{◌≡◌, ℕ, List, length, Bool, true, false, nat_lt, if◌then◌else◌, Option, Result, Ok, Err}
use Rattle.elf_symbols.specs.Names.{Names}
use Rattle.cond_expr.specs.declared.fault.FaultKind.TheVariants.{Long}
use Rattle.cond_expr.specs.declared.fault.ExprFault.{ExprFault}
use Rattle.cond_expr.specs.declared.token.Prefix.TheVariants.{Read}
use Rattle.cond_expr.specs.declared.token.ReadType.{ReadType}
use Rattle.cond_expr.specs.declared.token.ReadType.TheVariants.{Int, UnsignedInt, Short, UnsignedShort, Char, UnsignedChar}
use Rattle.cond_expr.specs.declared.evaluating.Value.TheVariants.{Word, DivZero}
use Rattle.cond_expr.specs.Term.{Term, prefix}
use Rattle.cond_expr.specs.Lex.{tokens_of}
use Rattle.cond_expr.specs.Fault.{fault, first_fault}
use Rattle.cond_expr.specs.Condition.{Tree}
use Rattle.watch_points.specs.declared.watch.Watched.{Watched}
use Rattle.watch_points.specs.declared.fault.WatchFault.{WatchFault}
use Rattle.watch_points.specs.declared.fault.WatchFault.TheVariants.{Expr, Form, Value}
use Rattle.watch_points.specs.declared.fault.WatchError.{WatchError}
use Rattle.watch_points.specs.declared.fault.WatchError.TheVariants as failures
use Rattle.watch_points.specs.Constant.{IsConstant, IsWorth}

abbrev pub size_of : ReadType → ℕ
size_of Int = 4
size_of UnsignedInt = 4
size_of Short = 2
size_of UnsignedShort = 2
size_of Char = 1
size_of UnsignedChar = 1

-- shown with a sign
abbrev pub is_signed : ReadType → Bool
is_signed Int = true
is_signed Short = true
is_signed _ = false

-- the bytes of the type at the address's value, which is the same over all registers and bytes
pub record IsReadOf (kind : ReadType) (address : Term) (w : Watched) : Type 0 where
  pub constant : IsConstant address
  pub unsigned : Bool
  pub worth : IsWorth address (Word w.address unsigned)
  pub size : w.size ≡ size_of kind
  pub signed : w.signed ≡ is_signed kind

-- a tree without its parentheses, and what it asks to be watched
abbrev pub IsWatch : Term → Watched → Type 0
IsWatch (prefix (Read kind) address) w = IsReadOf kind address w
IsWatch _ w = ⊥

-- a read whose address is constant
abbrev pub IsWatchable : Term → Type 0
IsWatchable (prefix (Read kind) address) = IsConstant address
IsWatchable _ = ⊥

-- one whose address divides by zero
abbrev pub HasNoAddress : Term → Type 0
HasNoAddress (prefix (Read kind) address) = IsConstant address × IsWorth address DivZero
HasNoAddress _ = ⊥

-- what is answered of a tree
abbrev pub Suits : Term → Result Watched WatchFault → Type 0
Suits x (Ok w) = IsWatch x w
Suits x (Err (Expr f)) = ⊥
Suits x (Err Form) = ¬ (IsWatchable x)
Suits x (Err Value) = HasNoAddress x

-- the text spells a tree of which this holds
abbrev pub SpellsTree : List ℕ → Names → (Term → Type 0) → Type 0
SpellsTree text names Holds = (x : Term) × Tree text names x × Holds x

-- why a text spells no tree, if it spells none
abbrev pub expression_fault : Names → List ℕ → Option ExprFault
expression_fault names text = if nat_lt 256 (length text) then fault Long 256 else first_fault (length text) (tokens_of names text)

-- this answer, unless memory ran out
abbrev pub Gives : Result Watched WatchError → Result Watched WatchError → Type 0
Gives (Ok w) answer = Ok w ≡ answer
Gives (Err failures.NoMemory) answer = Unit {0}
Gives (Err (failures.Fault f)) answer = Err (failures.Fault f) ≡ answer

-- the answer comes only where the fact holds, and there nothing else comes unless memory runs out
abbrev pub ExactlyWhere : Result Watched WatchError → Result Watched WatchError → Type 0 → Type 0
ExactlyWhere given answer Fact = (given ≡ answer → Fact) × (Fact → Gives given answer)
