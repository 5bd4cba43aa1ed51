-- The expression that a text with its names replaced spells. This project's own.
use Rattle.std.specs.Prelude.{◌≡◌, ℕ, ◌||◌, nat_lt, List, length, Option, Result, Ok, Err, if◌then◌else◌}
use Rattle.elf_symbols.specs.Names.{Names}
use Rattle.cond_expr.specs.Condition.{tree_of}
use Rattle.cond_expr.specs.Reader.{parsed}
use Rattle.cond_expr.specs.Term.{Term}
use Rattle.cond_expr.specs.declared.expr.Expr.{Expr}
use Rattle.cond_expr.specs.declared.fault.ExprFault.{ExprFault}
use Rattle.cond_expr.specs.declared.fault.FaultKind.TheVariants.{Long}
use Rattle.cond_expr.specs.declared.fault.ParseError.{ParseError}
use Rattle.cond_expr.specs.declared.fault.ParseError.TheVariants as failures
use Rattle.var_expr.specs.Expanded.{expanded_text, places}
use Rattle.var_expr.specs.Places.{place_of}
use Rattle.var_expr.specs.declared.expanded.Replaced.{Replaced}

abbrev pub too_long : ExprFault
too_long = record { kind = Long; at = 256 }

-- a fault of the new text, at its place in the given one
abbrev pub moved_back : ℕ → List Replaced → ExprFault → ExprFault
moved_back given_length names f = record { kind = f.kind; at = place_of given_length names f.at }

abbrev pub read_back : ℕ → List Replaced → Result Term ExprFault → Result Term ExprFault
read_back given_length names (Ok x) = Ok x
read_back given_length names (Err f) = Err (moved_back given_length names f)

-- by the given text's length, the names that were replaced in it and the new text, of which neither may be too long
abbrev pub parsed_by : Names → ℕ → List Replaced → List ℕ → Result Term ExprFault
parsed_by symbols given_length names new =
    if nat_lt 256 given_length || nat_lt 256 (length new) then Err too_long else read_back given_length names (parsed symbols new)

-- what a text spells with each name replaced by what stands for it, or its first fault
abbrev pub parsed_in : Names → (List ℕ → Option (List ℕ)) → List ℕ → Result Term ExprFault
parsed_in symbols standing text = parsed_by symbols (length text) (places standing text) (expanded_text standing text)

-- what stands for names plays no part in what a text spells
abbrev pub IsWithoutNames : List ℕ → Type 0
IsWithoutNames text = (symbols : Names) (some other : List ℕ → Option (List ℕ)) → parsed_in symbols some text ≡ parsed_in symbols other text

-- it is this, unless memory runs out
abbrev pub GivesParsed : Result Expr ParseError → Result Term ExprFault → Type 0
GivesParsed (Ok e) want = want ≡ Ok (tree_of e)
GivesParsed (Err failures.NoMemory) want = Unit {0}
GivesParsed (Err (failures.Fault f)) want = want ≡ Err f
