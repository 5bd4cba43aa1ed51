-- The first token that can't stand where it stands, by what is open there: a fault is at that token, or at the end of the text
-- where something is still wanted. Strengths play no part, since no strength makes a token faulty. That a text has no fault
-- exactly where it is a tree of the grammar is a law of the code, `accepted_is_tree`.
use Rattle.std.specs.Prelude.{◌≡◌, ℕ, ◌+◌, List, [], ◌∷◌, Option, Some, None, Result, Ok, Err, nat_lt, if◌then◌else◌}
use Rattle.cond_expr.specs.declared.fault.FaultKind.{FaultKind}
use Rattle.cond_expr.specs.declared.fault.FaultKind.TheVariants.{Text, Deep}
use Rattle.cond_expr.specs.declared.fault.ExprFault.{ExprFault}
use Rattle.cond_expr.specs.declared.fault.ParseError.{ParseError}
use Rattle.cond_expr.specs.declared.fault.ParseError.TheVariants as failures
use Rattle.cond_expr.specs.declared.token.Spot.{Spot}
use Rattle.cond_expr.specs.declared.token.Start.{Start}
use Rattle.cond_expr.specs.declared.token.Start.TheVariants.{Operand, Before, Opens, CutOff, Refused}
use Rattle.cond_expr.specs.declared.token.Follow.{Follow}
use Rattle.cond_expr.specs.declared.token.Follow.TheVariants.{Joins, Closes, Neither}
use Rattle.cond_expr.specs.Token.{start_of, follow_of}
use Rattle.cond_expr.specs.Grammar.{max_open}

abbrev pub fault : FaultKind → ℕ → Option ExprFault
fault kind at = Some (record { kind = kind; at = at })

-- the scan goes on, if one more may be open
abbrev pub if_room : ℕ → ℕ → Option ExprFault → Option ExprFault
if_room at depth more = if nat_lt depth max_open then more else fault Deep at

-- where an operand is wanted: what comes behind an operand, behind a prefix, behind a parenthesis
abbrev pub begin : ℕ → ℕ → Start → Option ExprFault → Option ExprFault → Option ExprFault → Option ExprFault
begin at depth (Operand a) behind nested within = behind
begin at depth (Before op) behind nested within = if_room at depth nested
begin at depth Opens behind nested within = if_room at depth within
begin at depth (CutOff place) behind nested within = if_room at depth (fault Text place)
begin at depth (Refused kind) behind nested within = fault kind at

-- behind an operand: what comes behind an operation, behind a parenthesis that closes
abbrev pub go_on : ℕ → Follow → Option ExprFault → Option ExprFault → Option ExprFault
go_on at (Joins op) operand closed = operand
go_on at Closes operand closed = closed
go_on at Neither operand closed = fault Text at

-- `outer` are open around the operand and `depth` before it; `parens` has for each parenthesis what was open around the operand that it begins
unfoldable mutual
  pub wanting : ℕ → List ℕ → ℕ → ℕ → List Spot → Option ExprFault
  wanting end parens outer depth [] = fault Text end
  wanting end parens outer depth (s ∷ rest) =
      begin s.at depth (start_of s.token) (behind end parens outer rest) (wanting end parens outer (depth + 1) rest) (wanting end (outer ∷ parens) (depth + 1) (depth + 1) rest)

  pub behind : ℕ → List ℕ → ℕ → List Spot → Option ExprFault
  behind end [] outer [] = None
  behind end (before ∷ parens) outer [] = fault Text end
  behind end [] outer (s ∷ rest) = go_on s.at (follow_of s.token) (wanting end [] outer outer rest) (fault Text s.at)
  behind end (before ∷ parens) outer (s ∷ rest) =
      go_on s.at (follow_of s.token) (wanting end (before ∷ parens) outer outer rest) (behind end parens before rest)

-- the first fault of the tokens, if there is one
abbrev pub first_fault : ℕ → List Spot → Option ExprFault
first_fault end tokens = wanting end [] 0 0 tokens

-- A reader that fails meets the fault that comes before it; one that goes on leaves the fault to what is behind it.
abbrev pub Meets : {X : Type 0} → Result X ParseError → Option ExprFault → (X → Option ExprFault) → Type 0
Meets (Ok x) before after = before ≡ after x
Meets (Err failures.NoMemory) before after = Unit {0}
Meets (Err (failures.Fault f)) before after = before ≡ Some f

-- No fault comes where the text was read, and where it wasn't, the fault is the first one, unless memory ran out.
abbrev pub MeetsFault : {X : Type 0} → Result X ParseError → Option ExprFault → Type 0
MeetsFault (Ok x) first = first ≡ None
MeetsFault (Err failures.NoMemory) first = Unit {0}
MeetsFault (Err (failures.Fault f)) first = first ≡ Some f
