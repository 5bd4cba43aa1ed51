-- What each token is where an operand is wanted and behind an operand, and how strongly an operation binds (C17, 6.5.5 to 6.5.14).
use Rattle.std.specs.Prelude.{ℕ, Bool, true, false}
use Rattle.cond_expr.specs.declared.fault.FaultKind.TheVariants as kinds
use Rattle.cond_expr.specs.declared.token.Binary.{Binary}
use Rattle.cond_expr.specs.declared.token.Binary.TheVariants.{OrElse, AndThen, Or, Xor, And, Equal, NotEqual, Less, LessEqual, Greater, GreaterEqual, ShiftLeft, ShiftRight, Add, Subtract, Multiply, Divide, Remainder}
use Rattle.cond_expr.specs.declared.token.Prefix.TheVariants.{Negate, Complement, Not, Read}
use Rattle.cond_expr.specs.declared.token.Token.{Token}
use Rattle.cond_expr.specs.declared.token.Token.TheVariants.{Leaf, Large, Unknown, Operator, Tilde, Bang, Cast, Broken, Open, Close, Stray}
use Rattle.cond_expr.specs.declared.token.Start.{Start}
use Rattle.cond_expr.specs.declared.token.Start.TheVariants.{Operand, Before, Opens, CutOff, Refused}
use Rattle.cond_expr.specs.declared.token.Follow.{Follow}
use Rattle.cond_expr.specs.declared.token.Follow.TheVariants.{Joins, Closes, Neither}

-- from the weakest, 1, to the strongest, 10
abbrev pub strength : Binary → ℕ
strength OrElse = 1
strength AndThen = 2
strength Or = 3
strength Xor = 4
strength And = 5
strength Equal = 6
strength NotEqual = 6
strength Less = 7
strength LessEqual = 7
strength Greater = 7
strength GreaterEqual = 7
strength ShiftLeft = 8
strength ShiftRight = 8
strength Add = 9
strength Subtract = 9
strength Multiply = 10
strength Divide = 10
strength Remainder = 10

abbrev pub operator_start : Binary → Start
operator_start Subtract = Before Negate
operator_start _ = Refused kinds.Text

abbrev pub start_of : Token → Start
start_of (Leaf leaf) = Operand leaf
start_of Large = Refused kinds.Number
start_of Unknown = Refused kinds.Name
start_of (Operator op) = operator_start op
start_of Tilde = Before Complement
start_of Bang = Before Not
start_of (Cast kind) = Before (Read kind)
start_of (Broken place) = CutOff place
start_of Open = Opens
start_of Close = Refused kinds.Text
start_of Stray = Refused kinds.Text

abbrev pub follow_of : Token → Follow
follow_of (Operator op) = Joins op
follow_of Close = Closes
follow_of _ = Neither

-- an operand is wanted behind an operation, a prefix and an opening parenthesis
abbrev pub wants_behind : Token → Bool
wants_behind (Operator op) = true
wants_behind Tilde = true
wants_behind Bang = true
wants_behind (Cast kind) = true
wants_behind Open = true
wants_behind _ = false
