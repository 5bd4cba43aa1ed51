-- The tree of a text, read by strengths: at each one sides of the next, whose operations group to the left (GDB manual, "Expressions"; C17, 6.5).
use Rattle.std.specs.Prelude.{ℕ, zero, suc, ◌-◌, List, [], ◌∷◌, length, drop, Option, Some, None, Result, Ok, Err, if◌then◌else◌, ◌==◌, nat_lt}
use Rattle.elf_symbols.specs.Names.{Names}
use Rattle.cond_expr.specs.declared.fault.ExprFault.{ExprFault}
use Rattle.cond_expr.specs.declared.fault.FaultKind.TheVariants.{Long}
use Rattle.cond_expr.specs.declared.token.Binary.{Binary}
use Rattle.cond_expr.specs.declared.token.Leaf.TheVariants.{Number}
use Rattle.cond_expr.specs.declared.token.Spot.{Spot}
use Rattle.cond_expr.specs.declared.token.Start.{Start}
use Rattle.cond_expr.specs.declared.token.Start.TheVariants.{Operand, Before, Opens, CutOff, Refused}
use Rattle.cond_expr.specs.declared.token.Follow.{Follow}
use Rattle.cond_expr.specs.declared.token.Follow.TheVariants.{Joins, Closes, Neither}
use Rattle.cond_expr.specs.Token.{strength, start_of, follow_of}
use Rattle.cond_expr.specs.Term.{Term, leaf, prefix, binary}
use Rattle.cond_expr.specs.Lex.{tokens_of}
use Rattle.cond_expr.specs.Fault.{first_fault}

-- a tree, and the tokens behind it
abbrev pub Read : Type 0
Read = Term × List Spot

-- tokens that have no fault never come here
abbrev pub nothing : Read
nothing = (leaf (Number 0), [])

-- what begins with a token: an operand, a prefix of the operand behind it, or a parenthesis, which closes behind what it holds
abbrev pub begun : Start → List Spot → Read → Read → Read
begun (Operand a) rest behind held = (leaf a, rest)
begun (Before op) rest behind held = (prefix op behind.0, behind.1)
begun Opens rest behind held = (held.0, drop 1 held.1)
begun (CutOff place) rest behind held = nothing
begun (Refused kind) rest behind held = nothing

-- the operation of this strength, if it is one
abbrev pub operation_of : ℕ → Follow → Option Binary
operation_of k (Joins op) = if strength op == k then Some op else None
operation_of k Closes = None
operation_of k Neither = None

-- what is made with an operation; without one it stays as it is
abbrev pub goes_on : Option Binary → (Binary → Read) → Read → Read
goes_on None more left = left
goes_on (Some op) more left = more op

-- A tree goes on by operations of one strength, each with a side behind it. The number bounds them; the count of the tokens is enough.
unfoldable pub joined : ℕ → ℕ → (List Spot → Read) → Term → List Spot → Read
joined zero k side x tokens = (x, tokens)
joined (suc n) k side x [] = (x, [])
joined (suc n) k side x (s ∷ rest) =
    goes_on (operation_of k (follow_of s.token)) (λ op. joined n k side (binary op x (side rest).0) (side rest).1) (x, s ∷ rest)

-- an expression of the strength that lies so many below an operand's, which is 11
unfoldable pub expression : ℕ → ℕ → (List Spot → Read) → List Spot → Read
expression n zero operand tokens = operand tokens
expression n (suc below) operand tokens =
    let first = expression n below operand tokens in joined n (10 - below) (expression n below operand) first.0 first.1

-- the number bounds how many prefixes and parentheses are open; the count of the tokens is enough
unfoldable pub operand : ℕ → List Spot → Read
operand zero tokens = nothing
operand (suc n) [] = nothing
operand (suc n) (s ∷ rest) = begun (start_of s.token) rest (operand n rest) (expression n 10 (operand n) rest)

-- the tree of tokens that have no fault
abbrev pub read_tree : List Spot → Term
read_tree tokens = (expression (length tokens) 10 (operand (length tokens)) tokens).0

-- unless there is a fault
abbrev pub unless : Option ExprFault → Term → Result Term ExprFault
unless None x = Ok x
unless (Some f) x = Err f

-- the tree that a text spells with the names of these symbols, or its first fault
unfoldable pub parsed : Names → List ℕ → Result Term ExprFault
parsed names text =
    if nat_lt 256 (length text) then Err (record { kind = Long; at = 256 })
    else unless (first_fault (length text) (tokens_of names text)) (read_tree (tokens_of names text))
