-- A register that a command sets: `$NAME=VALUE` (GDB manual, "Registers"; "Assignment to Variables"). The registers' names
-- are those of expressions.
use Rattle.std.specs.Prelude.{ℕ, ◌+◌, List, [], ◌∷◌, take, drop, ◌==◌, Option, Some, None, is_some, unwrap_or, if◌then◌else◌}
use Rattle.std.specs.List.{position}
use Rattle.mi_input.specs.Parts.{WordView}
use Rattle.mi_commands.specs.declared.operation.Operation.{Operation}
use Rattle.mi_commands.specs.declared.operation.Operation.TheVariants as op

pub record Assignment : Type 0 where
  pub name : List ℕ
  pub value : List ℕ

-- the place of the first `=`
abbrev pub first_equals : List ℕ → Option ℕ
first_equals bytes = position (λ b. b == 61) bytes

abbrev pub cut : List ℕ → Option ℕ → Option Assignment
cut bytes None = None
cut bytes (Some k) = Some (record { name = take k bytes; value = drop (k + 1) bytes })

-- `$NAME=VALUE`, cut at the first `=`
abbrev pub assignment_of : List ℕ → Option Assignment
assignment_of [] = None
assignment_of (b ∷ bytes) = if b == 36 then cut bytes (first_equals bytes) else None

-- the same of a word that is of this form
abbrev pub assignment : List ℕ → Assignment
assignment word = unwrap_or (assignment_of word) (record { name = []; value = [] })

-- the operation with these parameters: `-gdb-set` with the one word `$NAME=VALUE` sets a register, and else a setting
abbrev pub form : Operation → List WordView → Operation
form op.Set (w ∷ []) = if is_some (assignment_of w.0) then op.SetRegister else op.Set
form o ps = o
