-- What reading a line gives: this project's own.
use Rattle.std.specs.Prelude.{◌≡◌, ◌≤◌, ℕ, List, length, Result, Ok, Err}
use Rattle.mi_input.specs.Parts.{PartsView, HasParts}
use Rattle.mi_input.specs.Split.{Splits, GivesParts}
use Rattle.mi_commands.specs.declared.command.Command.{Command}
use Rattle.mi_commands.specs.declared.command.CommandLine.{CommandLine}
use Rattle.mi_commands.specs.declared.refusal.Fault.{Fault}
use Rattle.mi_commands.specs.declared.refusal.Failure.{Failure}
use Rattle.mi_commands.specs.declared.refusal.Failure.TheVariants as failure
use Rattle.mi_commands.specs.declared.refusal.Refusal.{Refusal}
use Rattle.mi_commands.specs.declared.refusal.Refusal.TheVariants.{Input, Faulty}
use Rattle.mi_commands.specs.Commands.{answer}

-- the answer, unless out of memory
abbrev pub Answers : Result Command Failure → Result Command Fault → Type 0
Answers (Ok c) a = a ≡ Ok c
Answers (Err failure.NoMemory) a = Unit {0}
Answers (Err (failure.Faulty f)) a = a ≡ Err f

-- a line of these parts has this token and this answer
pub record HasAnswer (bytes token : List ℕ) (a : Result Command Fault) : Type 0 where
  pub parts : PartsView
  pub are_parts : HasParts bytes parts
  pub token_is : token ≡ parts.token
  pub answer_is : a ≡ answer parts

-- What a line is: why it has no parts, else what its parts ask for.
abbrev pub Commands : List ℕ → Result CommandLine Refusal → Type 0
Commands bytes (Ok c) = (length bytes ≤ 4096) × HasAnswer bytes c.token (Ok c.command)
Commands bytes (Err (Input f)) = Splits bytes (Err f)
Commands bytes (Err (Faulty token f)) = (length bytes ≤ 4096) × HasAnswer bytes token (Err f)

-- a line of these parts gives its token and the answer to them, unless out of memory
abbrev pub GivesAnswer : PartsView → Result CommandLine Refusal → Type 0
GivesAnswer p (Ok c) = (c.token ≡ p.token) × (answer p ≡ Ok c.command)
GivesAnswer p (Err (Input f)) = GivesParts p (Err f)
GivesAnswer p (Err (Faulty token f)) = (token ≡ p.token) × (answer p ≡ Err f)
