-- What is answered to a line, from what was read of it.
use Rattle.std.proofs.Common.{◌≡◌, ℕ, ◌≤◌, false, List, length, sym, ◌∙◌}
use Rattle.std.specs.Prelude.{Bool, Result, Ok, Err, IfOk}
use Rattle.mi_input.specs.declared.parts.InputFault.TheVariants.{NoMemory, Long, Syntax, Cli}
use Rattle.mi_commands.specs.Gives.{Commands, HasAnswer}
use Rattle.mi_commands.specs.declared.command.Command.{Command}
use Rattle.mi_commands.specs.declared.command.CommandLine.{CommandLine}
use Rattle.mi_commands.specs.declared.refusal.Refusal.{Refusal}
use Rattle.mi_commands.specs.declared.refusal.Refusal.TheVariants.{Input, Faulty}
use Rattle.dbg_model.specs.Sight.{Sight}
use Rattle.dbg_model.specs.Reply.{Answer, answer_to, is_wait, waits}
use Rattle.dbg_model.proofs.Replying.{reply_long, reply_malformed, reply_cli, reply_answers, wait_answers, wait_long, wait_none, wait_cli}
use Rattle.dbg_answers.specs.Reading.{AnswersRead, IsRead}

pub line_answered : (s : Sight) (line : List ℕ) (r : Result CommandLine Refusal) (a : Answer) → Commands line r → AnswersRead s r a → a ≡ answer_to s line
line_answered s line (Ok c) a h e = e ∙ sym (reply_answers s line c.token (Ok c.command) h.0 h.1)
line_answered s line (Err (Input NoMemory)) a h e = absurd e
line_answered s line (Err (Input Long)) a h e = e ∙ sym (reply_long s line h)
line_answered s line (Err (Input Syntax)) a h e = e ∙ sym (reply_malformed s line h.0 h.1 h.2)
line_answered s line (Err (Input (Cli token))) a h e = e ∙ sym (reply_cli s line token h.0 h.1 h.2)
line_answered s line (Err (Faulty token f)) a h e = e ∙ sym (reply_answers s line token (Err f) h.0 h.1)

pub if_answered : {A E : Type 0} (answer_in : A → Answer) (s : Sight) (line : List ℕ) (r : Result CommandLine Refusal) (a : Result A E)
    → Commands line r → IfOk a (λ x. AnswersRead s r (answer_in x)) → IfOk a (λ x. answer_in x ≡ answer_to s line)
if_answered answer_in s line r (Ok x) h e = line_answered s line r (answer_in x) h e
if_answered answer_in s line r (Err x) h e = e

pub refused_waits : (line : List ℕ) (f : Refusal) → Commands line (Err f) → IsRead (Err f) → false ≡ is_wait line
refused_waits line (Input NoMemory) h e = absurd e
refused_waits line (Input Long) h e = sym (wait_long line h)
refused_waits line (Input Syntax) h e = sym (wait_none line h.0 h.1)
refused_waits line (Input (Cli token)) h e = sym (wait_cli line h.0 h.1)
refused_waits line (Faulty token f) h e = sym (wait_answers line token (Err f) h.0 h.1)

pub command_waits : (line token : List ℕ) (c : Command) (b : Bool) → (length line ≤ 4096) × HasAnswer line token (Ok c) → b ≡ waits (Ok c) → b ≡ is_wait line
command_waits line token c b h e = e ∙ sym (wait_answers line token (Ok c) h.0 h.1)
