-- The answer to a line, from what reading it gives.
use Rattle.std.proofs.Common.{◌≡◌, ◌<◌, ◌≤◌, ℕ, true, false, List, [], length, refl, arith, nat_lt}
use Rattle.std.specs.Prelude.{Option, Some, None, Result, Err}
use Rattle.std.proofs.lemmas.Bool.Decides.{nat_tests}
use Rattle.mi_input.specs.Parts.{PartsView, is_cli, after_blanks, token_of}
use Rattle.mi_input.specs.Split.{HasNoParts}
use Rattle.mi_input.specs.Reading.{parts_read}
use Rattle.mi_input.proofs.Reading.{parts_sound, parts_complete, no_cli}
use Rattle.mi_commands.specs.Gives.{HasAnswer}
use Rattle.mi_commands.specs.declared.command.Command.{Command}
use Rattle.mi_commands.specs.declared.refusal.Fault.{Fault}
use Rattle.dbg_model.specs.declared.reply.Refused.TheVariants as refused
use Rattle.dbg_model.specs.Sight.{Sight}
use Rattle.dbg_model.specs.Command.{asked_reply}
use Rattle.dbg_model.specs.Reply.{answer_to, answering, is_wait, waits}

short : (line : List ℕ) → length line ≤ 4096 → nat_lt 4096 (length line) ≡ false
short line le = grind (arith, nat_tests)

long : (line : List ℕ) → 4096 < length line → nat_lt 4096 (length line) ≡ true
long line lt = grind (arith, nat_tests)

none_read : (line : List ℕ) (r : Option PartsView) → parts_read line ≡ r → HasNoParts line → parts_read line ≡ None
none_read line None is no_parts = is
none_read line (Some p) is no_parts = absurd (no_parts p (parts_sound line p is))

pub reply_long : (s : Sight) (line : List ℕ) → 4096 < length line → answer_to s line ≡ answering [] (Err refused.Long)
unfolding answer_to
reply_long s line lt = rw (long line lt) refl

pub reply_malformed : (s : Sight) (line : List ℕ) → length line ≤ 4096 → HasNoParts line → is_cli (after_blanks line) ≡ false → answer_to s line ≡ answering [] (Err refused.Syntax)
unfolding answer_to
reply_malformed s line le no_parts cli = rw (short line le, none_read line (parts_read line) refl no_parts, cli) refl

cli_none : (line : List ℕ) → is_cli (after_blanks line) ≡ true → HasNoParts line
cli_none line cli = λ p h. no_cli line p cli h

pub reply_cli : (s : Sight) (line token : List ℕ) → length line ≤ 4096 → is_cli (after_blanks line) ≡ true → token ≡ token_of (after_blanks line) → answer_to s line ≡ answering token (Err refused.Cli)
unfolding answer_to
reply_cli s line token le cli is = rw (short line le, none_read line (parts_read line) refl (cli_none line cli), cli, is) refl

pub reply_answers : (s : Sight) (line token : List ℕ) (a : Result Command Fault) → length line ≤ 4096 → HasAnswer line token a → answer_to s line ≡ answering token (asked_reply s a)
unfolding answer_to
reply_answers s line token a le h = rw (short line le, parts_complete line h.parts h.are_parts, h.token_is, h.answer_is) refl

pub wait_answers : (line token : List ℕ) (a : Result Command Fault) → length line ≤ 4096 → HasAnswer line token a → is_wait line ≡ waits a
unfolding is_wait
wait_answers line token a le h = rw (short line le, parts_complete line h.parts h.are_parts, h.answer_is) refl

pub wait_long : (line : List ℕ) → 4096 < length line → is_wait line ≡ false
unfolding is_wait
wait_long line lt = rw (long line lt) refl

pub wait_none : (line : List ℕ) → length line ≤ 4096 → HasNoParts line → is_wait line ≡ false
unfolding is_wait
wait_none line le no_parts = rw (short line le, none_read line (parts_read line) refl no_parts) refl

pub wait_cli : (line : List ℕ) → length line ≤ 4096 → is_cli (after_blanks line) ≡ true → is_wait line ≡ false
wait_cli line le cli = wait_none line le (cli_none line cli)
