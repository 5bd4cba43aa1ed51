-- Of all that stands against a line the least number is answered.
use Rattle.std.proofs.Common.{◌≡◌, ℕ, ◌+◌, ◌<◌, ◌≤◌, List, [], ◌∷◌, ◌++◌, cond, refl, ap, arith}
use Rattle.std.specs.Prelude.{Bool, true, false, not, Option, Some, None, is_some, Result, Ok, Err, IfOk, length, nat_lt}
use Rattle.std.specs.Option.{ok_or, option_map}
use Rattle.std.proofs.lemmas.List.Elements.{All-nil, All-cons}
use Rattle.mi_input.specs.Parts.{PartsView, WordView, is_cli, after_blanks}
use Rattle.mi_input.specs.Reading.{parts_read}
use Rattle.mi_commands.specs.declared.command.Command.{Command}
use Rattle.mi_commands.specs.declared.operation.Operation.{Operation}
use Rattle.mi_commands.specs.declared.operation.Operation.TheVariants as op
use Rattle.mi_commands.specs.declared.refusal.Fault.{Fault}
use Rattle.mi_commands.specs.declared.refusal.Fault.TheVariants as fault
use Rattle.mi_commands.specs.Operations.{operation_of, or_else}
use Rattle.mi_commands.specs.Words.{Given, options, parameters, words_fit}
use Rattle.mi_commands.specs.Numbers.{bad_number, bad_parameter, bad_value, is_bad, is_bad_at, number_part, value_range}
use Rattle.mi_commands.specs.Faults.{fault_number, misfit}
use Rattle.mi_commands.specs.Prints.{words_for}
use Rattle.mi_commands.specs.Registers.{form}
use Rattle.mi_commands.specs.Commands.{answer, answer_as, answer_by as asked_by, answer_of, command_for, unless}
use Rattle.dbg_model.specs.declared.reply.Obstacle.{Obstacle}
use Rattle.dbg_model.specs.declared.reply.Obstacle.TheVariants.{UnknownThread}
use Rattle.dbg_model.specs.declared.reply.Refused.{Refused}
use Rattle.dbg_model.specs.declared.reply.Refused.TheVariants as refused
use Rattle.dbg_model.specs.Sight.{Sight, thread_at}
use Rattle.dbg_model.specs.Outcome.{Outcome, and_then}
use Rattle.dbg_model.specs.Breakpoints.{ensured}
use Rattle.dbg_model.specs.Command.{asked_reply, reply}
use Rattle.dbg_model.specs.Reply.{Answer, answer_by, answer_to, no_parts}
use Rattle.dbg_model.specs.Refusals.{Judges, against_named, number, unknown, when}
use Rattle.dbg_answers.specs.LineRefusals.{IsAnswered, against_line, against_operation, against_parts, against_read, against_reading, against_words, bad_parameters, bad_values, no_command, no_number, refused_in}
use Rattle.dbg_answers.proofs.Tests.{From, alone, both_from, first, less_from, none_from, one_from}
use Rattle.dbg_answers.proofs.Judging.{reply_judged}
use Rattle.dbg_answers.proofs.Shows.{asked_shows, told_judged}

-- ---- words that are no numbers

-- the first of the words that are none, and each is an error of number 6
abbrev Heads : Option (List ℕ) → List Refused → Type 0
Heads None rs = rs ≡ []
Heads (Some word) rs = (more : List Refused) × (rs ≡ no_number word ∷ more) × From 6 more

bad_from : (rs : List Refused) (r : Option (List ℕ)) → Heads r rs → From 6 rs
bad_from rs None h = rw h (none_from 6)
bad_from rs (Some word) h = rw h.1 (All-cons (λ x. 6 ≤ number x) (no_number word) h.0 (omega arith) h.2)

headed : (b : Bool) (word : List ℕ) (r : Option (List ℕ)) (rs : List Refused) → Heads r rs → Heads (cond b (Some word) r) (cond b (no_number word ∷ []) [] ++ rs)
headed true word r rs h = (rs, refl, bad_from rs r h)
headed false word r rs h = h

values_headed : (given : List Given) → Heads (bad_value given) (bad_values given)
values_headed [] = refl
values_headed ((word, None) ∷ given) = values_headed given
values_headed ((word, Some value) ∷ given) = headed (is_bad (value_range word) value) value (bad_value given) (bad_values given) (values_headed given)

parameters_headed : (o : Operation) (k : ℕ) (ws : List WordView) → Heads (bad_parameter o k ws) (bad_parameters o k ws)
unfolding bad_parameter bad_parameters
parameters_headed o k [] = refl
parameters_headed o k (w ∷ ws) =
    let part = number_part o w.0 in
    headed (is_bad_at o k part) part (bad_parameter o (k + 1) ws) (bad_parameters o (k + 1) ws) (parameters_headed o (k + 1) ws)

joined_headed : (a b : Option (List ℕ)) (rs qs : List Refused) → Heads a rs → Heads b qs → Heads (or_else a b) (rs ++ qs)
joined_headed None b rs qs h i = rw h i
joined_headed (Some word) b rs qs h i = (h.0 ++ qs, ap (λ l. l ++ qs) h.1, both_from 6 h.0 qs h.2 (bad_from qs b i))

numbers_headed : (o : Operation) (ws : List WordView) → Heads (bad_number o ws) (bad_values (options ws) ++ bad_parameters o 0 (parameters ws))
numbers_headed o ws = joined_headed (bad_value (options ws)) (bad_parameter o 0 (parameters ws)) _ _ (values_headed (options ws)) (parameters_headed o 0 (parameters ws))

-- ---- words that ask for nothing

misfit_number : (o : Operation) (ws : List WordView) → 7 ≤ fault_number (misfit o ws)
misfit_number op.BreakInsert ws = omega arith
misfit_number _ ws = omega arith

none_asked : (o : Operation) (ws : List WordView) (c : Option Command) → From 7 (no_command (ok_or c (misfit o ws)))
none_asked o ws None = one_from 7 _ (misfit_number o ws)
none_asked o ws (Some c) = none_from 7

abbrev done : Refused → Result Outcome Refused
done f = Err f

-- a bad location, and then an unknown thread, which has the lesser number
beside_thread : (b : Bool) (o : Obstacle) (f : Refused) → number (refused.Hindered o) < number f → Judges (and_then (ensured b o) (λ u. done f)) ((f ∷ []) ++ when (not b) o)
beside_thread true o f lt = alone f
beside_thread false o f lt = record {
  before = f ∷ [];
  behind = [];
  stands = refl;
  above = All-cons (λ x. number (refused.Hindered o) < number x) f [] lt (All-nil (λ x. number (refused.Hindered o) < number x));
  least = All-nil (λ x. number (refused.Hindered o) ≤ number x);
}

location_judged : (s : Sight) (word : List ℕ) (t : Option ℕ) → Judges (asked_reply s (Err (fault.Location word t))) ((refused.Faulty (fault.Location word t) ∷ []) ++ against_named (unknown s) t)
unfolding asked_reply
location_judged s word None = alone _
location_judged s word (Some t) = beside_thread (is_some (thread_at s.threads t)) (UnknownThread t) (refused.Faulty (fault.Location word (Some t))) (omega arith)

-- words without a fault of their form
read_judged : (s : Sight) (r : Result Command Fault) → Judges (asked_reply s r) (no_command r ++ against_read s r)
unfolding asked_reply
read_judged s (Ok c) = reply_judged s c
read_judged s (Err (fault.Location word t)) = location_judged s word t
read_judged s (Err _) = alone _

-- ---- all words

abbrev read_as : List ℕ → Bool → Option (List ℕ) → Result Command Fault → Result Command Fault
read_as name fit bad r = unless (or_else (cond fit None (Some (fault.Parameters name))) (option_map fault.Number bad)) r

words_by : (s : Sight) (name : List ℕ) (fit : Bool) (bad : Option (List ℕ)) (bads : List Refused) (r : Result Command Fault) → Heads bad bads → From 7 (no_command r)
    → Judges (asked_reply s (read_as name fit bad r)) (cond fit [] (refused.Faulty (fault.Parameters name) ∷ []) ++ (bads ++ (no_command r ++ against_read s (read_as name fit bad r))))
unfolding asked_reply
words_by s name false bad bads r h n =
    let rest = both_from 5 (no_command r) [] (less_from 5 7 (no_command r) (omega arith) n) (none_from 5) in
    first _ _ (both_from 5 bads (no_command r ++ []) (less_from 5 6 bads (omega arith) (bad_from bads bad h)) rest)
words_by s name true (Some word) bads r h n =
    let rest = both_from 6 (no_command r) [] (less_from 6 7 (no_command r) (omega arith) n) (none_from 6) in
    rw h.1 (first _ _ (both_from 6 h.0 (no_command r ++ []) h.2 rest))
words_by s name true None bads r h n = rw h (read_judged s r)

words_judged : (s : Sight) (name : List ℕ) (o : Operation) (ws : List WordView) → Judges (asked_reply s (answer_as name o ws)) (against_words s name o ws)
words_judged s name o ws =
    words_by s name (words_fit o ws) (bad_number o ws) (bad_values (options ws) ++ bad_parameters o 0 (parameters ws)) (ok_or (command_for o ws) (misfit o ws)) (numbers_headed o ws) (none_asked o ws (command_for o ws))

operation_judged : (s : Sight) (name : List ℕ) (r : Option Operation) (ws : List WordView) → Judges (asked_reply s (asked_by name r ws)) (against_operation s name r ws)
unfolding asked_reply
operation_judged s name None ws = alone _
operation_judged s name (Some o) ws = words_judged s name (form o (parameters (words_for o ws))) (words_for o ws)

-- ---- the line

parts_judged : (s : Sight) (operation : Option (List ℕ)) (ws : List WordView) → Judges (asked_reply s (answer_of operation ws)) (against_parts s operation ws)
unfolding answer_of asked_reply reply
parts_judged s None ws = refl
parts_judged s (Some name) ws = operation_judged s name (operation_of name) ws

none_answered : (start : List ℕ) (b : Bool) → is_cli start ≡ b → IsAnswered (refused_in (no_parts start).outcome.content) ((cond (is_cli start) refused.Cli refused.Syntax) ∷ [])
none_answered start true is = rw is (alone _)
none_answered start false is = rw is (alone _)

reading_answered : (s : Sight) (line : List ℕ) (r : Option PartsView) → IsAnswered (refused_in (answer_by s line r).outcome.content) (against_reading s line r)
reading_answered s line None = none_answered (after_blanks line) (is_cli (after_blanks line)) refl
reading_answered s line (Some p) = told_judged (asked_reply s (answer p)) _ (asked_shows s (answer p)) (parts_judged s p.operation p.words)

line_by : (s : Sight) (line : List ℕ) (b : Bool) → nat_lt 4096 (length line) ≡ b → IsAnswered (refused_in (answer_to s line).outcome.content) (against_line s line)
unfolding answer_to against_line
line_by s line true is = rw is (alone _)
line_by s line false is = rw is (reading_answered s line (parts_read line))

pub line_answered_least : (s : Sight) (line : List ℕ) → IsAnswered (refused_in (answer_to s line).outcome.content) (against_line s line)
line_answered_least s line = line_by s line (nat_lt 4096 (length line)) refl

pub if_answered_least : {A E : Type 0} (answer_in : A → Answer) (s : Sight) (line : List ℕ) (r : Result A E) → IfOk r (λ a. answer_in a ≡ answer_to s line)
    → IfOk r (λ a. IsAnswered (refused_in (answer_in a).outcome.content) (against_line s line))
if_answered_least answer_in s line (Ok a) same = rw same (line_answered_least s line)
if_answered_least answer_in s line (Err e) same = same
