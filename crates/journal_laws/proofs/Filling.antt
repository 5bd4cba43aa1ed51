-- Each write of a lawful journal has some bytes, since no line asks for a write of none: so each of its entries has a line in a log.
use Rattle.std.proofs.Common.{◌≡◌, ◌<◌, ℕ, zero, suc, ◌+◌, ◌%◌, Bool, true, false, List, [], ◌∷◌, length, refl, ap, cond, arith}
use Rattle.std.specs.Prelude.{Option, Some, None, Result, Ok, Err, ◌==◌, ◌&&◌, not, nat_le, nat_lt, is_none, unwrap_or, option_and_then, slice_index}
use Rattle.std.specs.Option.{ok_or, option_map}
use Rattle.std.proofs.lemmas.Bool.Decides.{nat_tests}
use Rattle.std.proofs.lemmas.List.{length-append}
use Rattle.hex.specs.Hex.{decode_of, decode_pairs, pair_value, ◌>>=◌}
use Rattle.hex.specs.declared.error.FromHexError.{FromHexError}
use Rattle.hex.specs.declared.error.FromHexError.TheVariants.{OddLength}
use Rattle.mi_text.specs.Hexadecimal.{are_bytes, bytes_of, decoded, is_decoded}
use Rattle.mi_text.specs.Number.{number_of}
use Rattle.mi_input.specs.Parts.{PartsView, WordView, is_cli, after_blanks}
use Rattle.mi_input.specs.Reading.{parts_read}
use Rattle.mi_commands.specs.Bytes.{first_of, repeated}
use Rattle.mi_commands.specs.Commands.{answer, answer_by, answer_of as answer_in_words, bytes_written, command_for, insertion, number_if_any, numbers, rest_of, unless, write_memory}
use Rattle.mi_commands.specs.Faults.{first_word, misfit, number_fault, number_in, parameters_fault, second_word, words_fault}
use Rattle.mi_commands.specs.Locations.{location_of}
use Rattle.mi_commands.specs.Numbers.{bad_number, bad_parameter, bad_value, in_range, is_bad, number}
use Rattle.mi_commands.specs.Operations.{fits, operation_of, or_else, shape}
use Rattle.mi_commands.specs.Prints.{first_prints, print_fits, words_for}
use Rattle.mi_commands.specs.Registers.{assignment, form}
use Rattle.mi_commands.specs.Settings.{displaced_of, format_of, is_on, set_to, setting_of}
use Rattle.mi_commands.specs.Words.{one_target, options, options_fit, parameters, words_fit}
use Rattle.mi_commands.specs.declared.command.Command.{Command}
use Rattle.mi_commands.specs.declared.command.Command.TheVariants as command
use Rattle.mi_commands.specs.declared.command.Setting.{Setting}
use Rattle.mi_commands.specs.declared.command.Setting.TheVariants as setting
use Rattle.mi_commands.specs.declared.command.Target.{Target}
use Rattle.mi_commands.specs.declared.command.Target.TheVariants as target
use Rattle.mi_commands.specs.declared.counts.Count.TheVariants as count
use Rattle.mi_commands.specs.declared.counts.OptionName.TheVariants as option
use Rattle.mi_commands.specs.declared.number.Range.TheVariants as range
use Rattle.mi_commands.specs.declared.operation.Operation.{Operation}
use Rattle.mi_commands.specs.declared.operation.Operation.TheVariants as op
use Rattle.mi_commands.specs.declared.refusal.Fault.{Fault}
use Rattle.mi_commands.specs.declared.refusal.Fault.TheVariants as fault
use Rattle.rv_decode.specs.Registers.{register_number}
use Rattle.rv_exec.specs.Registers.{Registers}
use Rattle.step_plans.specs.declared.plan.Plan.{Plan}
use Rattle.dbg_model.specs.declared.entry.Entry.TheVariants.{Poked}
use Rattle.dbg_model.specs.declared.entry.Poke.{Poke}
use Rattle.dbg_model.specs.declared.entry.Poke.TheVariants as poke
use Rattle.dbg_model.specs.declared.opening.Opening.{Opening}
use Rattle.dbg_model.specs.declared.reply.Refused.{Refused}
use Rattle.dbg_model.specs.Breakpoints.{condition, known, known_either, known_thread, place, placed, room}
use Rattle.dbg_model.specs.Command.{asked_reply, reply}
use Rattle.dbg_model.specs.Data.{bytes_at, worth_of}
use Rattle.dbg_model.specs.Outcome.{Change, Outcome, and_then, pokes, told}
use Rattle.dbg_model.specs.Reply.{answer_by as answer_by_parts, answer_of, answer_to, no_parts}
use Rattle.dbg_model.specs.Sight.{Sight, live, running, sight_of, stopped, thread_or}
use Rattle.dbg_model.specs.State.{State}
use Rattle.dbg_model.specs.Steps.{finish_step, line_step, one_step, step}
use Rattle.dbg_model.specs.Threads.{go_on, interrupt, thread_info}
use Rattle.dbg_model.specs.Variables.{expression_in}
use Rattle.dbg_model.specs.Watchpoints.{are_data, watch_room, watched}
use Rattle.dbg_model.specs.Writes.{none_unwritable, settable}
use Rattle.data_memory.specs.Ranges.{first_unwritable}
use Rattle.session_log.specs.Rows.{has_bytes}
use Rattle.dbg_model.proofs.Options.{both_true}

-- ---- the bytes of a line's words

digits_two : (r : Result ℕ FromHexError) (q : Result (List ℕ) FromHexError) (bytes : List ℕ) → (r >>= (λ byte. q >>= (λ more. Ok (byte ∷ more)))) ≡ Ok bytes → 0 < length bytes
digits_two (Ok byte) (Ok more) bytes is = let same : byte ∷ more ≡ bytes = cc in let e = ap length same in omega (arith, e)
digits_two (Ok byte) (Err e) bytes is = cc
digits_two (Err e) q bytes is = cc

pairs_some : (i a : ℕ) (ds bytes : List ℕ) → decode_pairs i (a ∷ ds) ≡ Ok bytes → 0 < length bytes
unfolding decode_pairs
pairs_some i a [] bytes is = cc
pairs_some i a (low ∷ rest) bytes is = digits_two (pair_value a low i) (decode_pairs (i + 2) rest) bytes is

even : (b : Bool) (r : Result (List ℕ) FromHexError) (bytes : List ℕ) → cond b (Err OddLength) r ≡ Ok bytes → r ≡ Ok bytes
even true r bytes is = cc
even false r bytes is = is

decoded_some : (a : ℕ) (ds : List ℕ) (r : Result (List ℕ) FromHexError) → decode_of (a ∷ ds) ≡ r → is_decoded r ≡ true → 0 < length (decoded r)
decoded_some a ds (Ok bytes) is h = pairs_some 0 a ds bytes (even (length (a ∷ ds) % 2 == 1) (decode_pairs 0 (a ∷ ds)) bytes is)
decoded_some a ds (Err e) is h = cc

digits_some : (digits : List ℕ) → are_bytes digits ≡ true → 0 < length (bytes_of digits)
digits_some [] h = cc
digits_some (a ∷ ds) h = decoded_some a ds (decode_of (a ∷ ds)) refl h

repeated_some : (bytes : List ℕ) (n : ℕ) → 0 < length bytes → 0 < n → 0 < length (repeated bytes n)
repeated_some [] n some many = absurd (omega (arith, some))
repeated_some (b ∷ bytes) zero some many = absurd (omega (arith, many))
repeated_some (b ∷ bytes) (suc n) some many =
    let e = length-append (first_of (b ∷ bytes) n) (slice_index (b ∷ bytes) (n % length (b ∷ bytes)) ∷ []) in omega (arith, e)

written_some : (bytes : List ℕ) (c : Option ℕ) → 0 < length bytes → ((n : ℕ) → c ≡ Some n → 0 < n) → 0 < length (bytes_written bytes c)
written_some bytes None some many = repeated_some bytes (length bytes) some some
written_some bytes (Some n) some many = repeated_some bytes n some (many n refl)

-- ---- words that have no fault

none_of : {A : Type 0} (b : Bool) (x : A) (r : Option A) → cond b (Some x) r ≡ None → (b ≡ false) × (r ≡ None)
none_of true x r is = cc
none_of false x r is = (refl, is)

fit_of : {A : Type 0} (b : Bool) (x : A) → cond b None (Some x) ≡ None → b ≡ true
fit_of true x is = refl
fit_of false x is = cc

or_none : {A : Type 0} (a b : Option A) → or_else a b ≡ None → (a ≡ None) × (b ≡ None)
or_none None b is = (refl, is)
or_none (Some x) b is = cc

map_none : {A B : Type 0} (f : A → B) (r : Option A) → option_map f r ≡ None → r ≡ None
map_none f None is = refl
map_none f (Some x) is = cc

not_false : (b : Bool) → not b ≡ false → b ≡ true
not_false true is = refl
not_false false is = cc

within : (n : ℕ) (b : Bool) → in_range range.Length n ≡ b → is_none (cond b (Some n) None) ≡ false → 0 < n
within n true is h = let low = (both_true (nat_le 1 n) (nat_le n 4096) is).0 in grind (arith, nat_tests)
within n false is h = cc

length_some : (r : Option ℕ) → is_none (option_and_then (λ n. cond (in_range range.Length n) (Some n) None) r) ≡ false → 0 < unwrap_or r 0
length_some None h = cc
length_some (Some n) h = within n (in_range range.Length n) refl h

count_some : (rest : List WordView) → bad_parameter op.WriteMemory 2 rest ≡ None → (n : ℕ) → number_if_any rest ≡ Some n → 0 < n
unfolding bad_parameter
count_some [] none n is = cc
count_some (w ∷ ws) none n is =
    let good = (none_of (is_bad (Some range.Length) w.0) w.0 (bad_parameter op.WriteMemory 3 ws) none).0 in
    let some = length_some (number_of w.0) good in
    let same : number w.0 ≡ n = cc in
    omega (arith, some, same)

-- a command that writes bytes writes some
abbrev FillsCommand : Command → Type 0
FillsCommand (command.WriteMemory address bytes) = 0 < length bytes
FillsCommand _ = Unit {0}

words_fill : (ps : List WordView) → fits count.TwoOrThree (length ps) ≡ true → bad_parameter op.WriteMemory 0 ps ≡ None → FillsCommand (write_memory ps)
unfolding bad_parameter
words_fill [] many none = cc
words_fill (w ∷ []) many none = cc
words_fill (w ∷ v ∷ rest) many none =
    let behind = (none_of (is_bad (Some range.Any) w.0) w.0 (bad_parameter op.WriteMemory 1 (v ∷ rest)) none).1 in
    let at = none_of (not (are_bytes v.0)) v.0 (bad_parameter op.WriteMemory 2 rest) behind in
    written_some (bytes_of v.0) (number_if_any rest) (digits_some v.0 (not_false (are_bytes v.0) at.0)) (count_some rest at.1)

abbrev FillsAnswer : Result Command Fault → Type 0
FillsAnswer (Ok c) = FillsCommand c
FillsAnswer (Err f) = Unit {0}

-- what a word spells is a command that writes nothing
spelled_fills : {A : Type 0} (command_of : A → Command) (f : Fault) → ((x : A) → FillsCommand (command_of x)) → (r : Option A) → FillsAnswer (ok_or (option_map command_of r) f)
spelled_fills command_of f fills None = tt
spelled_fills command_of f fills (Some x) = fills x

set_if : (b : Bool) (c : Command) (f : Fault) → FillsCommand c → FillsAnswer (ok_or (cond b (Some c) None) f)
set_if true c f h = h
set_if false c f h = tt

set_fills : (r : Option Setting) (value : List ℕ) (f : Fault) → FillsAnswer (ok_or (option_and_then (λ s. set_to s value) r) f)
set_fills None value f = tt
set_fills (Some setting.NonStop) value f = set_if (is_on value) command.SetNonStop f tt
set_fills (Some setting.MiAsync) value f = set_if (is_on value) command.SetMiAsync f tt
set_fills (Some setting.DisplacedStepping) value f = spelled_fills command.SetDisplaced f (λ d. tt) (displaced_of value)

for_fills : (o : Operation) (ws : List WordView) (f : Fault) → fits (shape o).1 (length (parameters ws)) ≡ true → bad_parameter o 0 (parameters ws) ≡ None → FillsAnswer (ok_or (command_for o ws) f)
for_fills op.WriteMemory ws f many none = words_fill (parameters ws) many none
for_fills op.Set ws f many none = set_fills (setting_of (first_word (parameters ws))) (second_word (parameters ws)) f
for_fills op.BreakInsert ws f many none = spelled_fills (λ place. command.BreakInsert (insertion ws place)) f (λ place. tt) (location_of (first_word (parameters ws)))
for_fills op.VariableList ws f many none = spelled_fills (command.VariableList (number_in option.Thread ws)) f (λ b. tt) (first_prints (parameters ws))
for_fills op.RegisterValues ws f many none =
    spelled_fills (λ form. command.RegisterValues (number_in option.Thread ws) form (numbers (rest_of (parameters ws)))) f (λ form. tt) (format_of (first_word (parameters ws)))
for_fills op.SetRegister ws f many none =
    let a = assignment (first_word (parameters ws)) in
    spelled_fills (λ n. command.SetRegister (number_in option.Thread ws) a.name n (number a.value)) f (λ n. tt) (register_number a.name)
for_fills op.Show ws f many none = spelled_fills command.Show f (λ s. tt) (setting_of (first_word (parameters ws)))
for_fills _ ws f many none = tt

as_fills : (name : List ℕ) (o : Operation) (ws : List WordView) (f : Option Fault) → words_fault o name ws ≡ f → FillsAnswer (unless f (ok_or (command_for o ws) (misfit o ws)))
as_fills name o ws (Some f) is = tt
as_fills name o ws None is =
    let a = or_none (parameters_fault o name ws) (number_fault o ws) is in
    let bad = map_none fault.Number (bad_number o ws) a.1 in
    let none = (or_none (bad_value (options ws)) (bad_parameter o 0 (parameters ws)) bad).1 in
    let fit = fit_of (words_fit o ws) (fault.Parameters name) a.0 in
    let few = (both_true (options_fit (shape o).0 (options ws) && one_target (options ws)) (fits (shape o).1 (length (parameters ws)))
    (both_true ((options_fit (shape o).0 (options ws) && one_target (options ws)) && fits (shape o).1 (length (parameters ws))) (print_fits o (parameters ws)) fit).0).1 in
    for_fills o ws (misfit o ws) few none

by_fills : (name : List ℕ) (o : Option Operation) (ws : List WordView) → FillsAnswer (answer_by name o ws)
by_fills name None ws = tt
by_fills name (Some o) ws =
    let more = words_for o ws in
    let known = form o (parameters more) in
    as_fills name known more (words_fault known name more) refl

in_words : (name : Option (List ℕ)) (ws : List WordView) → FillsAnswer (answer_in_words name ws)
unfolding answer_in_words
in_words None ws = tt
in_words (Some name) ws = by_fills name (operation_of name) ws

-- ---- what a line changes

-- what is to be written has some bytes
abbrev pub Fills : Poke → Type 0
Fills p = has_bytes (Poked p) ≡ true

abbrev pub FillsChange : Change → Type 0
FillsChange (pokes p) = Fills p
FillsChange _ = Unit {0}

abbrev FillsOutcome : Result Outcome Refused → Type 0
FillsOutcome (Ok o) = FillsChange o.change
FillsOutcome (Err r) = Unit {0}

told_fills : (r : Result Outcome Refused) → FillsOutcome r → FillsChange (told r).change
told_fills (Ok o) h = h
told_fills (Err r) h = tt

behind : {A : Type 0} (a : Result A Refused) (next : A → Result Outcome Refused) → ((x : A) → FillsOutcome (next x)) → FillsOutcome (and_then a next)
behind (Ok x) next h = h x
behind (Err r) next h = tt

bytes_fill : (address : ℕ) (bytes : List ℕ) → 0 < length bytes → Fills (poke.Bytes address bytes)
bytes_fill address [] some = absurd (omega (arith, some))
bytes_fill address (b ∷ bytes) some = refl

go_on_fills : (s : Sight) (t : Target) → FillsOutcome (go_on s t)
go_on_fills s target.Selected = behind (stopped s s.selected) _ (λ r. tt)
go_on_fills s (target.Thread t) = behind (stopped s t) _ (λ r. tt)
go_on_fills s target.All = tt

interrupt_fills : (s : Sight) (t : Target) → FillsOutcome (interrupt s t)
interrupt_fills s target.Selected = behind (running s s.selected) _ (λ u. tt)
interrupt_fills s (target.Thread t) = behind (running s t) _ (λ u. tt)
interrupt_fills s target.All = tt

step_fills : (plan_of : Sight → Registers → Result Plan Refused) (s : Sight) (t : Option ℕ) → FillsOutcome (step plan_of s t)
step_fills plan_of s t = behind (stopped s (thread_or s.selected t)) _ (λ r. behind (plan_of s r) _ (λ plan. tt))

info_fills : (s : Sight) (t : Option ℕ) → FillsOutcome (thread_info s t)
info_fills s None = tt
info_fills s (Some t) = behind (live s t) _ (λ x. tt)

reply_fills : (s : Sight) (c : Command) → FillsCommand c → FillsOutcome (reply s c)
unfolding reply
reply_fills s (command.BreakInsert i) h =
    behind (known_thread s i.thread) _ (λ u.
    behind (place s.sources i.location) _ (λ addr.
    behind (placed s addr) _ (λ v.
    behind (room s) _ (λ w.
    behind (condition s.sources.names i.condition) _ (λ c. tt)))))
reply_fills s (command.BreakDelete ns) h = behind (known_either s ns) _ (λ u. tt)
reply_fills s (command.BreakEnable ns) h = behind (known_either s ns) _ (λ u. tt)
reply_fills s (command.BreakDisable ns) h = behind (known_either s ns) _ (λ u. tt)
reply_fills s (command.BreakWatch text) h = behind (watched s.sources.names text) _ (λ b. behind (are_data s b) _ (λ u. behind (watch_room s) _ (λ v. tt)))
reply_fills s (command.BreakCondition n text) h = behind (known s (n ∷ [])) _ (λ u. behind (condition s.sources.names text) _ (λ c. tt))
reply_fills s (command.BreakAfter n k) h = behind (known s (n ∷ [])) _ (λ u. tt)
reply_fills s (command.Continue t) h = go_on_fills s t
reply_fills s (command.Interrupt t) h = interrupt_fills s t
reply_fills s (command.Step t) h = step_fills (line_step true) s t
reply_fills s (command.Next t) h = step_fills (line_step false) s t
reply_fills s (command.StepInstruction t) h = step_fills (one_step false) s t
reply_fills s (command.NextInstruction t) h = step_fills (one_step true) s t
reply_fills s (command.Finish t) h = step_fills finish_step s t
reply_fills s (command.ThreadInfo t) h = info_fills s t
reply_fills s (command.ThreadSelect t) h = behind (live s t) _ (λ x. tt)
reply_fills s (command.FrameList t) h = behind (stopped s (thread_or s.selected t)) _ (λ r. tt)
reply_fills s (command.FrameDepth t) h = behind (stopped s (thread_or s.selected t)) _ (λ r. tt)
reply_fills s (command.FrameInfo t) h = behind (stopped s (thread_or s.selected t)) _ (λ r. tt)
reply_fills s (command.VariableList t with_values) h = behind (stopped s (thread_or s.selected t)) _ (λ r. tt)
reply_fills s (command.RegisterValues t f ns) h = behind (stopped s (thread_or s.selected t)) _ (λ r. tt)
reply_fills s (command.ReadMemory addr n) h = behind (bytes_at s addr n) _ (λ bytes. tt)
reply_fills s (command.WriteMemory addr bytes) h = behind (none_unwritable (first_unwritable s.memory addr (length bytes))) _ (λ u. bytes_fill addr bytes h)
reply_fills s (command.SetRegister t name register value) h = behind (stopped s (thread_or s.selected t)) _ (λ r. behind (settable name register) _ (λ u. refl))
reply_fills s (command.Evaluate t text) h =
    behind (stopped s (thread_or s.selected t)) _ (λ r. behind (expression_in s r text) _ (λ tree. behind (worth_of s r tree) _ (λ v. tt)))
reply_fills s _ h = tt

asked_fills : (s : Sight) (r : Result Command Fault) → FillsAnswer r → FillsOutcome (asked_reply s r)
unfolding asked_reply
asked_fills s (Ok c) h = reply_fills s c h
asked_fills s (Err (fault.Location word t)) h = behind (known_thread s t) _ (λ u. tt)
asked_fills s (Err _) h = tt

no_parts_fill : (start : List ℕ) (b : Bool) → is_cli start ≡ b → FillsChange (no_parts start).outcome.change
no_parts_fill start true is = rw is tt
no_parts_fill start false is = rw is tt

parts_fill : (s : Sight) (line : List ℕ) (r : Option PartsView) → FillsChange (answer_by_parts s line r).outcome.change
parts_fill s line None = no_parts_fill (after_blanks line) (is_cli (after_blanks line)) refl
parts_fill s line (Some p) = told_fills (asked_reply s (answer p)) (asked_fills s (answer p) (in_words p.operation p.words))

line_fills : (s : Sight) (line : List ℕ) (b : Bool) → nat_lt 4096 (length line) ≡ b → FillsChange (answer_to s line).outcome.change
unfolding answer_to
line_fills s line true is = rw is tt
line_fills s line false is = rw is (parts_fill s line (parts_read line))

-- what a line asks to be written has some bytes
pub change_fills : (o : Opening) (s : State) (line : List ℕ) → FillsChange (answer_of o s line).outcome.change
change_fills o s line = line_fills (sight_of o s) line (nat_lt 4096 (length line)) refl
