-- Of all that stands against a command the least number is answered.
use Rattle.std.proofs.Common.{◌≡◌, ℕ, zero, suc, ◌+◌, ◌%◌, ◌^◌, List, [], ◌∷◌, ◌++◌, refl, ap, sym, subst, arith}
use Rattle.std.specs.Prelude.{Bool, true, false, not, ◌||◌, Option, Some, None, Result, Ok, Err, is_some, length, nat_lt}
use Rattle.elf32_read.specs.Program.{text_word}
use Rattle.elf_symbols.specs.Names.{Names, Symbol, address_of}
use Rattle.line_rows.specs.declared.row.Row.{Row}
use Rattle.line_index.specs.Lines.{row_at}
use Rattle.line_index.specs.Lines as tables
use Rattle.frame_walk.specs.declared.frame.Caller.{Caller}
use Rattle.step_plans.specs.declared.plan.Plan.{Plan}
use Rattle.dbg_model.specs.Sources.{Sources}
use Rattle.cond_expr.specs.declared.fault.ExprFault.{ExprFault}
use Rattle.cond_expr.specs.Term.{Term}
use Rattle.std.specs.FinMap as map
use Rattle.rv_exec.specs.Registers.{Registers}
use Rattle.rv_exec.specs.Memory.{Memory, is_writable}
use Rattle.data_memory.specs.Ranges.{first_unwritable, range_at, then_range, value_at}
use Rattle.watch_points.specs.declared.watch.Watched.{Watched}
use Rattle.watch_points.specs.declared.fault.WatchFault.{WatchFault}
use Rattle.watch_points.specs.declared.fault.WatchFault.TheVariants.{Expr, Form, Value as Undefined}
use Rattle.watch_points.specs.Reading.{watching}
use Rattle.plain_machine.specs.PlainRun.{is_settable}
use Rattle.break_table.specs.Table.{has_number}
use Rattle.mi_commands.specs.declared.command.Command.{Command}
use Rattle.mi_commands.specs.declared.command.Command.TheVariants as command
use Rattle.mi_commands.specs.declared.command.Insertion.{Insertion}
use Rattle.mi_commands.specs.declared.command.Location.{Location}
use Rattle.mi_commands.specs.declared.command.Location.TheVariants as location
use Rattle.mi_commands.specs.declared.command.Target.{Target}
use Rattle.mi_commands.specs.declared.command.Target.TheVariants as target
use Rattle.mi_commands.specs.declared.refusal.Fault.{Fault}
use Rattle.mi_commands.specs.declared.refusal.Fault.TheVariants as fault
use Rattle.dbg_model.specs.declared.reply.Obstacle.TheVariants.{UnknownThread, HasExited, IsRunning, NotRunning, NoBreakpoint, NoInstruction, TooManyBreakpoints, TooManyWatches, Unreadable, Unwritable}
use Rattle.dbg_model.specs.declared.reply.Refused.{Refused}
use Rattle.dbg_model.specs.declared.reply.Refused.TheVariants as refused
use Rattle.dbg_model.specs.declared.thread_view.ThreadView.{ThreadView}
use Rattle.dbg_model.specs.declared.thread_view.ThreadView.TheVariants as view
use Rattle.dbg_model.specs.Breaks.{missing_number}
use Rattle.cond_expr.specs.Reader.{parsed}
use Rattle.dbg_model.specs.Limits.{breakpoints}
use Rattle.watch_points.specs.Watches.{most_watches}
use Rattle.watch_points.specs.Watches.{has_watch}
use Rattle.dbg_model.specs.Views.{register, shown_byte}
use Rattle.dbg_model.specs.Sight.{Sight, thread_at, live, live_as, running, running_as, stopped, stopped_as, thread_or}
use Rattle.dbg_model.specs.Outcome.{Outcome, and_then, showing}
use Rattle.dbg_model.specs.Threads.{go_on, interrupt, thread_info}
use Rattle.dbg_model.specs.Breakpoints.{condition, expression, expression_as, insert, known, known_either, known_thread, named, none_missing, on_line, place, placed, room}
use Rattle.dbg_model.specs.Data.{address_at, byte_at, bytes_at, evaluate, shown_at, worth_of}
use Rattle.dbg_model.specs.Steps.{caller_at, finish_plan, finish_step, line_plan, line_step, one_step, step}
use Rattle.dbg_model.specs.Watchpoints.{adding, all_read, are_data, watch, watch_room, watched, watched_as}
use Rattle.dbg_model.specs.Writes.{none_unwritable, set_register, settable}
use Rattle.dbg_model.specs.Command.{asked_reply, reply}
use Rattle.dbg_model.specs.Refusals.{Judges, absent, absent_from_both, against, against_asked, against_evaluate, against_insert, against_live, against_named, against_running, against_step, against_stopped, against_target, against_watch}
use Rattle.dbg_model.specs.Refusals.{failed, is_exited_view, is_stopped_view, no_data, no_expression, no_plan, no_text, number, is_running_view, unknown, unreadable, unwatched_bytes, unwritable, when}
use Rattle.dbg_model.specs.Variables.{expression_in}
use Rattle.dbg_answers.proofs.Naming.{kind_within, spelled_from, spelled_judged}
use Rattle.dbg_answers.proofs.Tests.{From, UpTo, alone, both_from, chain, ensured_judged, ensured_up, failed_judged, first, less_from, none_from, one_from, then_done, up_then, when_from}

-- ---- threads

live_by : (sources : Sources) (t : ℕ) (x : Option ThreadView) → Judges (live_as sources t x) (when (not (is_some x)) (UnknownThread t) ++ when (is_exited_view x) (HasExited t))
live_by sources t None = alone _
live_by sources t (Some (view.Stopped r)) = refl
live_by sources t (Some view.Running) = refl
live_by sources t (Some view.Exited) = alone _

live_judged : (s : Sight) (t : ℕ) → Judges (live s t) (against_live s t)
live_judged s t = live_by s.sources t (thread_at s.threads t)

stopped_by : (t : ℕ) (x : Option ThreadView) → Judges (stopped_as t x) ((when (not (is_some x)) (UnknownThread t) ++ when (is_exited_view x) (HasExited t)) ++ when (is_running_view x) (IsRunning t))
stopped_by t None = alone _
stopped_by t (Some (view.Stopped r)) = refl
stopped_by t (Some view.Running) = alone _
stopped_by t (Some view.Exited) = alone _

stopped_judged : (s : Sight) (t : ℕ) → Judges (stopped s t) (against_stopped s t)
stopped_judged s t = stopped_by t (thread_at s.threads t)

running_by : (t : ℕ) (x : Option ThreadView) → Judges (running_as t x) ((when (not (is_some x)) (UnknownThread t) ++ when (is_exited_view x) (HasExited t)) ++ when (is_stopped_view x) (NotRunning t))
running_by t None = alone _
running_by t (Some (view.Stopped r)) = alone _
running_by t (Some view.Running) = refl
running_by t (Some view.Exited) = alone _

running_judged : (s : Sight) (t : ℕ) → Judges (running s t) (against_running s t)
running_judged s t = running_by t (thread_at s.threads t)

stopped_up : (t : ℕ) (x : Option ThreadView) → UpTo 10 (stopped_as t x)
stopped_up t None = omega arith
stopped_up t (Some (view.Stopped r)) = tt
stopped_up t (Some view.Running) = omega arith
stopped_up t (Some view.Exited) = omega arith

go_on_judged : (s : Sight) (t : Target) → Judges (go_on s t) (against_target (against_stopped s) s t)
go_on_judged s target.Selected = then_done (stopped s s.selected) _ (against_stopped s s.selected) (stopped_judged s s.selected)
go_on_judged s (target.Thread t) = then_done (stopped s t) _ (against_stopped s t) (stopped_judged s t)
go_on_judged s target.All = refl

interrupt_judged : (s : Sight) (t : Target) → Judges (interrupt s t) (against_target (against_running s) s t)
interrupt_judged s target.Selected = then_done (running s s.selected) _ (against_running s s.selected) (running_judged s s.selected)
interrupt_judged s (target.Thread t) = then_done (running s t) _ (against_running s t) (running_judged s t)
interrupt_judged s target.All = refl

info_judged : (s : Sight) (t : Option ℕ) → Judges (thread_info s t) (against_named (against_live s) t)
info_judged s None = refl
info_judged s (Some t) = then_done (live s t) _ (against_live s t) (live_judged s t)

named_judged : (s : Sight) (t : Option ℕ) → Judges (known_thread s t) (against_named (unknown s) t)
named_judged s None = refl
named_judged s (Some t) = ensured_judged (is_some (thread_at s.threads t)) (UnknownThread t)

named_up : (s : Sight) (t : Option ℕ) → UpTo 8 (known_thread s t)
named_up s None = tt
named_up s (Some t) = ensured_up 8 (is_some (thread_at s.threads t)) (UnknownThread t) (omega arith)

-- ---- numbers of breakpoints

absent_from : (s : Sight) (ns : List ℕ) → From 12 (absent s ns)
absent_from s [] = none_from 12
absent_from s (n ∷ ns) = both_from 12 (when (not (has_number n s.breaks)) (NoBreakpoint n)) (absent s ns) (when_from 12 (not (has_number n s.breaks)) (NoBreakpoint n) (omega arith)) (absent_from s ns)

known_by : (s : Sight) (n : ℕ) (ns : List ℕ) (b : Bool) → has_number n s.breaks ≡ b → Judges (known s ns) (absent s ns) → Judges (known s (n ∷ ns)) (absent s (n ∷ ns))
known_by s n ns true is rest = rw is rest
known_by s n ns false is rest = rw is (first (refused.Hindered (NoBreakpoint n)) (absent s ns) (absent_from s ns))

known_judged : (s : Sight) (ns : List ℕ) → Judges (known s ns) (absent s ns)
known_judged s [] = refl
known_judged s (n ∷ ns) = known_by s n ns (has_number n s.breaks) refl (known_judged s ns)

missing_up : (m : Option ℕ) → UpTo 12 (none_missing m)
missing_up None = tt
missing_up (Some n) = omega arith

known_up : (s : Sight) (ns : List ℕ) → UpTo 12 (known s ns)
known_up s ns = missing_up (missing_number s.breaks ns)

either_from : (s : Sight) (ns : List ℕ) → From 12 (absent_from_both s ns)
either_from s [] = none_from 12
either_from s (n ∷ ns) =
    let out = not (has_number n s.breaks || has_watch n s.watches) in
    both_from 12 (when out (NoBreakpoint n)) (absent_from_both s ns) (when_from 12 out (NoBreakpoint n) (omega arith)) (either_from s ns)

either_by : (s : Sight) (n : ℕ) (ns : List ℕ) (b : Bool) → (has_number n s.breaks || has_watch n s.watches) ≡ b → Judges (known_either s ns) (absent_from_both s ns) → Judges (known_either s (n ∷ ns)) (absent_from_both s (n ∷ ns))
either_by s n ns true is rest = rw is rest
either_by s n ns false is rest = rw is (first (refused.Hindered (NoBreakpoint n)) (absent_from_both s ns) (either_from s ns))

either_judged : (s : Sight) (ns : List ℕ) → Judges (known_either s ns) (absent_from_both s ns)
either_judged s [] = refl
either_judged s (n ∷ ns) = either_by s n ns (has_number n s.breaks || has_watch n s.watches) refl (either_judged s ns)

-- ---- expressions

expression_by : (text : List ℕ) (r : Result Term ExprFault) → From 18 (failed (expression_as text r)) × UpTo 22 (expression_as text r)
expression_by text (Ok t) = (none_from 18, tt)
expression_by text (Err f) = (one_from 18 _ (kind_within f.kind).0, (kind_within f.kind).1)

then_failed : {A B : Type 0} (a : Result A Refused) (done : A → B) (k : ℕ) → From k (failed a) → From k (failed (and_then a (λ x. Ok (done x))))
then_failed (Ok x) done k f = none_from k
then_failed (Err r) done k f = f

condition_from : (names : Names) (text : Option (List ℕ)) → From 18 (failed (condition names text))
condition_from names None = none_from 18
condition_from names (Some text) = then_failed (expression names text) _ 18 (expression_by text (parsed names text)).0

condition_judged : (s : Sight) (n : ℕ) (text : Option (List ℕ)) → Judges (reply s (command.BreakCondition n text)) (absent s (n ∷ []) ++ failed (condition s.sources.names text))
unfolding reply
condition_judged s n text =
    let bad = failed (condition s.sources.names text) in
    chain 12 (known s (n ∷ [])) _ (absent s (n ∷ [])) bad (known_up s (n ∷ [])) (less_from 12 18 bad (omega arith) (condition_from s.sources.names text)) (known_judged s (n ∷ [])) (λ u is.
    then_done (condition s.sources.names text) _ bad (failed_judged (condition s.sources.names text)))

evaluate_judged : (s : Sight) (thread : Option ℕ) (text : List ℕ) → Judges (evaluate s thread text) (against_evaluate s (thread_or s.selected thread) text)
evaluate_judged s thread text =
    let t = thread_or s.selected thread in
    let next : Registers → Result Outcome Refused = λ r. and_then (expression_in s r text) (λ tree. and_then (worth_of s r tree) (λ v. Ok (showing v))) in
    chain 10 (stopped s t) next (against_stopped s t) (no_expression s text (stopped s t)) (stopped_up t (thread_at s.threads t)) (spelled_from s text (stopped s t)) (stopped_judged s t) (λ r at.
    subst (λ (a : Result Registers Refused). Judges (next r) (no_expression s text a)) (sym at) (spelled_judged s r text))

-- ---- memory

byte_judged : (addr : ℕ) (b : Option ℕ) → Judges (byte_at addr b) (when (not (is_some b)) (Unreadable addr))
byte_judged addr None = alone _
byte_judged addr (Some b) = refl

byte_up : (addr : ℕ) (b : Option ℕ) → UpTo 24 (byte_at addr b)
byte_up addr None = omega arith
byte_up addr (Some b) = tt

bytes_up : (s : Sight) (addr n : ℕ) → UpTo 24 (bytes_at s addr n)
bytes_up s addr zero = tt
bytes_up s addr (suc n) =
    let at = address_at addr n in
    up_then 24 (bytes_at s addr n) _ (bytes_up s addr n) (λ bytes.
    up_then 24 (shown_at s at) _ (byte_up at (shown_byte s.image s.memory at)) (λ b. tt))

bytes_judged : (s : Sight) (addr n : ℕ) → Judges (bytes_at s addr n) (unreadable s addr n)
bytes_judged s addr zero = refl
bytes_judged s addr (suc n) =
    let at = address_at addr n in
    let b = shown_byte s.image s.memory at in
    let here = when (not (is_some b)) (Unreadable at) in
    chain 24 (bytes_at s addr n) _ (unreadable s addr n) here (bytes_up s addr n) (when_from 24 (not (is_some b)) (Unreadable at) (omega arith)) (bytes_judged s addr n) (λ bytes is.
    then_done (shown_at s at) _ here (byte_judged at b))

-- ---- a watch

watched_up : (text : List ℕ) (r : Result Watched WatchFault) → UpTo 31 (watched_as text r)
watched_up text (Ok b) = tt
watched_up text (Err (Expr f)) = omega (arith, (kind_within f.kind).1)
watched_up text (Err Form) = omega arith
watched_up text (Err Undefined) = omega arith

data_from : (m : Memory) (addr n : ℕ) → From 24 (no_data m addr n)
data_from m addr zero = none_from 24
data_from m addr (suc n) =
    let at = addr % 2 ^ 32 in
    let out = not (is_some (value_at m at)) in
    both_from 24 (when out (Unreadable at)) (no_data m (addr + 1) n) (when_from 24 out (Unreadable at) (omega arith)) (data_from m (addr + 1) n)

-- the first byte that is no data, if it is the one in front
data_in_front : (at : ℕ) (v : Option ℕ) (r : Result (List ℕ) ℕ) (rs : List Refused) → From 24 rs → Judges (all_read r) rs → Judges (all_read (then_range at v r)) (when (not (is_some v)) (Unreadable at) ++ rs)
data_in_front at None r rs from j = first (refused.Hindered (Unreadable at)) rs from
data_in_front at (Some v) (Ok bytes) rs from j = j
data_in_front at (Some v) (Err a) rs from j = j

data_judged : (m : Memory) (addr n : ℕ) → Judges (all_read (range_at m addr n)) (no_data m addr n)
data_judged m addr zero = refl
data_judged m addr (suc n) = data_in_front (addr % 2 ^ 32) (value_at m (addr % 2 ^ 32)) (range_at m (addr + 1) n) (no_data m (addr + 1) n) (data_from m (addr + 1) n) (data_judged m (addr + 1) n)

data_up : (r : Result (List ℕ) ℕ) → UpTo 24 (all_read r)
data_up (Ok bytes) = tt
data_up (Err addr) = omega arith

watch_by : (s : Sight) (text : List ℕ) (a : Result Watched Refused) → UpTo 31 a
    → Judges (and_then a (λ b. and_then (are_data s b) (λ u. and_then (watch_room s) (λ v. Ok (adding s text b))))) (failed a ++ (unwatched_bytes s a ++ when (not (nat_lt (length s.watches) most_watches)) TooManyWatches))
watch_by s text (Ok b) up =
    let low = nat_lt (length s.watches) most_watches in
    let full = when (not low) TooManyWatches in
    let full_from : From 24 full = when_from 24 (not low) TooManyWatches (omega arith) in
    chain 24 (are_data s b) _ (no_data s.memory b.address b.size) full (data_up (range_at s.memory b.address b.size)) full_from (data_judged s.memory b.address b.size) (λ u is.
    then_done (watch_room s) _ full (ensured_judged low TooManyWatches))
watch_by s text (Err r) up =
    let low = nat_lt (length s.watches) most_watches in
    first r (when (not low) TooManyWatches) (when_from (number r) (not low) TooManyWatches (omega (arith, up)))

watch_judged : (s : Sight) (text : List ℕ) → Judges (watch s text) (against_watch s text)
watch_judged s text = watch_by s text (watched s.sources.names text) (watched_up text (watching s.sources.names text))

-- ---- steps

line_from : (into : Bool) (pc : ℕ) (row : Option Row) → From 10 (failed (line_plan into pc row))
line_from into pc None = one_from 10 _ (omega arith)
line_from into pc (Some row) = none_from 10

finish_from : (c : Option Caller) → From 10 (failed (finish_plan c))
finish_from None = one_from 10 _ (omega arith)
finish_from (Some c) = none_from 10

plan_from : (plan_of : Registers → Result Plan Refused) (a : Result Registers Refused) → ((r : Registers) → From 10 (failed (plan_of r))) → From 10 (no_plan plan_of a)
plan_from plan_of (Ok r) from = from r
plan_from plan_of (Err e) from = none_from 10

step_judged : (plan_of : Sight → Registers → Result Plan Refused) (s : Sight) (thread : Option ℕ) → ((r : Registers) → From 10 (failed (plan_of s r))) → Judges (step plan_of s thread) (against_step plan_of s thread)
step_judged plan_of s thread from =
    let t = thread_or s.selected thread in
    let none = no_plan (plan_of s) (stopped s t) in
    chain 10 (stopped s t) _ (against_stopped s t) none (stopped_up t (thread_at s.threads t)) (plan_from (plan_of s) (stopped s t) from) (stopped_judged s t) (λ r at.
    let here : none ≡ failed (plan_of s r) = ap (no_plan (plan_of s)) at in
    rw here (then_done (plan_of s r) _ (failed (plan_of s r)) (failed_judged (plan_of s r))))

-- ---- a new breakpoint

name_by : (sources : Sources) (name : List ℕ) (f : Option Symbol) → UpTo 15 (named sources name f) × From 8 (failed (named sources name f))
name_by sources name None = (omega arith, one_from 8 _ (omega arith))
name_by sources name (Some s) = (tt, none_from 8)

line_by : (file : List ℕ) (line : ℕ) (addr : Option ℕ) → UpTo 15 (on_line file line addr) × From 8 (failed (on_line file line addr))
line_by file line None = (omega arith, one_from 8 _ (omega arith))
line_by file line (Some addr) = (tt, none_from 8)

place_within : (sources : Sources) (l : Location) → UpTo 15 (place sources l) × From 8 (failed (place sources l))
place_within sources (location.Address addr) = (tt, none_from 8)
place_within sources (location.Name name) = name_by sources name (address_of sources.names name)
place_within sources (location.Line file line) = line_by file line (tables.address_of sources.lines file line)

text_from : (s : Sight) (p : Result ℕ Refused) → From 16 (no_text s p)
text_from s (Ok addr) = when_from 16 (not (is_some (text_word s.image addr))) (NoInstruction addr) (omega arith)
text_from s (Err r) = none_from 16

insert_judged : (s : Sight) (i : Insertion) → Judges (insert s i) (against_insert s i)
insert_judged s i =
    let p = place s.sources i.location in
    let texts = no_text s p in
    let low = nat_lt (length s.breaks) breakpoints in
    let full = when (not low) TooManyBreakpoints in
    let bad = failed (condition s.sources.names i.condition) in
    let bad_from = condition_from s.sources.names i.condition in
    let full_from : From 17 full = when_from 17 (not low) TooManyBreakpoints (omega arith) in
    let behind_text : From 17 (full ++ bad) = both_from 17 full bad full_from (less_from 17 18 bad (omega arith) bad_from) in
    let behind_place : From 16 (texts ++ (full ++ bad)) = both_from 16 texts (full ++ bad) (text_from s p) (less_from 16 17 (full ++ bad) (omega arith) behind_text) in
    let within = place_within s.sources i.location in
    let behind_thread : From 8 (failed p ++ (texts ++ (full ++ bad))) = both_from 8 (failed p) (texts ++ (full ++ bad)) within.1 (less_from 8 16 (texts ++ (full ++ bad)) (omega arith) behind_place) in
    chain 8 (known_thread s i.thread) _ (against_named (unknown s) i.thread) (failed p ++ (texts ++ (full ++ bad))) (named_up s i.thread) behind_thread (named_judged s i.thread) (λ u e.
    chain 15 p _ (failed p) (texts ++ (full ++ bad)) within.0 (less_from 15 16 (texts ++ (full ++ bad)) (omega arith) behind_place) (failed_judged p) (λ addr at.
    let word = is_some (text_word s.image addr) in
    let here : texts ≡ when (not word) (NoInstruction addr) = ap (no_text s) at in
    chain 16 (placed s addr) _ texts (full ++ bad) (ensured_up 16 word (NoInstruction addr) (omega arith)) (less_from 16 17 (full ++ bad) (omega arith) behind_text) (rw here (ensured_judged word (NoInstruction addr))) (λ v e.
    chain 17 (room s) _ full bad (ensured_up 17 low TooManyBreakpoints (omega arith)) (less_from 17 18 bad (omega arith) bad_from) (ensured_judged low TooManyBreakpoints) (λ w e.
    then_done (condition s.sources.names i.condition) _ bad (failed_judged (condition s.sources.names i.condition))))))

-- ---- writes

settable_by : (name : List ℕ) (register : ℕ) (b : Bool) → is_settable register ≡ b → From 28 (failed (settable name register))
settable_by name register true is = rw is (none_from 28)
settable_by name register false is = rw is (one_from 28 (refused.FixedRegister name) (omega arith))

register_judged : (s : Sight) (thread : Option ℕ) (name : List ℕ) (register value : ℕ) → Judges (set_register s thread name register value) (against_stopped s (thread_or s.selected thread) ++ failed (settable name register))
register_judged s thread name register value =
    let t = thread_or s.selected thread in
    let fixed = failed (settable name register) in
    chain 10 (stopped s t) _ (against_stopped s t) fixed (stopped_up t (thread_at s.threads t)) (less_from 10 28 fixed (omega arith) (settable_by name register (is_settable register) refl)) (stopped_judged s t) (λ r at.
    then_done (settable name register) _ fixed (failed_judged (settable name register)))

unwritable_from : (m : Memory) (addr n : ℕ) → From 27 (unwritable m addr n)
unwritable_from m addr zero = none_from 27
unwritable_from m addr (suc n) =
    let at = addr % 2 ^ 32 in
    both_from 27 (when (not (is_writable (map.get m at))) (Unwritable at)) (unwritable m (addr + 1) n) (when_from 27 (not (is_writable (map.get m at))) (Unwritable at) (omega arith)) (unwritable_from m (addr + 1) n)

-- the first byte that can't be written, if it is the one in front
in_front : (m : Memory) (addr n : ℕ) (b : Bool) → is_writable (map.get m (addr % 2 ^ 32)) ≡ b → Judges (none_unwritable (first_unwritable m (addr + 1) n)) (unwritable m (addr + 1) n)
    → Judges (none_unwritable (first_unwritable m addr (suc n))) (unwritable m addr (suc n))
in_front m addr n true is rest = rw is rest
in_front m addr n false is rest = rw is (first (refused.Hindered (Unwritable (addr % 2 ^ 32))) (unwritable m (addr + 1) n) (unwritable_from m (addr + 1) n))

unwritable_judged : (m : Memory) (addr n : ℕ) → Judges (none_unwritable (first_unwritable m addr n)) (unwritable m addr n)
unwritable_judged m addr zero = refl
unwritable_judged m addr (suc n) = in_front m addr n (is_writable (map.get m (addr % 2 ^ 32))) refl (unwritable_judged m (addr + 1) n)

-- ---- all commands

pub reply_judged : (s : Sight) (c : Command) → Judges (reply s c) (against s c)
unfolding reply against
reply_judged s (command.BreakInsert i) = insert_judged s i
reply_judged s (command.BreakDelete ns) = then_done (known_either s ns) _ (absent_from_both s ns) (either_judged s ns)
reply_judged s (command.BreakEnable ns) = then_done (known_either s ns) _ (absent_from_both s ns) (either_judged s ns)
reply_judged s (command.BreakDisable ns) = then_done (known_either s ns) _ (absent_from_both s ns) (either_judged s ns)
reply_judged s (command.BreakWatch text) = watch_judged s text
reply_judged s (command.BreakCondition n text) = condition_judged s n text
reply_judged s (command.BreakAfter n k) = then_done (known s (n ∷ [])) _ (absent s (n ∷ [])) (known_judged s (n ∷ []))
reply_judged s (command.Continue t) = go_on_judged s t
reply_judged s (command.Interrupt t) = interrupt_judged s t
reply_judged s (command.ThreadInfo t) = info_judged s t
reply_judged s (command.ThreadSelect t) = then_done (live s t) _ (against_live s t) (live_judged s t)
reply_judged s (command.RegisterValues t f ns) = then_done (stopped s (thread_or s.selected t)) _ (against_stopped s (thread_or s.selected t)) (stopped_judged s (thread_or s.selected t))
reply_judged s (command.FrameList t) = then_done (stopped s (thread_or s.selected t)) _ (against_stopped s (thread_or s.selected t)) (stopped_judged s (thread_or s.selected t))
reply_judged s (command.FrameDepth t) = then_done (stopped s (thread_or s.selected t)) _ (against_stopped s (thread_or s.selected t)) (stopped_judged s (thread_or s.selected t))
reply_judged s (command.FrameInfo t) = then_done (stopped s (thread_or s.selected t)) _ (against_stopped s (thread_or s.selected t)) (stopped_judged s (thread_or s.selected t))
reply_judged s (command.VariableList t with_values) = then_done (stopped s (thread_or s.selected t)) _ (against_stopped s (thread_or s.selected t)) (stopped_judged s (thread_or s.selected t))
reply_judged s (command.ReadMemory addr n) = then_done (bytes_at s addr n) _ (unreadable s addr n) (bytes_judged s addr n)
reply_judged s (command.WriteMemory addr bytes) =
    then_done (none_unwritable (first_unwritable s.memory addr (length bytes))) _ (unwritable s.memory addr (length bytes)) (unwritable_judged s.memory addr (length bytes))
reply_judged s (command.SetRegister t name register value) = register_judged s t name register value
reply_judged s (command.Evaluate t text) = evaluate_judged s t text
reply_judged s (command.Step t) = step_judged (line_step true) s t (λ r. line_from true r.pc (row_at s.sources.lines r.pc))
reply_judged s (command.Next t) = step_judged (line_step false) s t (λ r. line_from false r.pc (row_at s.sources.lines r.pc))
reply_judged s (command.StepInstruction t) = step_judged (one_step false) s t (λ r. none_from 10)
reply_judged s (command.NextInstruction t) = step_judged (one_step true) s t (λ r. none_from 10)
reply_judged s (command.Finish t) = step_judged finish_step s t (λ r. finish_from (caller_at s r))
reply_judged s _ = refl

pub asked_judged : (s : Sight) (r : Result Command Fault) → Judges (asked_reply s r) (against_asked s r)
unfolding asked_reply against_asked
asked_judged s (Ok c) = reply_judged s c
asked_judged s (Err (fault.Location word t)) =
    let f = refused.Faulty (fault.Location word t) in
    chain 8 (known_thread s t) _ (against_named (unknown s) t) (f ∷ []) (named_up s t) (one_from 8 f (omega arith)) (named_judged s t) (λ u is. alone f)
asked_judged s (Err _) = alone _
