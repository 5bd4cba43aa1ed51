-- What the changes of lines rest on.
use Rattle.std.proofs.Common.{◌≡◌, ◌<◌, ◌-◌, ℕ, zero, suc, Bool, true, false, List, length, map, refl, sym, ap, ◌∙◌, subst, nat_lt, arith}
use Rattle.std.specs.Prelude.{[], ◌∷◌, Option, Some, None, Result, Ok, Err, is_some, slice_get}
use Rattle.std.proofs.lemmas.Bool.Decides.{nat_tests}
use Rattle.rv_exec.specs.Registers.{Registers}
use Rattle.elf32_read.specs.Program.{Program, text_word}
use Rattle.break_table.specs.Entry.{Entry}
use Rattle.step_plans.specs.declared.plan.Plan.{Plan}
use Rattle.mi_input.specs.Parts.{PartsView, is_cli, after_blanks}
use Rattle.mi_input.specs.Reading.{parts_read}
use Rattle.mi_commands.specs.Commands.{answer}
use Rattle.mi_commands.specs.declared.command.Command.{Command}
use Rattle.mi_commands.specs.declared.command.Command.TheVariants as command
use Rattle.mi_commands.specs.declared.command.Insertion.{Insertion}
use Rattle.mi_commands.specs.declared.command.Target.{Target}
use Rattle.mi_commands.specs.declared.command.Target.TheVariants as target
use Rattle.mi_commands.specs.declared.refusal.Fault.{Fault}
use Rattle.mi_commands.specs.declared.refusal.Fault.TheVariants as fault
use Rattle.dbg_model.specs.Sources.{Sources}
use Rattle.elf_symbols.specs.Names.{Names}
use Rattle.watch_points.specs.declared.watch.Watched.{Watched}
use Rattle.watch_points.specs.declared.fault.WatchFault.{WatchFault}
use Rattle.watch_points.specs.declared.fault.WatchFault.TheVariants.{Expr, Form, Value}
use Rattle.watch_points.specs.Reading.{watching}
use Rattle.watch_points.proofs.Telling.{watching_sized}
use Rattle.rv_exec.specs.Memory.{IsLen, Memory}
use Rattle.plain_machine.specs.PlainRun.{is_settable}
use Rattle.dbg_model.specs.declared.entry.Mode.{Mode}
use Rattle.dbg_model.specs.declared.entry.Mode.TheVariants as mode
use Rattle.dbg_model.specs.declared.entry.Poke.{Poke}
use Rattle.dbg_model.specs.declared.entry.Poke.TheVariants as poke
use Rattle.dbg_model.specs.declared.thread_view.ThreadView.{ThreadView}
use Rattle.dbg_model.specs.declared.thread_view.ThreadView.TheVariants as view
use Rattle.dbg_model.specs.declared.opening.Opening.{Opening}
use Rattle.dbg_model.specs.declared.reply.Obstacle.{Obstacle}
use Rattle.dbg_model.specs.declared.reply.Obstacle.TheVariants.{UnknownThread}
use Rattle.dbg_model.specs.declared.reply.Refused.{Refused}
use Rattle.dbg_model.specs.declared.reply.Refused.TheVariants.{FixedRegister}
use Rattle.dbg_model.specs.declared.reply.Thread.{Thread}
use Rattle.dbg_model.specs.Limits.{breakpoints}
use Rattle.watch_points.specs.Watches.{most_watches}
use Rattle.dbg_model.specs.declared.hart.Hart.{Hart}
use Rattle.dbg_model.specs.State.{State, is_stopped}
use Rattle.dbg_model.specs.Sight.{Sight, thread_at, live, live_as, running, sight_of, stopped, stopped_as, thread_or, view_by, view_of}
use Rattle.dbg_model.specs.Outcome.{Change, Outcome, adds_watch, and_then, inserts, pokes, selects, showing, told}
use Rattle.dbg_model.specs.Threads.{go_on, interrupt, thread_info}
use Rattle.dbg_model.specs.Steps.{finish_step, line_step, one_step, step}
use Rattle.dbg_model.specs.Writes.{none_unwritable, settable}
use Rattle.data_memory.specs.Ranges.{first_unwritable}
use Rattle.dbg_model.specs.Watchpoints.{are_data, watch, watch_room, watched, watched_as}
use Rattle.dbg_model.specs.Breakpoints.{condition, ensured, insert, known, known_either, known_thread, place, placed, room}
use Rattle.dbg_model.specs.Data.{bytes_at, worth_of}
use Rattle.dbg_model.specs.Variables.{expression_in}
use Rattle.dbg_model.proofs.Options.{same_some}
use Rattle.dbg_model.specs.Command.{asked_reply, reply}
use Rattle.dbg_model.specs.Reply.{answer_by, answer_of, answer_to, no_parts}

-- a thread that is named is there
abbrev pub IsThereOr : {A : Type 0} → List A → Option ℕ → Type 0
IsThereOr xs None = Unit {0}
IsThereOr xs (Some thread) = is_some (thread_at xs thread) ≡ true

-- a breakpoint has a word of text, room and its thread; a thread that is selected is there
abbrev pub IsFounded : {A : Type 0} → Program → List A → List Entry → Change → Type 0
IsFounded p xs es (inserts a) = (is_some (text_word p a.address) ≡ true) × (length es < breakpoints) × IsThereOr xs a.thread
IsFounded p xs es (selects thread) = is_some (thread_at xs thread) ≡ true
IsFounded p xs es _ = Unit {0}

-- a thread of this hart is stopped
record IsStoppedAt (vs : List ThreadView) (h : ℕ) : Type 0 where
  regs : Registers
  at : slice_get vs h ≡ Some (view.Stopped regs)

-- a register that is set is one of a thread that is stopped, and one that can be; bytes that are written can all be
abbrev CanWrite : List ThreadView → Memory → Poke → Type 0
CanWrite vs m (poke.Register h n v) = IsStoppedAt vs h × (is_settable n ≡ true)
CanWrite vs m (poke.Bytes a bytes) = first_unwritable m a (length bytes) ≡ None

abbrev Rests : Sight → Change → Type 0
Rests s (pokes p) = CanWrite s.threads s.memory p
Rests s (adds_watch text b) = (length s.watches < most_watches) × IsLen b.size
Rests s c = IsFounded s.image s.threads s.breaks c

-- what is done rests on that
abbrev IsSound : Sight → Result Outcome Refused → Type 0
IsSound s (Ok o) = Rests s o.change
IsSound s (Err r) = Unit {0}

told_rests : (s : Sight) (r : Result Outcome Refused) → IsSound s r → Rests s (told r).change
told_rests s (Ok o) h = h
told_rests s (Err r) h = tt

-- what comes behind a test
behind : {A : Type 0} (s : Sight) (a : Result A Refused) (next : A → Result Outcome Refused) → ((x : A) → a ≡ Ok x → IsSound s (next x)) → IsSound s (and_then a next)
behind s (Ok x) next h = h x refl
behind s (Err r) next h = tt

holds : (b : Bool) (o : Obstacle) (u : Unit {0}) → ensured b o ≡ Ok u → b ≡ true
holds true o u is = refl
holds false o u is = cc

is_there : (s : Sight) (t : Option ℕ) (u : Unit {0}) → known_thread s t ≡ Ok u → IsThereOr s.threads t
is_there s None u is = tt
is_there s (Some t) u is = holds (is_some (thread_at s.threads t)) (UnknownThread t) u is

has_room : (n : ℕ) → nat_lt n breakpoints ≡ true → n < breakpoints
has_room n h = grind (arith, nat_tests)

is_live : (sources : Sources) (t : ℕ) (r : Option ThreadView) (x : Thread) → live_as sources t r ≡ Ok x → is_some r ≡ true
is_live sources t None x is = cc
is_live sources t (Some v) x is = refl

insert_sound : (s : Sight) (i : Insertion) → IsSound s (insert s i)
insert_sound s i =
    behind s (known_thread s i.thread) _ (λ u there.
    behind s (place s.sources i.location) _ (λ addr at.
    behind s (placed s addr) _ (λ v text.
    behind s (room s) _ (λ w low.
    behind s (condition s.sources.names i.condition) _ (λ c is.
    (holds _ _ v text, has_room (length s.breaks) (holds _ _ w low), is_there s i.thread u there))))))

has_place : (n : ℕ) → nat_lt n most_watches ≡ true → n < most_watches
has_place n h = grind (arith, nat_tests)

watch_read : (text : List ℕ) (r : Result Watched WatchFault) (b : Watched) → watched_as text r ≡ Ok b → r ≡ Ok b
watch_read text (Ok c) b is = let same : c ≡ b = cc in ap Ok same
watch_read text (Err (Expr f)) b is = cc
watch_read text (Err Form) b is = cc
watch_read text (Err Value) b is = cc

-- what is watched is a byte, a half-word or a word
pub watched_sized : (names : Names) (text : List ℕ) (b : Watched) → watched names text ≡ Ok b → IsLen b.size
watched_sized names text b is = watching_sized names text b (watch_read text (watching names text) b is)

watch_sound : (s : Sight) (text : List ℕ) → IsSound s (watch s text)
watch_sound s text =
    behind s (watched s.sources.names text) _ (λ b is.
    behind s (are_data s b) _ (λ u had.
    behind s (watch_room s) _ (λ v low.
    (has_place (length s.watches) (holds _ _ v low), watched_sized s.sources.names text b is))))

known_sound : (s : Sight) (ns : List ℕ) (next : Unit {0} → Result Outcome Refused) → ((u : Unit {0}) → IsSound s (next u)) → IsSound s (and_then (known s ns) next)
known_sound s ns next h = behind s (known s ns) next (λ u is. h u)

go_on_sound : (s : Sight) (t : Target) → IsSound s (go_on s t)
go_on_sound s target.Selected = behind s (stopped s s.selected) _ (λ r is. tt)
go_on_sound s (target.Thread t) = behind s (stopped s t) _ (λ r is. tt)
go_on_sound s target.All = tt

interrupt_sound : (s : Sight) (t : Target) → IsSound s (interrupt s t)
interrupt_sound s target.Selected = behind s (running s s.selected) _ (λ u is. tt)
interrupt_sound s (target.Thread t) = behind s (running s t) _ (λ u is. tt)
interrupt_sound s target.All = tt

step_sound : (plan_of : Sight → Registers → Result Plan Refused) (s : Sight) (t : Option ℕ) → IsSound s (step plan_of s t)
step_sound plan_of s t = behind s (stopped s (thread_or s.selected t)) _ (λ r at. behind s (plan_of s r) _ (λ plan is. tt))

info_sound : (s : Sight) (t : Option ℕ) → IsSound s (thread_info s t)
info_sound s None = tt
info_sound s (Some t) = behind s (live s t) _ (λ x is. tt)

evaluate_sound : (s : Sight) (t : ℕ) (text : List ℕ) → IsSound s (and_then (stopped s t) (λ r. and_then (expression_in s r text) (λ tree. and_then (worth_of s r tree) (λ v. Ok (showing v)))))
evaluate_sound s t text = behind s (stopped s t) _ (λ r at. behind s (expression_in s r text) _ (λ tree is. behind s (worth_of s r tree) _ (λ v had. tt)))

all_writable : (r : Option ℕ) (u : Unit {0}) → none_unwritable r ≡ Ok u → r ≡ None
all_writable None u is = refl
all_writable (Some addr) u is = cc

is_set : (name : List ℕ) (register : ℕ) (b : Bool) (u : Unit {0}) → is_settable register ≡ b → settable name register ≡ Ok u → is_settable register ≡ true
is_set name register true u same is = same
is_set name register false u same is = let e : settable name register ≡ Err (FixedRegister name) = rw same refl in absurd (let f = sym is ∙ e in cc)

stopped_by : (t : ℕ) (x : Option ThreadView) (r : Registers) → stopped_as t x ≡ Ok r → (q : Registers) × (x ≡ Some (view.Stopped q))
stopped_by t None r is = cc
stopped_by t (Some (view.Stopped q)) r is = (q, refl)
stopped_by t (Some view.Running) r is = cc
stopped_by t (Some view.Exited) r is = cc

stopped_there : (vs : List ThreadView) (t : ℕ) (r : Registers) → stopped_as t (thread_at vs t) ≡ Ok r → IsStoppedAt vs (t - 1)
stopped_there vs zero r is = cc
stopped_there vs (suc h) r is =
    let s = stopped_by (suc h) (slice_get vs h) r is in
    let same : suc h - 1 ≡ h = omega arith in
    record { regs = s.0; at = ap (slice_get vs) same ∙ s.1 }

reply_sound : (s : Sight) (c : Command) → IsSound s (reply s c)
unfolding reply
reply_sound s (command.BreakInsert i) = insert_sound s i
reply_sound s (command.BreakDelete ns) = behind s (known_either s ns) _ (λ u is. tt)
reply_sound s (command.BreakEnable ns) = behind s (known_either s ns) _ (λ u is. tt)
reply_sound s (command.BreakDisable ns) = behind s (known_either s ns) _ (λ u is. tt)
reply_sound s (command.BreakWatch text) = watch_sound s text
reply_sound s (command.BreakCondition n text) = known_sound s (n ∷ []) _ (λ u. behind s (condition s.sources.names text) _ (λ c is. tt))
reply_sound s (command.BreakAfter n k) = known_sound s (n ∷ []) _ (λ u. tt)
reply_sound s (command.Continue t) = go_on_sound s t
reply_sound s (command.Interrupt t) = interrupt_sound s t
reply_sound s (command.Step t) = step_sound (line_step true) s t
reply_sound s (command.Next t) = step_sound (line_step false) s t
reply_sound s (command.StepInstruction t) = step_sound (one_step false) s t
reply_sound s (command.NextInstruction t) = step_sound (one_step true) s t
reply_sound s (command.Finish t) = step_sound finish_step s t
reply_sound s (command.ThreadInfo t) = info_sound s t
reply_sound s (command.ThreadSelect t) = behind s (live s t) _ (λ x is. is_live s.sources t (thread_at s.threads t) x is)
reply_sound s (command.FrameList t) = behind s (stopped s (thread_or s.selected t)) _ (λ r is. tt)
reply_sound s (command.FrameDepth t) = behind s (stopped s (thread_or s.selected t)) _ (λ r is. tt)
reply_sound s (command.FrameInfo t) = behind s (stopped s (thread_or s.selected t)) _ (λ r is. tt)
reply_sound s (command.VariableList t with_values) = behind s (stopped s (thread_or s.selected t)) _ (λ r is. tt)
reply_sound s (command.RegisterValues t f ns) = behind s (stopped s (thread_or s.selected t)) _ (λ r is. tt)
reply_sound s (command.ReadMemory addr count) = behind s (bytes_at s addr count) _ (λ bytes is. tt)
reply_sound s (command.WriteMemory addr bytes) =
    behind s (none_unwritable (first_unwritable s.memory addr (length bytes))) _ (λ u is. all_writable (first_unwritable s.memory addr (length bytes)) u is)
reply_sound s (command.SetRegister t name register value) =
    behind s (stopped s (thread_or s.selected t)) _ (λ r at.
    behind s (settable name register) _ (λ u is.
    (stopped_there s.threads (thread_or s.selected t) r at, is_set name register (is_settable register) u refl is)))
reply_sound s (command.Evaluate t text) = evaluate_sound s (thread_or s.selected t) text
reply_sound s _ = tt

asked_sound : (s : Sight) (r : Result Command Fault) → IsSound s (asked_reply s r)
unfolding asked_reply
asked_sound s (Ok c) = reply_sound s c
asked_sound s (Err (fault.Location word t)) = behind s (known_thread s t) _ (λ u is. tt)
asked_sound s (Err _) = tt

no_parts_rest : (s : Sight) (start : List ℕ) (b : Bool) → is_cli start ≡ b → Rests s (no_parts start).outcome.change
no_parts_rest s start true is = rw is tt
no_parts_rest s start false is = rw is tt

parts_rest : (s : Sight) (line : List ℕ) (r : Option PartsView) → Rests s (answer_by s line r).outcome.change
parts_rest s line None = no_parts_rest s (after_blanks line) (is_cli (after_blanks line)) refl
parts_rest s line (Some p) = told_rests s (asked_reply s (answer p)) (asked_sound s (answer p))

line_rests : (s : Sight) (line : List ℕ) (b : Bool) → nat_lt 4096 (length line) ≡ b → Rests s (answer_to s line).outcome.change
unfolding answer_to
line_rests s line true is = rw is tt
line_rests s line false is = rw is (parts_rest s line (parts_read line))

get_view : (xs : List Hart) (h : ℕ) → is_some (slice_get (map view_of xs) h) ≡ is_some (slice_get xs h)
get_view [] h = refl
get_view (x ∷ xs) zero = refl
get_view (x ∷ xs) (suc h) = get_view xs h

at_view : (xs : List Hart) (t : ℕ) → is_some (thread_at (map view_of xs) t) ≡ is_some (thread_at xs t)
at_view xs zero = refl
at_view xs (suc h) = get_view xs h

there_in : (xs : List Hart) (t : Option ℕ) → IsThereOr (map view_of xs) t → IsThereOr xs t
there_in xs None h = tt
there_in xs (Some t) h = sym (at_view xs t) ∙ h

founded_in : (p : Program) (xs : List Hart) (es : List Entry) (c : Change) → IsFounded p (map view_of xs) es c → IsFounded p xs es c
founded_in p xs es (inserts a) h = (h.0, h.1, there_in xs a.thread h.2)
founded_in p xs es (selects t) h = sym (at_view xs t) ∙ h
founded_in p xs es _ h = h

rests_founded : (s : Sight) (c : Change) → Rests s c → IsFounded s.image s.threads s.breaks c
rests_founded s (pokes p) h = tt
rests_founded s (inserts a) h = h
rests_founded s (selects t) h = h
rests_founded s _ h = tt

-- the change of a line
pub change_founded : (o : Opening) (s : State) (line : List ℕ) → IsFounded o.image s.harts s.breaks (answer_of o s line).outcome.change
change_founded o s line =
    let c = (answer_of o s line).outcome.change in
    founded_in o.image s.harts s.breaks c (rests_founded (sight_of o s) c (line_rests (sight_of o s) line (nat_lt 4096 (length line)) refl))

-- a stopped hart is there
pub record IsStoppedHart (xs : List Hart) (h : ℕ) : Type 0 where
  pub hart : Hart
  pub at : slice_get xs h ≡ Some hart
  pub stopped : is_stopped hart.mode ≡ true

-- a write can be made: of a register that can be set, of a stopped hart, or of bytes that can all be written
abbrev pub IsWritable : State → Poke → Type 0
IsWritable s (poke.Register h n v) = IsStoppedHart s.harts h × (is_settable n ≡ true)
IsWritable s (poke.Bytes a bytes) = first_unwritable s.memory a (length bytes) ≡ None

stopped_view : (r q : Registers) (m : Mode) → view_by r m ≡ view.Stopped q → is_stopped m ≡ true
stopped_view r q mode.Stopped is = refl
stopped_view r q mode.Running is = cc
stopped_view r q (mode.Leaving code) is = cc
stopped_view r q mode.Exited is = cc

stopped_hart : (xs : List Hart) (h : ℕ) (q : Registers) → slice_get (map view_of xs) h ≡ Some (view.Stopped q) → IsStoppedHart xs h
stopped_hart [] h q is = cc
stopped_hart (x ∷ xs) zero q is = record { hart = x; at = refl; stopped = stopped_view x.regs q x.mode (same_some (view_of x) (view.Stopped q) is) }
stopped_hart (x ∷ xs) (suc h) q is = let s = stopped_hart xs h q is in record { hart = s.hart; at = s.at; stopped = s.stopped }

writable_in : (s : State) (p : Poke) → CanWrite (map view_of s.harts) s.memory p → IsWritable s p
writable_in s (poke.Register h n v) w = (stopped_hart s.harts h w.0.regs w.0.at, w.1)
writable_in s (poke.Bytes a bytes) w = w

-- what a line asks to be written can be
pub change_writable : (o : Opening) (s : State) (line : List ℕ) (p : Poke) → (answer_of o s line).outcome.change ≡ pokes p → IsWritable s p
change_writable o s line p is =
    let rests = line_rests (sight_of o s) line (nat_lt 4096 (length line)) refl in
    writable_in s p (subst (Rests (sight_of o s)) is rests)

-- a watch that a line adds has room, and is of a byte, a half-word or a word
pub change_watchable : (o : Opening) (s : State) (line text : List ℕ) (b : Watched) → (answer_of o s line).outcome.change ≡ adds_watch text b → (length s.watches < most_watches) × IsLen b.size
change_watchable o s line text b is =
    let rests = line_rests (sight_of o s) line (nat_lt 4096 (length line)) refl in
    subst (Rests (sight_of o s)) is rests
