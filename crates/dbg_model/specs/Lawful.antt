-- Which entries may come in a state, and the state that each leaves. This project's own.
use Rattle.std.specs.Prelude.{ℕ, suc, zero, ◌+◌, Bool, true, false, List, [], ◌∷◌, ◌++◌, map, Option, Some, None, option_and_then, is_none, if◌then◌else◌, ◌==◌, ◌&&◌, not, nat_lt, slice_get, slice_index, slice_set}
use Rattle.std.specs.Option.{option_map}
use Rattle.rv_exec.specs.declared.effect.Cause.{Cause}
use Rattle.rv_exec.specs.Causes.{cause_number}
use Rattle.rv_exec.specs.Registers.{Registers}
use Rattle.rv_exec.specs.Memory.{Memory}
use Rattle.plain_machine.specs.Environment.{Answer, Traps, Goes, Leave, Stays, LeavesAlone, LeavesAll}
use Rattle.plain_machine.specs.Plain.{plain}
use Rattle.dbg_model.specs.declared.entry.Mode.{Mode}
use Rattle.dbg_model.specs.declared.entry.Mode.TheVariants as mode
use Rattle.dbg_model.specs.declared.entry.Why.{Why}
use Rattle.dbg_model.specs.declared.entry.Why.TheVariants.{Break, Watch, Stepped, Finished, Interrupted, Fault}
use Rattle.dbg_model.specs.declared.entry.Entry.{Entry}
use Rattle.dbg_model.specs.declared.entry.Entry.TheVariants.{Ran, Counted, Stopped, Left, Did, Poked}
use Rattle.dbg_model.specs.declared.entry.Poke.{Poke}
use Rattle.dbg_model.specs.declared.hart.Hart.{Hart}
use Rattle.dbg_model.specs.declared.judgement.Judgement.{Judgement}
use Rattle.dbg_model.specs.declared.opening.Opening.{Opening}
use Rattle.watch_points.specs.declared.watchpoint.Fired.{Fired}
use Rattle.dbg_model.specs.Limits.{history}
use Rattle.dbg_model.specs.Breaks.{is_stop}
use Rattle.dbg_model.specs.Courses.{after_count, after_instruction, at_stop, noted_with, with_plan}
use Rattle.dbg_model.specs.Judging.{ends_function, ends_step, fires, is_counted, is_due, plan_after}
use Rattle.break_table.specs.Table.{stands}
use Rattle.dbg_model.specs.State.{State, is_running, has_exited, is_off, any_runs, any_leaves, due, arrived}
use Rattle.watch_points.specs.Watches.{fired_by, is_fired, risen}
use Rattle.dbg_model.specs.Pokes.{is_pending, with_poke, written}
use Rattle.dbg_model.specs.Reply.{done_by, is_wait}

-- no exit is still to be reported, neither the budget nor the history is used up, no `-gdb-exit` was done, and nothing is
-- still to be written
abbrev pub may_go : Opening → State → Bool
may_go o s = not (any_leaves s.harts) && (nat_lt s.retired o.settings.budget && (nat_lt s.noted history && (not s.exited && is_none s.pending)))

-- a line may be done; one that waits only where no hart runs
abbrev pub may_do : Opening → State → List ℕ → Bool
may_do o s line = may_go o s && not (any_runs s.harts && is_wait line)

-- a hart may move
abbrev pub may_move : Opening → State → Hart → Bool
may_move o s x = may_go o s && is_running x.mode

-- a hart may execute: nothing is due first
abbrev pub may_run : Opening → State → ℕ → Hart → Bool
may_run o s h x = may_move o s x && not (is_due (due o.image s h x))

-- a hart goes on with the plan that its arrival gave it
abbrev pub set_out : Judgement → Hart → Hart
set_out j x = record x { course = with_plan (plan_after j.verdict) x.course }

-- a hart after an instruction that left these registers, and made this watch fire
abbrev pub stepped : Hart → Registers → Option Fired → Hart
stepped x r fired = record x { regs = r; course = after_instruction (noted_with x.course.plan x.regs.pc) fired x.course }

-- a live hart leaves
abbrev pub leaving : ℕ → Hart → Hart
leaving code x = if has_exited x.mode then x else record x { mode = mode.Leaving code }

abbrev pub leaving_at : ℕ → List Hart → ℕ → Option Hart → List Hart
leaving_at code xs h None = xs
leaving_at code xs h (Some x) = slice_set xs h (leaving code x)

-- the harts after an instruction of hart h
abbrev pub with_leavers : Leave → List Hart → ℕ → List Hart
with_leavers Stays xs h = xs
with_leavers (LeavesAlone code) xs h = leaving_at code xs h (slice_get xs h)
with_leavers (LeavesAll code) xs h = map (leaving code) xs

-- an enabled breakpoint stands where the hart is, and displaced stepping isn't off
abbrev pub passes : State → Hart → Bool
passes s x = not (is_off s.displaced) && stands x.regs.pc s.breaks

abbrev pub one_more_at : List ℕ → ℕ → Bool → List ℕ
one_more_at ns h true = slice_set ns h (slice_index ns h + 1)
one_more_at ns h false = ns

-- the state after an instruction of a hart
abbrev pub with_step : State → ℕ → Hart → Registers → Memory → List ℕ → Leave → State
with_step s h x r m out leave = record s {
  harts = with_leavers leave (slice_set s.harts h (stepped x r (fired_by s.watches s.memory m))) h;
  memory = m;
  out = s.out ++ out;
  passed = one_more_at s.passed h (passes s x);
  retired = s.retired + 1;
}

abbrev pub stepped_by : Answer → State → ℕ → Hart → Option State
stepped_by (Traps cause) s h x = None
stepped_by (Goes r m out leave) s h x = Some (with_step s h x r m out leave)

abbrev pub one_by : Opening → State → ℕ → Option Hart → Option State
one_by o s h None = None
one_by o s h (Some x) = if may_run o s h x then stepped_by (plain o.image x.regs s.memory) s h (set_out (due o.image s h x) x) else None

-- one instruction of a hart
unfoldable pub one : Opening → ℕ → State → Option State
one o h s = one_by o s h (slice_get s.harts h)

-- n instructions of a hart
abbrev pub ran : Opening → ℕ → State → ℕ → Option State
ran o h s zero = Some s
ran o h s (suc n) = option_and_then (one o h) (ran o h s n)

abbrev pub stopped_hart : Hart → Hart
stopped_hart x = record x { mode = mode.Stopped; asked = false; course = at_stop }

abbrev pub with_stop : State → ℕ → Hart → State
with_stop s h x = record s { harts = slice_set s.harts h (stopped_hart x); noted = s.noted + 1 }

-- the instruction traps with this cause
abbrev pub faulted_by : Answer → Cause → State → ℕ → Hart → Option State
faulted_by (Traps met) cause s h x = if cause_number met == cause_number cause then Some (with_stop s h x) else None
faulted_by (Goes r m out leave) cause s h x = None

-- a hart stops where it has arrived, with the changes of the breakpoints there and of the watch that fired
abbrev pub with_arrival : Opening → State → ℕ → Hart → State
with_arrival o s h x = record (with_stop s h x) { breaks = arrived o.image s h x; watches = risen x.course.fired s.watches }

-- a hart stops: at a breakpoint that it has just come to, by a watch that fired, at the end of its step or of its function, by an interrupt that
-- was asked, or by a trap
abbrev pub stopped_by : Opening → State → ℕ → Why → Option Hart → Option State
stopped_by o s h why None = None
stopped_by o s h (Break number error) (Some x) =
    if may_move o s x && is_stop (due o.image s h x).breaks number error then Some (with_arrival o s h x) else None
stopped_by o s h (Watch f) (Some x) = if may_move o s x && is_fired (fires (due o.image s h x)) f then Some (with_arrival o s h x) else None
stopped_by o s h Stepped (Some x) = if may_move o s x && ends_step (due o.image s h x) then Some (with_arrival o s h x) else None
stopped_by o s h Finished (Some x) = if may_move o s x && ends_function (due o.image s h x) then Some (with_arrival o s h x) else None
stopped_by o s h Interrupted (Some x) = if may_run o s h x && x.asked then Some (with_stop s h x) else None
stopped_by o s h (Fault cause) (Some x) = if may_run o s h x then faulted_by (plain o.image x.regs s.memory) cause s h x else None

-- a hart that was counted has arrived, and isn't fresh any more
abbrev pub counted : Hart → Hart
counted x = record x { course = after_count x.course }

abbrev pub with_count : Opening → State → ℕ → Hart → State
with_count o s h x = record s { harts = slice_set s.harts h (counted (set_out (due o.image s h x) x)); breaks = arrived o.image s h x; noted = s.noted + 1 }

-- a hart is only counted by the breakpoints that it has just come to
abbrev pub counted_by : Opening → State → ℕ → Option Hart → Option State
counted_by o s h None = None
counted_by o s h (Some x) = if may_move o s x && is_counted (due o.image s h x) then Some (with_count o s h x) else None

abbrev pub leaver_or : ℕ → Mode → Option (ℕ × ℕ) → Option (ℕ × ℕ)
leaver_or k (mode.Leaving code) rest = Some (k, code)
leaver_or k _ rest = rest

-- the least hart that leaves, counted from k, with its code
abbrev pub leaver_from : ℕ → List Hart → Option (ℕ × ℕ)
leaver_from k [] = None
leaver_from k (x ∷ xs) = leaver_or k x.mode (leaver_from (k + 1) xs)

abbrev pub exited : Hart → Hart
exited x = record x { mode = mode.Exited }

abbrev pub exited_at : List Hart → ℕ → Option Hart → List Hart
exited_at xs h None = xs
exited_at xs h (Some x) = slice_set xs h (exited x)

-- the least hart that leaves exits with its code; none after a `-gdb-exit`
abbrev pub left_by : State → ℕ → ℕ → Option (ℕ × ℕ) → Option State
left_by s h code None = None
left_by s h code (Some leaver) =
    if not s.exited && ((leaver.0 == h) && (leaver.1 == code)) then Some (record s { harts = exited_at s.harts h (slice_get s.harts h); noted = s.noted + 1 }) else None

-- what the line before asked for is written
abbrev pub poked_by : State → Poke → Option State
poked_by s p = if is_pending s.pending p then option_map with_poke (written s p) else None

-- the state after an entry, where it may come
unfoldable pub enter : Opening → State → Entry → Option State
enter o s (Ran h n) = if nat_lt 0 n then ran o h s n else None
enter o s (Counted h) = counted_by o s h (slice_get s.harts h)
enter o s (Stopped h why) = stopped_by o s h why (slice_get s.harts h)
enter o s (Left h code) = left_by s h code (leaver_from 0 s.harts)
enter o s (Did line) = if may_do o s line then Some (done_by o s line) else None
enter o s (Poked p) = poked_by s p

-- the bytes that an instruction writes
abbrev pub answer_out : Answer → List ℕ
answer_out (Traps cause) = []
answer_out (Goes r m out leave) = out

abbrev pub hart_out : Opening → State → Option Hart → List ℕ
hart_out o s None = []
hart_out o s (Some x) = answer_out (plain o.image x.regs s.memory)

-- the bytes that the next instruction of a hart writes
unfoldable pub one_out : Opening → ℕ → State → List ℕ
one_out o h s = hart_out o s (slice_get s.harts h)
