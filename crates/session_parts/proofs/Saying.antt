-- What a turn and a line say.
use Rattle.std.proofs.Common.{◌≡◌, ◌<◌, ◌≤◌, ℕ, zero, suc, ◌+◌, ◌-◌, ◌*◌, Bool, true, false, List, [], ◌∷◌, ◌++◌, length, length-set, refl, sym, ap, ◌∙◌, arith, subst, cond, not, append_assoc}
use Rattle.std.specs.Prelude.{Option, Some, None, is_none, ◌&&◌, ◌⊎◌, map, slice_get}
use mathlib.Core.Logic.{inl, inr}
use mathlib.Core.List.{append-nil}
use Rattle.rv_exec.specs.declared.effect.Stepped.{Stepped}
use Rattle.rv_exec.specs.declared.effect.Stepped.TheVariants as stepped
use Rattle.dbg_model.specs.declared.reply.Reply.{Reply}
use Rattle.dbg_model.specs.declared.entry.Entry.{Entry}
use Rattle.dbg_model.specs.declared.entry.Entry.TheVariants.{Ran, Counted, Stopped, Did, Poked}
use Rattle.dbg_model.specs.declared.entry.Poke.{Poke}
use Rattle.dbg_model.specs.declared.entry.Why.{Why}
use Rattle.dbg_model.specs.declared.opening.Opening.{Opening}
use Rattle.data_memory.specs.Ranges.{bytes_at}
use Rattle.dbg_model.specs.State.{State, all_gone, any_runs}
use Rattle.dbg_model.specs.Lawful.{enter, one}
use Rattle.dbg_model.specs.Leaving.{lefts_from, gone}
use Rattle.dbg_model.specs.Journals.{Leaves, lengthened, did}
use Rattle.dbg_model.specs.Reply.{done_by}
use Rattle.dbg_model.proofs.Options.{same_some}
use Rattle.dbg_model.proofs.Counting.{poked_adds}
use Rattle.dbg_model.proofs.Adding.{came_by, lengthens}
use Rattle.dbg_model.proofs.Ending.{one_open}
use Rattle.mi_values.specs.Record.{LineTree}
use Rattle.mi_reports.specs.Text.{stream_lines}
use Rattle.mi_reports.specs.Lines.{lines_of}
use Rattle.mi_reports.specs.Replies.{reply_lines}
use Rattle.mi_reports.specs.Said.{entry_lines, said_lines}
use Rattle.mi_reports.proofs.Saying.{said_added, said_lengthened}
use Rattle.mi_reports.proofs.Leaving.{gone_trees, lefts_lines, said_exits}
use Rattle.engine_parts.specs.declared.moving.Turned.{Turned}
use Rattle.engine_parts.specs.declared.moving.Turned.TheVariants as turned
use Rattle.engine_parts.specs.declared.moving.Move.{Move}
use Rattle.engine_parts.specs.declared.moving.Move.TheVariants as move
use Rattle.engine_parts.specs.declared.moving.Standing.{Standing}
use Rattle.engine_parts.specs.declared.moving.Standing.TheVariants as standing
use Rattle.engine_parts.specs.declared.mind.Mind.{Mind}
use Rattle.engine_parts.specs.declared.mind.Hold.{Hold}
use Rattle.step_over.specs.declared.phase.Phase.{Phase}
use Rattle.step_over.specs.declared.phase.Phase.TheVariants as phase
use Rattle.engine_parts.specs.Seen.{Engine, seen, seen_hart}
use Rattle.engine_parts.specs.Facts.{Facts}
use Rattle.engine_parts.specs.Minds.{mode_of, is_active, with_phase, counted_mind, first_mind}
use Rattle.engine_parts.specs.Moves.{plan_for}
use Rattle.engine_parts.proofs.Showing.{seen_at}
use Rattle.engine_parts.specs.Several.{is_quiet}
use Rattle.engine_parts.specs.Calls.{Moves, Turns, Stands as EngineStands, StopsFor, Runs, Exits, Counts, Copies, Lifts, Fixes, Plants, Rephases, Does, pokes_of, poked_after}
use Rattle.engine_parts.specs.Shown.{shown_by, wrote}
use Rattle.engine_parts.proofs.Arrivals.{stopped_halts}
use Rattle.engine_parts.proofs.Shown.{stop_shows}
use Rattle.engine_parts.specs.Movers.{runs_at, runs_as, is_free, is_idle, idle_as, waits_for_slot}
use Rattle.session_parts.specs.Stage.{stage_of, work_of, instruction_worth, most_added, most_moves, running, moves, moves_of, moves_left, moves_at}
use Rattle.dbg_model.specs.State.{is_running}
use Rattle.dbg_model.specs.Lawful.{may_go}
use Rattle.engine_parts.specs.declared.mind.Activity.{Activity}
use Rattle.engine_parts.specs.declared.mind.Activity.TheVariants as activity
use Rattle.session_parts.specs.Steps.{lines_by, Goes}
use Rattle.session_parts.specs.Reported.{Notes, move_lines, noted_since, shown_lines}
use Rattle.session_parts.proofs.Exits.{are_lefts, last_lines, lefts_last, shows_lefts}
use Rattle.session_parts.proofs.Noting.{lefts_moved, lefts_noted, lengthened_notes, notes, since}
use Rattle.session_parts.proofs.Timing.{did_line, Grown, grown_same, grown_more, grown_lengthened, grown_exits}
use Rattle.session_parts.proofs.Working.{one_works, one_runs, halt_runs, halts, count_notes, count_runs, done_retired, running_gone, running_most, moves_most, moves_set}
use Rattle.session_parts.proofs.Picking.{out_so}
use Rattle.engine_parts.proofs.Commanding.{harts_length}

-- what a move says, and leaves to do
pub record Said (m : Move) (r s : Engine) (h : ℕ) : Type 0 where
  pub opening : s.opening ≡ r.opening
  pub notes : Notes s r.noted
  pub said : lines_by (stage_of s) ≡ lines_by (stage_of r) ++ move_lines s m h r.noted
  pub goes : Goes (stage_of r) (stage_of s)
  pub work : work_of (stage_of s) < work_of (stage_of r)

goes_by : (r s : Engine) → Grown r.journal s.journal → (s.journal ≡ r.journal) ⊎ (any_runs (seen r).harts ≡ true) → Goes (stage_of r) (stage_of s)
goes_by r s g ran = record { lines = g.lines; through = g.through; until = g.until; ran = ran }

spared_goes : (e s : Engine) (n : ℕ) → Goes (stage_of (record e { spare = n })) (stage_of s) → Goes (stage_of e) (stage_of s)
spared_goes e s n g = record { lines = g.lines; through = g.through; until = g.until; ran = g.ran }

nothing_written : stream_lines [] ≡ []
nothing_written = refl

-- few harts, and few moves of theirs
pub few_moves : (r : Engine) → Facts r → moves r.minds ≤ most_moves
few_moves r f = omega (arith, moves_most r.minds, f.sound.count, f.sound.settings.harts.1)

pub few_run : (r : Engine) → Facts r → running (seen r).harts ≤ 16
few_run r f = omega (arith, running_most (seen r).harts, harts_length r.opening.image r.machine.cores r.minds f.sound.harts.len, f.sound.count, f.sound.settings.harts.1)

less_work : (b r s m n p q : ℕ) → r < b → s ≡ r + 1 → m ≤ n → p ≤ most_moves → instruction_worth * (b - s) + (instruction_worth * m + p) < instruction_worth * (b - r) + (instruction_worth * n + q)
less_work b r s m n p q low is le few = omega arith

ran_less : (r s : Engine) (h : ℕ) (t : State) → one r.opening h (seen r) ≡ Some t → (seen s).retired ≡ t.retired → running (seen s).harts ≤ running t.harts → s.opening ≡ r.opening → Facts s → work_of (stage_of s) < work_of (stage_of r)
ran_less r s h t is retired run opening g =
    let w = one_works r.opening h (seen r) t is in
    let more : s.retired ≡ r.retired + 1 = retired ∙ w.retired in
    let le : running (seen s).harts ≤ running (seen r).harts = let a = w.running in omega arith in
    let P : Opening → Type 0 = λ o. instruction_worth * (o.settings.budget - s.retired) + (instruction_worth * running (seen s).harts + moves s.minds) < work_of (stage_of r) in
    subst P (sym opening) (less_work r.opening.settings.budget r.retired s.retired (running (seen s).harts) (running (seen r).harts) (moves s.minds) (moves r.minds) w.below more le (few_moves s g))

-- said over equal openings and journals
said_is : (r s : Engine) (j : List Entry) (text : List LineTree) → s.opening ≡ r.opening → s.journal ≡ j → said_lines r.opening j ≡ said_lines r.opening r.journal ++ text → lines_by (stage_of s) ≡ lines_by (stage_of r) ++ text
said_is r s j text o is e = ap (λ p. said_lines p s.journal) o ∙ (ap (said_lines r.opening) is ∙ e)

runs_say : (t : Move) (v : Stepped) (r s : Engine) (h : ℕ) (out : List ℕ) → Facts r → Facts s → Runs v r s h out → stream_lines out ≡ move_lines s t h r.noted → Said t r s h
runs_say t v r s h out f g m text =
    let l = said_lengthened r.opening r.journal h (seen r) f.sound.leaves in
    let k = since r s (lengthened r.journal h) [] f g (m.journal ∙ sym (append-nil (lengthened r.journal h))) (lengthened_notes r.journal h) refl in
    record {
      opening = m.opening;
      notes = notes r s [] k refl tt;
      said = said_is r s (lengthened r.journal h) (move_lines s t h r.noted) m.opening m.journal (l ∙ ap (λ u. said_lines r.opening r.journal ++ u) (ap stream_lines m.wrote ∙ text));
      goes = goes_by r s (grown_lengthened r.journal s.journal h m.journal) (inr (one_runs r.opening h (seen r) (seen s) m.one));
      work = ran_less r s h (seen s) m.one refl (let z : running (seen s).harts ≤ running (seen s).harts = omega arith in z) m.opening g;
    }

exits_say : (t : Move) (v : Stepped) (r s : Engine) (h count code : ℕ) → Facts r → Facts s → Exits v r s h count code → shown_lines s t (noted_since s r.noted) ≡ move_lines s t h r.noted → Said t r s h
exits_say t v r s h count code f g m text =
    let l = m.leavers in
    let harts = l.between.harts in
    let j = lengthened r.journal h in
    let lefts = lefts_from 0 harts in
    let all = all_gone (map gone harts) in
    let more = lengthens r.opening r.journal h (seen r) l.between f.sound.leaves l.one in
    let first : said_lines r.opening j ≡ said_lines r.opening r.journal = said_lengthened r.opening r.journal h (seen r) f.sound.leaves ∙
    (ap (λ u. said_lines r.opening r.journal ++ u) (ap stream_lines l.wrote ∙ nothing_written) ∙ append-nil (said_lines r.opening r.journal)) in
    let exits = said_exits r.opening j l.between code more (one_open r.opening h (seen r) l.between l.one) l.codes l.some in
    let k = since r s j lefts f g m.journal (lengthened_notes r.journal h) (lefts_noted 0 harts) in
    let shown : shown_lines s t lefts ≡ lefts_lines lefts all code =
    shows_lefts t s code lefts (are_lefts code 0 harts l.codes)
    ∙ (ap (λ xs. gone_trees lefts ++ last_lines (all_gone xs) lefts code) m.harts ∙ ap (λ u. gone_trees lefts ++ u) (lefts_last 0 harts all code l.some)) in
    let last : lefts_lines lefts all code ≡ move_lines s t h r.noted = sym shown ∙ (ap (shown_lines s t) (sym k.are) ∙ text) in
    record {
      opening = m.opening;
      notes = notes r s lefts k (lefts_noted 0 harts) (lefts_moved (length s.minds) 0 harts);
      said = said_is r s (j ++ lefts) (move_lines s t h r.noted) m.opening m.journal (exits ∙ (ap (λ u. u ++ lefts_lines lefts all code) first ∙ ap (λ u. said_lines r.opening r.journal ++ u) last));
      goes = goes_by r s (grown_exits r.journal s.journal h harts m.journal) (inr (one_runs r.opening h (seen r) l.between l.one));
      work = ran_less r s h l.between l.one (m.retired ∙ sym (one_works r.opening h (seen r) l.between l.one).retired)
          (let e = ap running m.harts ∙ running_gone harts in let z : running (seen s).harts ≤ running harts = omega arith in z) m.opening g;
    }

get_within : {A : Type 0} (xs : List A) (h : ℕ) → h < length xs → (x : A) × (slice_get xs h ≡ Some x)
get_within [] h low = absurd (omega arith)
get_within (x ∷ xs) zero low = (x, refl)
get_within (x ∷ xs) (suc h) low = get_within xs h (omega arith)

-- a hart stopped
halts_say : (why : Why) (r s : Engine) (h : ℕ) → Facts r → Facts s → h < length r.minds → StopsFor why r s h → Said move.Stopped r s h
halts_say why r s h f g low does =
    let m = stopped_halts why r s h does in
    let e : Entry = Stopped h why in
    let halt = halts r.opening why h (seen r) (seen s) m.enters in
    let same : s.retired ≡ r.retired = halt.retired in
    let less = halt.running in
    let few = few_moves s g in
    let P : Opening → Type 0 = λ o. instruction_worth * (o.settings.budget - s.retired) + (instruction_worth * running (seen s).harts + moves s.minds) < work_of (stage_of r) in
    let k = since r s r.journal (e ∷ []) f g m.journal refl refl in
    let there : h < length s.minds = let len = ap length m.minds ∙ length-set r.minds h first_mind in omega arith in
    let shown : entry_lines r.opening (seen r) e ≡ move_lines s move.Stopped h r.noted =
    ap (lines_of e) (stop_shows why r s h g does) ∙ (sym (append-nil (lines_of e (shown_by s move.Stopped e true))) ∙ ap (shown_lines s move.Stopped) (sym k.are)) in
    record {
      opening = m.opening;
      notes = notes r s (e ∷ []) k refl (there, tt);
      said = said_is r s (r.journal ++ e ∷ []) (move_lines s move.Stopped h r.noted) m.opening m.journal (said_added r.opening r.journal (seen r) e f.sound.leaves ∙ ap (λ u. said_lines r.opening r.journal ++ u) shown);
      goes = goes_by r s (grown_more r.journal (e ∷ []) s.journal m.journal refl) (inr (halt_runs r.opening h why (seen r) (seen s) m.enters));
      work = subst P (sym m.opening) (omega arith);
    }

moves_fresh : (x : Mind) → x.course.fresh ≡ true → moves_left x ≡ moves_of x.phase + 1
moves_fresh x fresh = ap (λ b. moves_of x.phase + cond b 1 0) fresh

-- breakpoints counted a hart
counts_say : (r s : Engine) (h : ℕ) → Facts r → Facts s → Counts r s h → Said move.Counted r s h
counts_say r s h f g m =
    let e : Entry = Counted h in
    let noted = count_notes r.opening h (seen r) (seen s) m.enters in
    let retired : s.retired ≡ r.retired = noted.retired in
    let running_same = noted.running in
    let set = moves_set r.minds h m.mind (counted_mind (plan_for r h m.hart) m.mind) m.at in
    let one = moves_fresh m.mind m.fresh in
    let fewer : moves s.minds < moves r.minds = omega (arith, ap moves m.minds) in
    let P : Opening → Type 0 = λ o. instruction_worth * (o.settings.budget - s.retired) + (instruction_worth * running (seen s).harts + moves s.minds) < work_of (stage_of r) in
    record {
      opening = m.opening;
      notes = notes r s (e ∷ []) (since r s r.journal (e ∷ []) f g m.journal refl refl) refl (tt, tt);
      said = said_is r s (r.journal ++ e ∷ []) [] m.opening m.journal (said_added r.opening r.journal (seen r) e f.sound.leaves);
      goes = goes_by r s (grown_more r.journal (e ∷ []) s.journal m.journal refl) (inr (count_runs r.opening h (seen r) (seen s) m.enters));
      work = subst P (sym m.opening) (omega arith);
    }

-- a move that nothing shows
quiets_say : (t : Move) (r s : Engine) (h : ℕ) (x : Mind) (p : Phase) (hold : Option Hold) → Facts r → Facts s → Rephases r s h x p hold
    → slice_get r.minds h ≡ Some x → moves_of p < moves_of x.phase → [] ≡ move_lines s t h r.noted → Said t r s h
quiets_say t r s h x p hold f g m at less text =
    let set = moves_set r.minds h x (with_phase x p) at in
    let fewer : moves s.minds < moves r.minds = omega (arith, ap moves m.minds) in
    let shown : work_of (stage_of s) ≡ instruction_worth * (r.opening.settings.budget - (seen r).retired) + (instruction_worth * running (seen r).harts + moves s.minds) =
    ap (λ o. instruction_worth * (o.settings.budget - (seen s).retired) + (instruction_worth * running (seen s).harts + moves s.minds)) m.opening
    ∙ ap (λ (u : State). instruction_worth * (r.opening.settings.budget - u.retired) + (instruction_worth * running u.harts + moves s.minds)) m.seen in
    record {
      opening = m.opening;
      notes = notes r s [] (since r s r.journal [] f g (m.journal ∙ sym (append-nil r.journal)) refl refl) refl tt;
      said = said_is r s r.journal (move_lines s t h r.noted) m.opening m.journal (sym (append-nil (said_lines r.opening r.journal)) ∙ ap (λ u. said_lines r.opening r.journal ++ u) text);
      goes = goes_by r s (grown_same r.journal s.journal m.journal) (inl m.journal);
      work = omega (arith, shown);
    }

copies_say : (t : Move) (r s : Engine) (h : ℕ) → Facts r → Facts s → Copies r s h → [] ≡ move_lines s t h r.noted → Said t r s h
copies_say t r s h f g m text = quiets_say t r s h m.mind (phase.Copied m.slot m.home) None f g m.rephases m.before.at (let e = ap moves_of m.before.idle in omega arith) text

lifts_say : (t : Move) (r s : Engine) (h : ℕ) → Facts r → Facts s → Lifts r s h → [] ≡ move_lines s t h r.noted → Said t r s h
lifts_say t r s h f g m text = quiets_say t r s h m.mind (phase.Lifted m.home) (Some (record { hart = h; home = m.home })) f g m.rephases m.before.at (let e = ap moves_of m.before.idle in omega arith) text

fixes_say : (t : Move) (r s : Engine) (h : ℕ) → Facts r → Facts s → Fixes r s h → [] ≡ move_lines s t h r.noted → Said t r s h
fixes_say t r s h f g m text = quiets_say t r s h m.mind phase.Idle None f g m.rephases m.at (let e = ap moves_of m.landed in omega arith) text

plants_say : (t : Move) (r s : Engine) (h : ℕ) → Facts r → Facts s → Plants r s h → [] ≡ move_lines s t h r.noted → Said t r s h
plants_say t r s h f g m text = quiets_say t r s h m.mind phase.Idle None f g m.rephases m.at (let e = ap moves_of m.ran in omega arith) text

-- a turn of which nothing is said
pub quiet_says : (t : Turned) (r s : Engine) (h : ℕ) → is_quiet t ≡ true → Facts r → Facts s → Turns t r s h → Said move.Ran r s h
quiet_says (turned.Moved move.Ran) r s h quiet f g m = runs_say move.Ran stepped.Ran r s h [] f g m nothing_written
quiet_says (turned.Moved move.Copied) r s h quiet f g m = copies_say move.Ran r s h f g m refl
quiet_says (turned.Moved move.Fixed) r s h quiet f g m = fixes_say move.Ran r s h f g m refl
quiet_says (turned.Moved move.Lifted) r s h quiet f g m = lifts_say move.Ran r s h f g m refl
quiet_says (turned.Moved move.Planted) r s h quiet f g m = plants_say move.Ran r s h f g m refl
quiet_says (turned.Moved (move.Wrote addr len)) r s h quiet f g m = cc
quiet_says (turned.Moved move.Left) r s h quiet f g m = cc
quiet_says (turned.Moved move.AllLeft) r s h quiet f g m = cc
quiet_says (turned.Moved move.Counted) r s h quiet f g m = cc
quiet_says (turned.Moved move.Stopped) r s h quiet f g m = cc
quiet_says (turned.Stood why) r s h quiet f g m = cc

-- the line of what an instruction wrote
wrote_says : (s : Engine) (h addr len : ℕ) (out : List ℕ) (n : ℕ) → bytes_at s.machine.memory addr len ≡ Some out → stream_lines out ≡ move_lines s (move.Wrote addr len) h n
wrote_says s h addr len out n is = sym (append-nil (stream_lines out)) ∙ ap (λ o. lines_of (Ran h 1) (wrote o) ++ []) (sym is)

says : (t : Move) (r s : Engine) (h : ℕ) → Facts r → Facts s → h < length r.minds → Moves t r s h → Said t r s h
says move.Fixed r s h f g low m = fixes_say move.Fixed r s h f g m refl
says move.Copied r s h f g low m = copies_say move.Copied r s h f g m refl
says move.Planted r s h f g low m = plants_say move.Planted r s h f g m refl
says move.Lifted r s h f g low m = lifts_say move.Lifted r s h f g m refl
says move.Ran r s h f g low m = runs_say move.Ran stepped.Ran r s h [] f g m nothing_written
says (move.Wrote addr len) r s h f g low (out, some, bytes, m) = runs_say (move.Wrote addr len) (stepped.Wrote addr len) r s h out f g m (wrote_says s h addr len out r.noted bytes)
says move.Left r s h f g low (code, m) = exits_say move.Left (stepped.HartExit code) r s h 1 code f g m refl
says move.AllLeft r s h f g low (code, count, m) = exits_say move.AllLeft (stepped.AllExit code) r s h count code f g m refl
says move.Counted r s h f g low m = counts_say r s h f g m
says move.Stopped r s h f g low (why, m) = halts_say why r s h f g low m

spared : (t : Move) (e s : Engine) (n h : ℕ) → Said t (record e { spare = n }) s h → Said t e s h
spared t e s n h d = record { opening = d.opening; notes = d.notes; said = d.said; goes = spared_goes e s n d.goes; work = d.work }

-- a line that was done
pub record DoneSaid (r s : Engine) (line : List ℕ) (answer : Reply) : Type 0 where
  pub opening : s.opening ≡ r.opening
  pub said : lines_by (stage_of s) ≡ lines_by (stage_of r) ++ reply_lines answer
  pub journal : s.journal ≡ r.journal ++ Did line ∷ pokes_of (done_by r.opening (seen r) line).pending
  pub did : did s.journal ≡ did r.journal ++ line ∷ []
  pub work : work_of (stage_of s) ≤ work_of (stage_of r) + most_added

-- a write executes nothing
settled_retired : (o : Opening) (s t : State) (q : Option Poke) → poked_after o s q ≡ Some t → t.retired ≡ s.retired
unfolding enter
settled_retired o s t None is = ap (λ (u : State). u.retired) (sym (same_some s t is))
settled_retired o s t (Some p) is = let a = poked_adds s t p is in omega (arith, a.retired)

-- and says nothing
said_settled : (o : Opening) (j : List Entry) (line : List ℕ) (q : Option Poke) (s t : State) → Leaves o j s → Leaves o (j ++ Did line ∷ pokes_of q) t
    → said_lines o (j ++ Did line ∷ pokes_of q) ≡ said_lines o j ++ entry_lines o s (Did line)
said_settled o j line None s t before after = said_added o j s (Did line) before
said_settled o j line (Some p) s t before after =
    let done = j ++ Did line ∷ [] in
    let same = append_assoc j (Did line ∷ []) (Poked p ∷ []) in
    let by = came_by o done (Poked p) t (subst (λ (k : List Entry). Leaves o k t) (sym same) after) in
    let quiet = said_added o done by.before.state (Poked p) (record { prev = by.before.prev; replays = by.at }) in
    ap (said_lines o) (sym same) ∙ (quiet ∙ (append-nil (said_lines o done) ∙ said_added o j s (Did line) before))

pub does_say : (r s : Engine) (line : List ℕ) (answer : Reply) → Facts r → Facts s → Does r s line answer → DoneSaid r s line answer
does_say r s line answer f g m =
    let done = done_by r.opening (seen r) line in
    let es = pokes_of done.pending in
    let retired : s.retired ≡ r.retired = settled_retired r.opening done (seen s) done.pending m.seen ∙ done_retired r.opening (seen r) line in
    let run = few_run s g in
    let few = few_moves s g in
    let P : Opening → Type 0 = λ o. instruction_worth * (o.settings.budget - s.retired) + (instruction_worth * running (seen s).harts + moves s.minds) ≤ work_of (stage_of r) + most_added in
    let after : Leaves r.opening (r.journal ++ Did line ∷ es) (seen s) =
    subst (λ (o : Opening). Leaves o (r.journal ++ Did line ∷ es) (seen s)) m.opening (subst (λ (k : List Entry). Leaves s.opening k (seen s)) m.journal g.sound.leaves) in
    record {
      opening = m.opening;
      said = said_is r s (r.journal ++ Did line ∷ es) (reply_lines answer) m.opening m.journal
          (said_settled r.opening r.journal line done.pending (seen r) (seen s) f.sound.leaves after ∙ ap (λ (a : Reply). said_lines r.opening r.journal ++ reply_lines a) (sym m.answers));
      journal = m.journal;
      did = ap did m.journal ∙ did_line r.journal line done.pending;
      work = subst P (sym m.opening) (omega arith);
    }

spare_facts : (e : Engine) (n : ℕ) → Facts e → Facts (record e { spare = n })
spare_facts e n f =
    let s = f.sound in
    record {
      sound = record {
        leaves = s.leaves;
        settings = s.settings;
        count = s.count;
        selected = s.selected;
        harts = s.harts;
        slots = s.slots;
        planted =
            s.planted;
        texts = s.texts;
        places = s.places;
        many = s.many;
        awaits = s.awaits;
        sources = s.sources;
        retired = s.retired;
        copied = s.copied;
      };
      waits = f.waits;
    }

pub made_room : (e r : Engine) → r ≡ record e { spare = r.spare } → Facts e → Facts r
made_room e r is f = subst Facts (sym is) (spare_facts e r.spare f)

-- a move of an engine, before its room was made
pub moved : (t : Move) (e r s : Engine) (h : ℕ) → r ≡ record e { spare = r.spare } → Facts e → Facts s → h < length e.minds → Moves t r s h → Said t e s h
moved t e r s h is f g low m =
    let q : Engine = record e { spare = r.spare } in
    let P : Engine → Type 0 = λ u. Moves t u s h in
    spared t e s r.spare h (says t q s h (spare_facts e r.spare f) g low (subst P is m))

pub and_false : (b : Bool) → (b && false) ≡ false
and_false true = refl
and_false false = refl

-- a turn that didn't move
pub record Stands (e s : Engine) (h : ℕ) : Type 0 where
  pub stage : stage_of s ≡ stage_of e
  pub why : (may_go e.opening (seen e) && moves_at (stage_of e) h) ≡ false

idle : (a : Activity) → is_active a ≡ false → is_running (mode_of a) ≡ false
idle activity.Stopped is = refl
idle activity.Running is = cc
idle activity.Exited is = refl

stands : (t : Standing) (r s : Engine) (h : ℕ) → Facts r → h < length r.minds → s ≡ r → EngineStands t r h → Stands r s h
stands standing.Over r s h f low same m = record { stage = ap stage_of same; why = ap (λ b. b && moves_at (stage_of r) h) m }
stands standing.NotRunning r s h f low same m =
    let low_core : h < length r.machine.cores = omega (arith, f.sound.harts.len) in
    let c = get_within r.machine.cores h low_core in
    let x = get_within r.minds h low in
    let at = seen_at r.opening.image r.machine.cores r.minds h c.0 x.0 c.1 x.1 in
    record {
      stage = ap stage_of same;
      why = ap (λ b. may_go r.opening (seen r) && ((b && is_free r.hold h) && not (waits_for_slot r.machine.slots r.minds h))) (ap runs_as at ∙ idle x.0.activity (m.1 x.0 x.1)) ∙ and_false (may_go r.opening (seen r));
    }
stands (standing.Held by) r s h f low same m =
    record {
      stage = ap stage_of same;
      why = ap (λ d. may_go r.opening (seen r) && ((runs_at (seen r).harts h && is_none d) && not (waits_for_slot r.machine.slots r.minds h))) m.2
          ∙ (ap (λ b. may_go r.opening (seen r) && (b && not (waits_for_slot r.machine.slots r.minds h))) (and_false (runs_at (seen r).harts h)) ∙ and_false (may_go r.opening (seen r)));
    }
stands standing.NoSlot r s h f low same d =
    let out = out_so r.machine.slots (omega (arith, f.sound.slots, d.some)) d.out in
    let waits : waits_for_slot r.machine.slots r.minds h ≡ true = ap (λ b. b && idle_as (slice_get r.minds h)) out ∙ (ap idle_as d.before.at ∙ ap is_idle d.before.idle) in
    let first = runs_at (seen r).harts h && is_free r.hold h in
    record {
      stage = ap stage_of same;
      why = ap (λ b. may_go r.opening (seen r) && (first && not b)) waits ∙ (ap (λ b. may_go r.opening (seen r) && b) (and_false first) ∙ and_false (may_go r.opening (seen r)));
    }

stands_spared : (e s : Engine) (h n : ℕ) → Stands (record e { spare = n }) s h → Stands e s h
stands_spared e s h n d = record { stage = d.stage; why = d.why }

stood_by : (t : Standing) (e r s : Engine) (h : ℕ) → r ≡ record e { spare = r.spare } → Facts e → h < length e.minds → Turns (turned.Stood t) r s h → Stands e s h
stood_by t e r s h is f low m =
    let q : Engine = record e { spare = r.spare } in
    let P : Engine → Type 0 = λ u. Turns (turned.Stood t) u s h in
    let n = subst P is m in
    stands_spared e s h r.spare (stands t q s h (spare_facts e r.spare f) low n.0 n.1)

pub stood : (t : Turned) (e r s : Engine) (h : ℕ) → r ≡ record e { spare = r.spare } → Facts e → h < length e.minds → ((m : Move) → t ≡ turned.Moved m → ⊥) → Turns t r s h → Stands e s h
stood (turned.Moved m) e r s h is f low stays turns = absurd (stays m refl)
stood (turned.Stood why) e r s h is f low stays turns = stood_by why e r s h is f low turns
