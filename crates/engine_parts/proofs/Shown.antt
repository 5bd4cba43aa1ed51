-- What a move's entry shows is what it shows in the state before.
use Rattle.std.proofs.Common.{◌≡◌, ◌<◌, ℕ, zero, suc, List, [], ◌∷◌, length, arith, Bool, true, false, cond, eqb, refl, sym, ap, ◌∙◌}
use Rattle.std.specs.Prelude.{Option, Some, None, map, slice_get}
use Rattle.std.specs.Option.{option_map}
use Rattle.break_table.specs.Arrival.{raised}
use Rattle.plain_machine.specs.PlainRun.{PlainHart, PlainState}
use Rattle.dbg_model.specs.declared.entry.Entry.TheVariants.{Stopped}
use Rattle.dbg_model.specs.declared.entry.Why.{Why}
use Rattle.dbg_model.specs.declared.entry.Why.TheVariants as whys
use Rattle.dbg_model.specs.declared.hart.Hart.{Hart}
use Rattle.dbg_model.specs.declared.shown.Shown.TheVariants.{Stop}
use Rattle.watch_points.specs.declared.watchpoint.Fired.{Fired}
use Rattle.watch_points.specs.declared.watchpoint.Watch.{Watch}
use Rattle.dbg_model.specs.declared.opening.Opening.{Opening}
use Rattle.dbg_model.specs.Sources.{Sources, sources_of}
use Rattle.dbg_model.specs.Places.{own_frame}
use Rattle.dbg_model.specs.Shown.{frame_at, hart_pc, shown_of, shown_watch, stopping_watch, stops_once, watch_of}
use Rattle.dbg_model.specs.State.{State}
use Rattle.dbg_model.specs.Lawful.{enter}
use Rattle.watch_points.specs.Watches.{is_of, risen}
use Rattle.dbg_model.proofs.Options.{same_some}
use Rattle.dbg_model.proofs.Plainly.{enter_plain, plain_hart, plain_of}
use Rattle.engine_parts.specs.declared.moving.Move.TheVariants as move
use Rattle.engine_parts.specs.Seen.{Engine, seen, seen_hart}
use Rattle.engine_parts.specs.Facts.{Facts}
use Rattle.engine_parts.specs.Calls.{Halts, Of, StopsFor}
use Rattle.engine_parts.specs.Shown.{shown_by}
use Rattle.engine_parts.proofs.Arrivals.{stopped_halts}
use Rattle.engine_parts.proofs.Showing.{seen_at}

-- ---- where the hart is

abbrev plain_pc : Option PlainHart → ℕ
plain_pc None = 0
plain_pc (Some p) = p.regs.pc

pc_plainly : (xs : List Hart) (h : ℕ) → hart_pc (slice_get xs h) ≡ plain_pc (slice_get (map plain_hart xs) h)
pc_plainly [] h = refl
pc_plainly (x ∷ xs) zero = refl
pc_plainly (x ∷ xs) (suc h) = pc_plainly xs h

get_within : {A : Type 0} (xs : List A) (h : ℕ) → h < length xs → (x : A) × (slice_get xs h ≡ Some x)
get_within [] h low = absurd (omega arith)
get_within (x ∷ xs) zero low = (x, refl)
get_within (x ∷ xs) (suc h) low = get_within xs h (omega arith)

-- the frame of a hart that shows this pc
pub frame_known : (r : Engine) (h pc : ℕ) → Facts r → h < length r.minds → Of r h (λ y. y.regs.pc ≡ pc) → own_frame r.sources pc ≡ frame_at r.sources (seen r).harts h
frame_known r h pc f low is =
    let low_core : h < length r.machine.cores = omega (arith, f.sound.harts.len) in
    let c = get_within r.machine.cores h low_core in
    let x = get_within r.minds h low in
    let at = seen_at r.opening.image r.machine.cores r.minds h c.0 x.0 c.1 x.1 in
    sym (ap (own_frame r.sources) (ap hart_pc at ∙ is (seen_hart r.opening.image c.0 x.0) at))

-- a stop leaves each hart where it is
pc_stays : (o : Opening) (s t : State) (h k : ℕ) (why : Why) → enter o s (Stopped h why) ≡ Some t → hart_pc (slice_get s.harts k) ≡ hart_pc (slice_get t.harts k)
pc_stays o s t h k why is =
    let same : plain_of s ≡ plain_of t = same_some (plain_of s) (plain_of t) (enter_plain o s (Stopped h why) t is) in
    pc_plainly s.harts k ∙ (ap (λ (p : PlainState). plain_pc (slice_get p.harts k)) same ∙ sym (pc_plainly t.harts k))

frame_stays : (r s : Engine) (h : ℕ) (why : Why) → Facts s → Halts r s h why → frame_at (sources_of r.opening.image) (seen r).harts h ≡ frame_at s.sources (seen s).harts h
frame_stays r s h why g m =
    ap (own_frame (sources_of r.opening.image)) (pc_stays r.opening (seen r) (seen s) h h why m.enters)
    ∙ ap (λ (sources : Sources). frame_at sources (seen s).harts h) (sym (g.sound.sources ∙ ap (λ (o : Opening). sources_of o.image) m.opening))

-- ---- the watch that stopped it stays as it is told, where its times rise

found : (b c : Bool) (n : ℕ) (w : Watch) (r s : Option Watch) → eqb w.number n ≡ c → option_map shown_watch r ≡ option_map shown_watch s
    → option_map shown_watch (cond (eqb (cond b (record w { times = raised w.times }) w).number n) (Some (cond b (record w { times = raised w.times }) w)) r) ≡ option_map shown_watch (cond c (Some w) s)
found true true n w r s is rest = rw is refl
found true false n w r s is rest = rw is rest
found false true n w r s is rest = rw is refl
found false false n w r s is rest = rw is rest

risen_told : (fired : Option Fired) (ws : List Watch) (n : ℕ) → option_map shown_watch (watch_of (risen fired ws) n) ≡ option_map shown_watch (watch_of ws n)
risen_told fired [] n = refl
risen_told fired (w ∷ ws) n = found (is_of fired w) (eqb w.number n) n w (watch_of (risen fired ws) n) (watch_of ws n) refl (risen_told fired ws n)

watch_stays : (why : Why) (r s : Engine) (h : ℕ) → StopsFor why r s h → stopping_watch r.watches why ≡ stopping_watch s.watches why
watch_stays (whys.Watch f) r s h m = sym (ap (λ ws. option_map shown_watch (watch_of ws f.number)) m.watches ∙ risen_told (Some f) r.watches f.number)
watch_stays (whys.Break number error) r s h m = refl
watch_stays whys.Stepped r s h m = refl
watch_stays whys.Finished r s h m = refl
watch_stays whys.Interrupted r s h m = refl
watch_stays (whys.Fault cause) r s h m = refl

-- ---- the stop

-- what a stop shows after it is what it shows in the state before
pub stop_shows : (why : Why) (r s : Engine) (h : ℕ) → Facts s → StopsFor why r s h → shown_of r.opening (seen r) (Stopped h why) ≡ shown_by s move.Stopped (Stopped h why) true
stop_shows why r s h g m =
    let k = stopped_halts why r s h m in
    ap (λ frame. Stop frame (stops_once r.breaks why) (stopping_watch r.watches why)) (frame_stays r s h why g k)
    ∙ (ap (λ once. Stop (frame_at s.sources (seen s).harts h) once (stopping_watch r.watches why)) (sym k.temporary)
    ∙ ap (λ watch. Stop (frame_at s.sources (seen s).harts h) s.temporary watch) (watch_stays why r s h m))
