-- A slice that is taken is as many turns of its hart.
use Rattle.std.proofs.Common.{◌≡◌, ◌<◌, ◌≤◌, ℕ, zero, suc, ◌+◌, true, false, List, refl, sym, ap, ◌∙◌, subst, arith}
use Rattle.std.specs.Prelude.{Option, Some, None, ◌&&◌, is_none, slice_get, slice_set}
use Rattle.reg_slices.specs.declared.slice.Slice.{Slice}
use Rattle.hart_machine.specs.Patched.{Patched}
use Rattle.hart_machine.specs.Slices.{AllInPlace, Fits}
use Rattle.step_over.specs.declared.phase.Phase.TheVariants as phase
use Rattle.dbg_model.specs.declared.entry.Entry.{Entry}
use Rattle.dbg_model.specs.declared.hart.Hart.{Hart}
use Rattle.dbg_model.specs.Limits.{history}
use Rattle.watch_points.specs.Watches.{fired_by}
use Rattle.watch_points.specs.declared.watchpoint.Watch.{Watch}
use Rattle.watch_points.proofs.Firing.{none_fires}
use Rattle.rv_exec.specs.Memory.{Memory}
use Rattle.dbg_model.proofs.Options.{both_true, same_some}
use Rattle.engine_parts.specs.declared.mind.Mind.{Mind}
use Rattle.engine_parts.specs.Minds.{entered_of, lifted_of, runs, slot_of}
use Rattle.engine_parts.specs.Movers.{is_idle}
use Rattle.engine_parts.specs.Seen.{Engine, seen_hart}
use Rattle.engine_parts.specs.Facts.{Facts, Sound, other_holder}
use Rattle.engine_parts.proofs.Holding.{core_at, no_hold, own_seen}
use Rattle.engine_parts.proofs.Bounding.{below}
use Rattle.engine_parts.proofs.Stepping.{fact_of}
use Rattle.engine_parts.specs.Calls.{Turns}
use Rattle.dbg_model.specs.Journals.{lengthened_by}
use Rattle.engine_parts.specs.Several.{AllRan}
use Rattle.engine_parts.specs.Slicing.{CanTake, goes_apart, takes_slices}
use Rattle.engine_parts.specs.declared.moving.Turned.TheVariants as turned
use Rattle.engine_parts.specs.declared.moving.Move.TheVariants as move
use Rattle.engine_parts.proofs.Aheads.{after_is, apart_after, at_after, idle_so, mind_after, one_turn, run_after, run_next, running_so, unfired_so}
use Rattle.engine_parts.proofs.Executing.{same_hart}
use Rattle.engine_parts.proofs.Kept.{kept_ran}
use Rattle.engine_parts.proofs.Passing.{Apart}
use Rattle.engine_parts.proofs.Rows.{open_by}

-- n instructions of hart h
pub record Taken (n : ℕ) (r new : Engine) (h : ℕ) : Type 0 where
  pub facts : Facts new
  pub ran : AllRan n r new h

-- no watch fires by an instruction that stores nothing
kept_fires : (vs : List Watch) (m k : Memory) → k ≡ m → fired_by vs m k ≡ None
kept_fires vs m k same = ap (fired_by vs m) same ∙ none_fires vs m

-- instructions that the machine executed in their places, as turns
pub taken_by : (n : ℕ) (r : Engine) (h spare : ℕ) (x : Mind) (m : Patched) → Facts r → slice_get r.minds h ≡ Some x → Apart x → r.hold ≡ None → r.retired + n ≤ r.opening.settings.budget → r.noted < history → r.exited ≡ false
    → AllInPlace n r.machine h m → Taken n r (run_after n r h x m spare) h
taken_by zero r h spare x m f at a none budget low still went =
    let same : run_after zero r h x m spare ≡ r = ap (λ (u : Patched). let q : Engine = record r { machine = u; retired = r.retired + 0 } in q) went ∙ ap (λ (k : ℕ). let q : Engine = record r { retired = k } in q) (omega arith) in
    record { facts = subst Facts (sym same) f; ran = same }
taken_by (suc n) r h spare x m f at a none budget low still went =
    let q = run_after n r h x went.machine spare in
    let before = taken_by n r h spare x went.machine f at a none (omega (arith, budget)) low still went.before in
    let e = one_turn q h spare (mind_after n x) m before.facts (at_after n r.minds h x at) (apart_after n x a) none
    (record { budget = omega (arith, budget); history = low; going = still }) (kept_fires r.watches went.machine.memory m.memory went.kept) went.step in
    let next = run_next n r h x went.machine m spare a.idle in
    let P : Engine → Type 0 = λ u. Turns (turned.Moved move.Ran) q u h in
    record {
      facts = subst Facts next e.facts;
      ran = record { run = q; before = before.ran; facts = before.facts; answer = turned.Moved move.Ran; fits = refl; turn = subst P next e.does };
    }

pub apart_so : (x : Mind) → goes_apart x ≡ true → Apart x
apart_so x is =
    let e = both_true ((runs x && is_idle x.phase) && takes_slices x.course.plan) (is_none x.course.fired) is in
    let a = both_true (runs x && is_idle x.phase) (takes_slices x.course.plan) e.0 in
    let b = both_true (runs x) (is_idle x.phase) a.0 in
    record { idle = idle_so x.phase b.1; runs = running_so x.activity b.0; plan = a.1; unfired = unfired_so x.course.fired e.1 }

pub free_so : (o : Option ℕ) → is_none o ≡ true → o ≡ None
free_so None e = refl
free_so (Some k) e = cc

-- no patch is lifted
pub unheld : (r : Engine) (h : ℕ) (x : Mind) → Sound r → slice_get r.minds h ≡ Some x → x.phase ≡ phase.Idle → other_holder r.hold h ≡ None → r.hold ≡ None
unheld r h x f at idle free =
    let k = core_at r h x f at in
    no_hold r.hold h free (sym (fact_of r h k.0 x f k.1).held ∙ ap lifted_of idle)

-- the machine's hart is where the slice began
pub begun : (r : Engine) (slice : Slice) → Sound r → (c : CanTake r slice) → Fits r.machine slice.hart slice.regs slice.at slice.words.items
begun r slice f c =
    let h = slice.hart in
    let x = c.mind in
    let k = core_at r h x f c.at in
    let idle = (apart_so x c.apart).idle in
    let own : (seen_hart r.opening.image k.0 x).regs ≡ k.0.regs = own_seen r.opening.image k.0.regs x.activity x.phase (ap slot_of idle) in
    record {
      core = k.0;
      there = k.1.core;
      out = (fact_of r h k.0 x f k.1).entered ∙ ap entered_of idle;
      regs = sym own ∙ (ap (λ (y : Hart). y.regs) (same_hart r h k.0 x c.hart k.1 c.shown) ∙ c.regs);
      stored = c.words;
    }

taken_so : (r : Engine) (slice : Slice) (spare : ℕ) (m : Patched) → Facts r → (c : CanTake r slice)
    → (Fits r.machine slice.hart slice.regs slice.at slice.words.items → AllInPlace slice.count r.machine slice.hart m)
    → Taken slice.count r (run_after slice.count r slice.hart c.mind m spare) slice.hart
taken_so r slice spare m f c steps =
    let x = c.mind in
    let a = apart_so x c.apart in
    taken_by slice.count r slice.hart spare x m f c.at a (unheld r slice.hart x f.sound c.at a.idle (free_so (other_holder r.hold slice.hart) c.free)) c.budget (below r c.may).1 (open_by r c.may) (steps (begun r slice f.sound c))

-- the engine after a slice was taken, by its parts
pub taken_to : (r s : Engine) (slice : Slice) (spare : ℕ) (x y : Mind) (m : Patched) (j : List Entry) (k : ℕ) → r ≡ s → 0 < slice.count → Facts r → CanTake s slice → slice_get s.minds slice.hart ≡ Some x
    → (Fits r.machine slice.hart slice.regs slice.at slice.words.items → AllInPlace slice.count r.machine slice.hart m) → j ≡ lengthened_by slice.count r.journal slice.hart → y ≡ kept_ran x → k ≡ slice.count
    → Taken slice.count r (record r { journal = j; spare = spare; machine = m; minds = slice_set r.minds slice.hart y; retired = r.retired + k }) slice.hart
taken_to r s slice spare x y m j k same some f can at steps ej ey ek =
    let c : CanTake r slice = subst (λ (q : Engine). CanTake q slice) (sym same) can in
    let mind : x ≡ c.mind = same_some x c.mind (sym at ∙ (ap (λ (q : Engine). slice_get q.minds slice.hart) (sym same) ∙ c.at)) in
    let n = slice.count in
    let base = taken_so r slice spare m f c steps in
    subst (λ (q : Engine). Taken n r q slice.hart) (after_is n r slice.hart spare c.mind y m j k some ej (ey ∙ ap kept_ran mind) ek) base

-- the same from an engine known by another name
pub taken_at : (n : ℕ) (r s new : Engine) (h : ℕ) → r ≡ s → AllRan n r new h → AllRan n s new h
taken_at n r s new h same k = subst (λ (q : Engine). AllRan n q new h) same k
