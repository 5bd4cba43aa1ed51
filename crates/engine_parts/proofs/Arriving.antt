-- What an arrival leaves of the breakpoints: where they stand elsewhere, and that each stands at a word of text.
use Rattle.std.proofs.Common.{◌≡◌, ℕ, zero, suc, ◌-◌, Bool, true, false, cond, List, [], ◌∷◌, refl, sym, ap, ◌∙◌, subst, not, arith, map, filter}
use Rattle.std.specs.Prelude.{Option, Some, None, slice_get, ◌&&◌, ◌||◌, ◌==◌}
use Rattle.std.proofs.lemmas.Bool.Decides.{nat_tests}
use Rattle.elf32_read.specs.Program.{Program}
use Rattle.hart_machine.proofs.Places.{same_some}
use Rattle.break_table.specs.Entry.{Entry as BreakEntry}
use Rattle.break_table.specs.Table.{stands, stands_at}
use Rattle.break_table.specs.declared.due.Due.{Due}
use Rattle.dbg_model.specs.Sources.{Sources, sources_of}
use Rattle.step_plans.specs.declared.plan.Plan.{Plan}
use Rattle.step_plans.specs.declared.plan.Verdict.{Verdict}
use Rattle.break_table.specs.Arrival.{is_for, fits, counts, stops, is_met, stays, raised, settled_entry, settled, due_of}
use Rattle.dbg_model.specs.Breaks.{nothing_due}
use Rattle.dbg_model.specs.Views.{register, shown_byte}
use Rattle.dbg_model.specs.declared.hart.Hart.{Hart}
use Rattle.dbg_model.specs.declared.course.Course.{Course}
use Rattle.dbg_model.specs.declared.judgement.Judgement.{Judgement}
use Rattle.watch_points.specs.declared.watchpoint.Fired.{Fired}
use Rattle.dbg_model.specs.Judging.{judgement_of, no_arrival, verdict_behind}
use Rattle.dbg_model.specs.State.{State, due, arrived}
use Rattle.dbg_model.proofs.Options.{both_true}
use Rattle.engine_parts.specs.Facts.{AreInText, InText}

and_off : (b : Bool) → (b && false) ≡ false
and_off true = refl
and_off false = refl

differs : (a b : ℕ) → (a ≡ b → ⊥) → (a == b) ≡ false
differs a b n = grind (arith, nat_tests)

-- a breakpoint at another address changes nothing
pub off_here : (b : BreakEntry) (a : ℕ) → (b.address ≡ a → ⊥) → stands_at a b ≡ false
off_here b a n = rw (differs b.address a n) (and_off b.enabled)

entry_by : (b : BreakEntry) (counting stopping : Bool) (a : ℕ)
    → stands_at a (cond counting (record b { times = raised b.times; ignore = b.ignore - 1 }) (cond stopping (record b { times = raised b.times }) b)) ≡ stands_at a b
entry_by b true stopping a = refl
entry_by b false true a = refl
entry_by b false false a = refl

-- an arrival leaves a breakpoint where it stands
entry_stands : (h : ℕ) (rs : ℕ → ℕ) (bytes : ℕ → Option ℕ) (b : BreakEntry) (a : ℕ) → stands_at a (settled_entry h rs bytes b) ≡ stands_at a b
entry_stands h rs bytes b a = entry_by b (counts h (rs 32) b) (stops h rs bytes b) a

address_by : (b : BreakEntry) (counting stopping : Bool)
    → (cond counting (record b { times = raised b.times; ignore = b.ignore - 1 }) (cond stopping (record b { times = raised b.times }) b)).address ≡ b.address
address_by b true stopping = refl
address_by b false true = refl
address_by b false false = refl

entry_address : (h : ℕ) (rs : ℕ → ℕ) (bytes : ℕ → Option ℕ) (b : BreakEntry) → (settled_entry h rs bytes b).address ≡ b.address
entry_address h rs bytes b = address_by b (counts h (rs 32) b) (stops h rs bytes b)

-- what fits a hart stands at its pc
fits_stands : (h pc : ℕ) (b : BreakEntry) → fits h pc b ≡ true → stands_at pc b ≡ true
fits_stands h pc b is =
    let e = both_true b.enabled ((b.address == pc) && is_for h b.thread) is in
    let f = both_true (b.address == pc) (is_for h b.thread) e.1 in
    rw (e.0, f.0) refl

stops_fits : (h : ℕ) (rs : ℕ → ℕ) (bytes : ℕ → Option ℕ) (b : BreakEntry) → stops h rs bytes b ≡ true → fits h (rs 32) b ≡ true
stops_fits h rs bytes b is = (both_true (fits h (rs 32) b) ((b.ignore == 0) && is_met rs bytes b.condition) is).0

-- what leaves by its stop stands at the hart's pc
gone_by : (h : ℕ) (rs : ℕ → ℕ) (bytes : ℕ → Option ℕ) (b : BreakEntry) (stopping : Bool) → stops h rs bytes b ≡ stopping → not (b.temporary && stopping) ≡ false → stops h rs bytes b ≡ true
gone_by h rs bytes b true is e = is
gone_by h rs bytes b false is e = let t : not (b.temporary && false) ≡ true = rw (and_off b.temporary) refl in absurd cc

gone_off : (h : ℕ) (rs : ℕ → ℕ) (bytes : ℕ → Option ℕ) (b : BreakEntry) (a : ℕ) → (rs 32 ≡ a → ⊥) → stays h rs bytes b ≡ false → stands_at a b ≡ false
gone_off h rs bytes b a n is =
    let at = fits_stands h (rs 32) b (stops_fits h rs bytes b (gone_by h rs bytes b (stops h rs bytes b) refl is)) in
    let same : (b.address == rs 32) ≡ true = (both_true b.enabled (b.address == rs 32) at).1 in
    let there : b.address ≡ rs 32 = grind (arith, nat_tests) in
    off_here b a (λ e. n (sym there ∙ e))

stands_by : (h : ℕ) (rs : ℕ → ℕ) (bytes : ℕ → Option ℕ) (b : BreakEntry) (bs : List BreakEntry) (a : ℕ) (t : Bool) → stays h rs bytes b ≡ t → (rs 32 ≡ a → ⊥) → stands a bs ≡ stands a (settled h rs bytes bs)
    → (stands_at a b || stands a bs) ≡ stands a (map (settled_entry h rs bytes) (cond t (b ∷ filter (stays h rs bytes) bs) (filter (stays h rs bytes) bs)))
stands_by h rs bytes b bs a true is n ih = ap (λ u. u || stands a bs) (sym (entry_stands h rs bytes b a)) ∙ ap (λ u. stands_at a (settled_entry h rs bytes b) || u) ih
stands_by h rs bytes b bs a false is n ih = ap (λ u. u || stands a bs) (gone_off h rs bytes b a n is) ∙ ih

stands-settled : (h : ℕ) (rs : ℕ → ℕ) (bytes : ℕ → Option ℕ) (bs : List BreakEntry) (a : ℕ) → (rs 32 ≡ a → ⊥) → stands a bs ≡ stands a (settled h rs bytes bs)
stands-settled h rs bytes [] a n = refl
stands-settled h rs bytes (b ∷ bs) a n = stands_by h rs bytes b bs a (stays h rs bytes b) refl n (stands-settled h rs bytes bs a n)

-- an arrival changes nothing of where breakpoints stand elsewhere
pub stands-arrived : (p : Program) (s : State) (h : ℕ) (x : Hart) (a : ℕ) → (x.regs.pc ≡ a → ⊥) → stands a s.breaks ≡ stands a (arrived p s h x)
unfolding arrived
stands-arrived p s h x a n = stands-settled h (register x.regs) (shown_byte p s.memory) s.breaks a n

text_cons : (p : Program) (b : BreakEntry) (bs : List BreakEntry) (k : ℕ) (d : BreakEntry) → InText p b.address → AreInText p bs → slice_get (b ∷ bs) k ≡ Some d → InText p d.address
text_cons p b bs zero d here rest at = subst (InText p) (ap (λ (z : BreakEntry). z.address) (same_some b d at)) here
text_cons p b bs (suc k) d here rest at = rest k d at

settled_text : (p : Program) (h : ℕ) (rs : ℕ → ℕ) (bytes : ℕ → Option ℕ) (b : BreakEntry) (bs : List BreakEntry) (t : Bool) → InText p b.address → AreInText p (settled h rs bytes bs)
    → AreInText p (map (settled_entry h rs bytes) (cond t (b ∷ filter (stays h rs bytes) bs) (filter (stays h rs bytes) bs)))
settled_text p h rs bytes b bs true here rest =
    λ k d at. text_cons p (settled_entry h rs bytes b) (settled h rs bytes bs) k d (subst (InText p) (sym (entry_address h rs bytes b)) here) rest at
settled_text p h rs bytes b bs false here rest = rest

text-settled : (p : Program) (h : ℕ) (rs : ℕ → ℕ) (bytes : ℕ → Option ℕ) (bs : List BreakEntry) → AreInText p bs → AreInText p (settled h rs bytes bs)
text-settled p h rs bytes [] each = each
text-settled p h rs bytes (b ∷ bs) each = settled_text p h rs bytes b bs (stays h rs bytes b) (each 0 b refl) (text-settled p h rs bytes bs (λ k d at. each (suc k) d at))

pub text-arrived : (p : Program) (s : State) (h : ℕ) (x : Hart) → AreInText p s.breaks → AreInText p (arrived p s h x)
unfolding arrived
text-arrived p s h x each = text-settled p h (register x.regs) (shown_byte p s.memory) s.breaks each

-- ---- what is judged of a hart

breaks_by : (b : Bool) (d : Due) (f : Option Fired) (v : Verdict) (plan : Plan) → (let j : Judgement = record { breaks = d; fired = f; verdict = v } in (cond b j (no_arrival plan)).breaks) ≡ cond b d nothing_due
breaks_by true d f v plan = refl
breaks_by false d f v plan = refl

-- what the breakpoints do with a hart
pub due_breaks : (p : Program) (s : State) (h : ℕ) (x : Hart) → (due p s h x).breaks ≡ cond x.course.fresh (due_of h (register x.regs) (shown_byte p s.memory) s.breaks) nothing_due
unfolding due judgement_of
due_breaks p s h x = breaks_by x.course.fresh (due_of h (register x.regs) (shown_byte p s.memory) s.breaks) x.course.fired (verdict_behind p (sources_of p) x.course.plan (register x.regs) x.course.last) x.course.plan

fired_as : (b : Bool) (d : Due) (f : Option Fired) (v : Verdict) (plan : Plan) → f ≡ None → (let j : Judgement = record { breaks = d; fired = f; verdict = v } in (cond b j (no_arrival plan)).fired) ≡ None
fired_as true d f v plan none = none
fired_as false d f v plan none = refl

-- where no watch fired none stops the hart
pub unwatched : (p : Program) (sources : Sources) (es : List BreakEntry) (h : ℕ) (c : Course) (rs : ℕ → ℕ) (bytes : ℕ → Option ℕ) → c.fired ≡ None → (judgement_of p sources es h c rs bytes).fired ≡ None
unfolding judgement_of
unwatched p sources es h c rs bytes none = fired_as c.fresh (due_of h rs bytes es) c.fired (verdict_behind p sources c.plan rs c.last) c.plan none

pub due_fired : (p : Program) (s : State) (h : ℕ) (x : Hart) → x.course.fired ≡ None → (due p s h x).fired ≡ None
unfolding due
due_fired p s h x none = unwatched p (sources_of p) s.breaks h x.course (register x.regs) (shown_byte p s.memory) none
