-- The parts of a replay behind instructions by which a hart went on by itself.
use Rattle.std.proofs.Common.{◌≡◌, ◌≤◌, ◌<◌, ◌+◌, ℕ, zero, suc, Bool, true, false, List, length, refl, sym, ap, ◌∙◌, subst, arith, not, nat_lt, length-set}
use Rattle.std.specs.Prelude.{◌==◌, ◌&&◌, Option, Some, None, is_none, slice_get, slice_index, slice_set}
use Rattle.std.specs.Global.{Vec}
use Rattle.std.proofs.lemmas.Bool.Decides.{nat_tests}
use Rattle.rv_exec.specs.Registers.{Registers}
use Rattle.rv_exec.specs.Memory.{Memory}
use Rattle.dbg_model.specs.declared.hart.Hart.{Hart}
use Rattle.dbg_model.specs.declared.opening.Opening.{Opening}
use Rattle.dbg_model.specs.Limits.{history}
use Rattle.dbg_model.specs.Lawful.{may_go}
use Rattle.dbg_model.specs.State.{State, any_leaves, is_running}
use Rattle.dbg_model.proofs.Options.{both_true, same_some}
use Rattle.replay_parts.specs.declared.state.Parts.{Parts}
use Rattle.replay_parts.specs.Parts.{state_of}
use Rattle.replay_parts.specs.Going.{Kept}
use Rattle.replay_parts.specs.Further.{AllGo, GoesNoFurther, LengthensBy, goes_alone, goes_on, gone_on}
use Rattle.replay_parts.proofs.Alone.{Free, all_lengthen, place_at}

-- the parts after n of them
abbrev pub went : Parts → Vec Hart → Memory → ℕ → Parts
went p v m n = record p { harts = v; memory = m; retired = p.retired + n }

-- a hart went on
pub went_on : (n : ℕ) (o : Opening) (old : Parts) (h : ℕ) (x : Hart) (v : Vec Hart) (r : Registers) (m : Memory) → 0 < n → Free o (state_of old) h x n → AllGo n o.image old.table.entries x.course.plan x.regs old.memory r m
    → v.items ≡ slice_set old.harts.items h (gone_on x r) → LengthensBy n o h (place_at (Some h) (state_of old)) (place_at (Some h) (state_of (went old v m n)))
went_on zero o old h x v r m some f all is = absurd (omega (arith, some))
went_on (suc n) o old h x v r m some f all is =
    let after : List Hart → State = λ xs. record (state_of old) { harts = xs; memory = m; retired = old.retired + suc n } in
    subst (λ xs. LengthensBy (suc n) o h (place_at (Some h) (state_of old)) (place_at (Some h) (after xs))) (sym is) (all_lengthen (suc n) o (state_of old) h x r m f all)

pub still_kept : (n : ℕ) (o : Opening) (old : Parts) (h : ℕ) (y : Hart) (v : Vec Hart) (m : Memory) → Kept o old → old.noted < history → v.items ≡ slice_set old.harts.items h y → Kept o (went old v m n)
still_kept n o old h y v m kept low is =
    let within : (j : ℕ) → slice_index old.passed.items j ≤ old.retired + n = λ j. let le = kept.passed j in omega (arith, le) in
    record {
      sources = kept.sources;
      words = kept.words;
      harts = ap length is ∙ (length-set old.harts.items h y ∙ kept.harts);
      places = kept.places;
      waits = kept.waits;
      given = kept.given;
      few = kept.few;
      budget = kept.budget;
      counts = kept.counts;
      passed = within;
      sets = kept.sets;
      noted = omega (arith, low);
      owing = λ p pending. omega (arith, low);
    }

-- ---- it goes no further

off_by : (a b c : Bool) → c ≡ false → (a && (b && c)) ≡ false
off_by true true c h = h
off_by true false c h = refl
off_by false b c h = refl

pub ends_alone : (o : Opening) (s : State) (h : ℕ) (y : Hart) → slice_get s.harts h ≡ Some y → goes_alone o.image s.breaks y.course.plan y.regs s.memory ≡ false → GoesNoFurther o h (place_at (Some h) s)
ends_alone o s h y at ends =
    λ z there number may.
    let same : y ≡ z = same_some y z (sym at ∙ there) in
    subst (λ (w : Hart). goes_on o.image s w ≡ false) same (off_by (length s.watches == 0) (is_none y.course.fired) (goes_alone o.image s.breaks y.course.plan y.regs s.memory) ends)

pub ends_budget : (o : Opening) (s : State) (h : ℕ) → o.settings.budget ≤ s.retired → GoesNoFurther o h (place_at (Some h) s)
ends_budget o s h le =
    λ z there number may.
    let a = both_true (may_go o s) (is_running z.mode) may in
    let b = both_true (not (any_leaves s.harts)) (nat_lt s.retired o.settings.budget && (nat_lt s.noted history && (not s.exited && is_none s.pending))) a.0 in
    let c = both_true (nat_lt s.retired o.settings.budget) (nat_lt s.noted history && (not s.exited && is_none s.pending)) b.1 in
    let lt : s.retired < o.settings.budget = grind (arith, nat_tests) in
    absurd (omega (arith, le, lt))
