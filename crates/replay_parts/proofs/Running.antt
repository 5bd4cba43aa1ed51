-- One instruction.
use Rattle.std.proofs.Common.{◌≡◌, ◌≤◌, ◌<◌, ◌+◌, ℕ, zero, suc, Bool, true, false, List, [], ◌∷◌, ◌++◌, length, refl, sym, ap, ◌∙◌, subst, arith, length-set}
use Rattle.std.proofs.lemmas.List.{append-nil, length-map}
use Rattle.std.specs.Prelude.{Option, Some, None, Ok, Err, slice_get, slice_index, slice_set}
use Rattle.std.specs.Global.{Vec}
use Rattle.rv_exec.specs.Registers.{Registers}
use Rattle.rv_exec.specs.Memory.{Memory}
use Rattle.rv_exec.specs.declared.effect.Cause.{Cause}
use Rattle.rv_exec.specs.declared.effect.Stepped.{Stepped}
use Rattle.rv_exec.specs.declared.effect.Stepped.TheVariants as stepping
use Rattle.plain_machine.specs.Answers.{StepGives}
use Rattle.plain_machine.specs.Environment.{Answer, Traps, Goes, Leave, Stays, LeavesAlone, LeavesAll}
use Rattle.plain_machine.specs.Plain.{plain}
use Rattle.unpatched_machine.specs.Instruction.{OnOutput}
use Rattle.dbg_model.specs.declared.opening.Opening.{Opening}
use Rattle.dbg_model.specs.declared.hart.Hart.{Hart}
use Rattle.dbg_model.specs.declared.shown.Shown.{Shown}
use Rattle.dbg_model.specs.Limits.{history}
use Rattle.dbg_model.specs.State.{State, due}
use Rattle.watch_points.specs.Watches.{fired_by}
use Rattle.dbg_model.specs.Lawful.{answer_out, hart_out, leaving, leaving_at, may_run, one, one_by, one_more_at, one_out, passes, set_out, stepped, stepped_by, with_leavers, with_step}
use Rattle.dbg_model.specs.Shown.{written}
use Rattle.replay_parts.specs.declared.halt.Halt.{Halt}
use Rattle.replay_parts.specs.declared.halt.Halt.TheVariants.{NoMemory, Unlawful}
use Rattle.replay_parts.specs.declared.state.Parts.{Parts}
use Rattle.replay_parts.specs.Parts.{state_of}
use Rattle.replay_parts.specs.Going.{Enters, Judged, Kept, PutsOut, leave_of}

-- ---- one instruction

refused_by : (o : Opening) (s : State) (h : ℕ) (r : Option Hart) → ((x : Hart) → r ≡ Some x → may_run o s h x ≡ false) → one_by o s h r ≡ None
refused_by o s h None each = refl
refused_by o s h (Some x) each = rw (each x refl) refl

-- no hart of that number may execute
pub one_refused : (o : Opening) (h : ℕ) (e : Halt) (p : Parts) (shows : Shown) → Judged (Err e) o (state_of p) h → Enters o (Err e) (one o h (state_of p)) shows p p
unfolding one
one_refused o h NoMemory p shows c = absurd c
one_refused o h Unlawful p shows c = (refused_by o (state_of p) h (slice_get p.harts.items h) c, (refl, refl))

one_steps : (o : Opening) (s : State) (h : ℕ) (x : Hart) (a : Answer) → slice_get s.harts h ≡ Some x → may_run o s h x ≡ true → plain o.image x.regs s.memory ≡ a → one o h s ≡ stepped_by a s h (set_out (due o.image s h x) x)
unfolding one
one_steps o s h x a at may is = ap (one_by o s h) at ∙ (rw may (ap (λ b. stepped_by b s h (set_out (due o.image s h x) x)) is))

length_left : (code : ℕ) (xs : List Hart) (h : ℕ) (r : Option Hart) → length (leaving_at code xs h r) ≡ length xs
length_left code xs h None = refl
length_left code xs h (Some x) = length-set xs h (leaving code x)

length_leavers : (leave : Leave) (xs : List Hart) (h : ℕ) → length (with_leavers leave xs h) ≡ length xs
length_leavers Stays xs h = refl
length_leavers (LeavesAlone code) xs h = length_left code xs h (slice_get xs h)
length_leavers (LeavesAll code) xs h = length-map xs (leaving code)

-- ---- what an instruction did, by its answer

-- it gave registers and memory, and put out and showed what it wrote
record Went (st : Stepped) (a : Answer) (s : Registers) (n : Memory) (shows : Shown) (before after : List ℕ) : Type 0 where
  pub out : List ℕ
  pub answer : a ≡ Goes s n out (leave_of st)
  pub wrote : after ≡ before ++ out
  pub shown : shows ≡ written out

went : (st : Stepped) (a : Answer) (r s : Registers) (m n : Memory) (shows : Shown) (before after : List ℕ) → StepGives st a r s m n → PutsOut (Ok shows) st n before after → Went st a s n shows before after
went stepping.Ran a r s m n shows before after gives puts = record { out = []; answer = gives; wrote = puts.1 ∙ sym (append-nil before); shown = puts.0 }
went (stepping.Wrote addr len) a r s m n shows before after gives puts =
    let p = puts gives.0 gives.1 gives.2 in
    record { out = gives.0; answer = gives.3; wrote = p.1; shown = p.0 }
went (stepping.HartExit code) a r s m n shows before after gives puts = record { out = []; answer = gives; wrote = puts.1 ∙ sym (append-nil before); shown = puts.0 }
went (stepping.AllExit code) a r s m n shows before after gives puts = record { out = []; answer = gives; wrote = puts.1 ∙ sym (append-nil before); shown = puts.0 }
went stepping.Hit a r s m n shows before after gives puts = absurd gives
went (stepping.Trap cause) a r s m n shows before after gives puts = absurd puts

-- where it isn't put out, nothing has changed
kept_by : (st : Stepped) (a : Answer) (r s : Registers) (m n : Memory) (e : Halt) (before after : List ℕ) → StepGives st a r s m n → OnOutput st (n ≡ m) → PutsOut (Err e) st n before after → (n ≡ m) × (after ≡ before)
kept_by stepping.Ran a r s m n Unlawful before after gives same puts = absurd puts
kept_by stepping.Ran a r s m n NoMemory before after gives same puts = absurd puts
kept_by (stepping.Wrote addr len) a r s m n Unlawful before after gives same puts = absurd puts
kept_by (stepping.Wrote addr len) a r s m n NoMemory before after gives same puts = (same, puts)
kept_by (stepping.HartExit code) a r s m n Unlawful before after gives same puts = absurd puts
kept_by (stepping.HartExit code) a r s m n NoMemory before after gives same puts = absurd puts
kept_by (stepping.AllExit code) a r s m n Unlawful before after gives same puts = absurd puts
kept_by (stepping.AllExit code) a r s m n NoMemory before after gives same puts = absurd puts
kept_by stepping.Hit a r s m n e before after gives same puts = absurd gives
kept_by (stepping.Trap cause) a r s m n Unlawful before after gives same puts = (gives.2, puts)
kept_by (stepping.Trap cause) a r s m n NoMemory before after gives same puts = absurd puts

-- and where it isn't for memory it trapped
trapped : (st : Stepped) (a : Answer) (r s : Registers) (m n : Memory) (before after : List ℕ) → StepGives st a r s m n → PutsOut (Err Unlawful) st n before after → (cause : Cause) × (a ≡ Traps cause)
trapped stepping.Ran a r s m n before after gives puts = absurd puts
trapped (stepping.Wrote addr len) a r s m n before after gives puts = absurd puts
trapped (stepping.HartExit code) a r s m n before after gives puts = absurd puts
trapped (stepping.AllExit code) a r s m n before after gives puts = absurd puts
trapped stepping.Hit a r s m n before after gives puts = absurd gives
trapped (stepping.Trap cause) a r s m n before after gives puts = (cause, gives.0)

-- ---- the state behind it

-- the state of parts after an instruction, with these harts, memory, output and counts
abbrev after_one : State → List Hart → Memory → List ℕ → List ℕ → State
after_one s xs m out counts = record s { harts = xs; memory = m; out = out; passed = counts; retired = s.retired + 1 }

-- the parts after an instruction
abbrev behind : Parts → Vec Hart → Memory → Vec ℕ → Vec ℕ → Parts
behind p v m wrote w = record p { harts = v; memory = m; out = wrote; passed = w; retired = p.retired + 1 }

length_more : (ns : List ℕ) (h : ℕ) (b : Bool) → length (one_more_at ns h b) ≡ length ns
length_more ns h true = length-set ns h (slice_index ns h + 1)
length_more ns h false = refl

set_within : (ns : List ℕ) (h v k n : ℕ) → v ≤ n + 1 → ((j : ℕ) → slice_index ns j ≤ n) → slice_index (slice_set ns h v) k ≤ n + 1
set_within [] h v k n le each = omega (arith, each k)
set_within (x ∷ xs) zero v zero n le each = le
set_within (x ∷ xs) zero v (suc k) n le each = omega (arith, each (suc k))
set_within (x ∷ xs) (suc h) v zero n le each = omega (arith, each zero)
set_within (x ∷ xs) (suc h) v (suc k) n le each = set_within xs h v k n le (λ j. each (suc j))

-- a count is at most as great as that of all instructions
more_within : (ns : List ℕ) (h n : ℕ) (b : Bool) → ((j : ℕ) → slice_index ns j ≤ n) → (k : ℕ) → slice_index (one_more_at ns h b) k ≤ n + 1
more_within ns h n true each k = set_within ns h (slice_index ns h + 1) k n (omega (arith, each h)) each
more_within ns h n false each k = omega (arith, each k)

-- the parts show the state behind it, and are kept
finished : (o : Opening) (old : Parts) (h : ℕ) (x : Hart) (v : Vec Hart) (m : Memory) (wrote w : Vec ℕ) (s : Registers) (out : List ℕ) (leave : Leave) → Kept o old → old.noted < history
    → v.items ≡ with_leavers leave (slice_set old.harts.items h (stepped x s (fired_by old.watches old.memory m))) h → wrote.items ≡ old.out.items ++ out → w.items ≡ one_more_at old.passed.items h (passes (state_of old) x)
    → (with_step (state_of old) h x s m out leave ≡ state_of (behind old v m wrote w)) × Kept o (behind old v m wrote w)
finished o old h x v m wrote w s out leave kept low harts puts more =
    let one : State = with_step (state_of old) h x s m out leave in
    let state : one ≡ state_of (behind old v m wrote w) =
    ap (λ ys. after_one (state_of old) ys m (old.out.items ++ out) (one_more_at old.passed.items h (passes (state_of old) x))) (sym harts)
    ∙ (ap (λ b. after_one (state_of old) v.items m b (one_more_at old.passed.items h (passes (state_of old) x))) (sym puts) ∙ ap (after_one (state_of old) v.items m wrote.items) (sym more)) in
    let count : length v.items ≡ o.settings.harts =
    ap length harts ∙ (length_leavers leave (slice_set old.harts.items h (stepped x s (fired_by old.watches old.memory m))) h ∙ (length-set old.harts.items h (stepped x s (fired_by old.watches old.memory m)) ∙ kept.harts)) in
    let within : (j : ℕ) → slice_index w.items j ≤ old.retired + 1 =
    λ j. subst (λ ns. slice_index ns j ≤ old.retired + 1) (sym more) (more_within old.passed.items h old.retired (passes (state_of old) x) kept.passed j) in (
      state,
      record {
        sources = kept.sources;
        words = kept.words;
        harts = count;
        places = kept.places;
        waits = kept.waits;
        given = kept.given;
        few = kept.few;
        budget = kept.budget;
        counts = ap length more ∙ (length_more old.passed.items h (passes (state_of old) x) ∙ kept.counts);
        passed = within;
        sets = kept.sets;
        noted = omega (arith, low);
        owing = λ p is. omega (arith, low);
      },
    )

-- the answer at the hart's pc, and what it wrote
answers : (o : Opening) (old : Parts) (h : ℕ) (x y : Hart) (r : Registers) (a : Answer) → slice_get old.harts.items h ≡ Some x → may_run o (state_of old) h x ≡ true → y ≡ set_out (due o.image (state_of old) h x) x → r ≡ y.regs
    → plain o.image r old.memory ≡ a → (one o h (state_of old) ≡ stepped_by a (state_of old) h y) × (one_out o h (state_of old) ≡ answer_out a)
unfolding one_out
answers o old h x y r a at may goes same is =
    let regs : x.regs ≡ r = ap (λ (z : Hart). z.regs) (sym goes) ∙ sym same in
    let plainly : plain o.image x.regs old.memory ≡ a = ap (λ q. plain o.image q old.memory) regs ∙ is in
    (one_steps o (state_of old) h x a at may plainly ∙ ap (stepped_by a (state_of old) h) (sym goes), ap (hart_out o (state_of old)) at ∙ ap answer_out plainly)

-- one instruction came
pub one_comes : (o : Opening) (old new : Parts) (h : ℕ) (x y : Hart) (v : Vec Hart) (m : Memory) (wrote w : Vec ℕ) (st : Stepped) (r s : Registers) (shows : Shown) → Kept o old → old.noted < history
    → slice_get old.harts.items h ≡ Some x → may_run o (state_of old) h x ≡ true → y ≡ set_out (due o.image (state_of old) h x) x → r ≡ y.regs
    → StepGives st (plain o.image r old.memory) r s old.memory m → PutsOut (Ok shows) st m old.out.items wrote.items
    → v.items ≡ with_leavers (leave_of st) (slice_set old.harts.items h (stepped y s (fired_by old.watches old.memory m))) h → w.items ≡ one_more_at old.passed.items h (passes (state_of old) y) → new ≡ behind old v m wrote w
    → Enters o (Ok shows) (one o h (state_of old)) (written (one_out o h (state_of old))) old new
one_comes o old new h x y v m wrote w st r s shows kept low at may goes same gives puts harts more is =
    let d = went st (plain o.image r old.memory) r s old.memory m shows old.out.items wrote.items gives puts in
    let a = answers o old h x y r (Goes s m d.out (leave_of st)) at may goes same d.answer in
    let f = finished o old h y v m wrote w s d.out (leave_of st) kept low harts d.wrote more in
    (a.0 ∙ ap Some (f.0 ∙ ap state_of (sym is)), d.shown ∙ ap written (sym a.1), subst (Kept o) (sym is) f.1)

-- one instruction traps, or there is no memory for what it wrote
pub one_fails : (o : Opening) (old : Parts) (h : ℕ) (x y : Hart) (m : Memory) (wrote : Vec ℕ) (st : Stepped) (r s : Registers) (e : Halt) (shows : Shown)
    → slice_get old.harts.items h ≡ Some x → may_run o (state_of old) h x ≡ true → y ≡ set_out (due o.image (state_of old) h x) x → r ≡ y.regs → StepGives st (plain o.image r old.memory) r s old.memory m → OnOutput st (m ≡ old.memory)
    → PutsOut (Err e) st m old.out.items wrote.items → Enters o (Err e) (one o h (state_of old)) shows old (record old { memory = m; out = wrote })
one_fails o old h x y m wrote st r s Unlawful shows at may goes same gives still puts =
    let k = kept_by st (plain o.image r old.memory) r s old.memory m Unlawful old.out.items wrote.items gives still puts in
    let t = trapped st (plain o.image r old.memory) r s old.memory m old.out.items wrote.items gives puts in
    let a = answers o old h x y r (Traps t.0) at may goes same t.1 in
    (a.0, (k.1, ap (λ (n : Memory). let p : Parts = record old { memory = n; out = wrote } in p) k.0))
one_fails o old h x y m wrote st r s NoMemory shows at may goes same gives still puts =
    let k = kept_by st (plain o.image r old.memory) r s old.memory m NoMemory old.out.items wrote.items gives still puts in
    (k.1, ap (λ (n : Memory). let p : Parts = record old { memory = n; out = wrote } in p) k.0)
