-- Instructions of a hart that goes on by itself.
use Rattle.std.proofs.Common.{◌≡◌, ◌≤◌, ◌<◌, ◌+◌, ℕ, zero, suc, Bool, true, false, cond, List, [], ◌∷◌, ◌++◌, length, refl, sym, ap, ◌∙◌, subst, arith, not, nat_lt}
use Rattle.std.specs.Prelude.{◌==◌, ◌&&◌, Option, Some, None, is_none, option_and_then, slice_get, slice_set}
use Rattle.std.specs.Option.{option_map}
use Rattle.std.specs.List.{list_any}
use Rattle.std.proofs.lemmas.List.{append-nil}
use Rattle.std.proofs.lemmas.Bool.Decides.{nat_tests}
use Rattle.rv_exec.specs.Registers.{Registers}
use Rattle.rv_exec.specs.Memory.{Memory}
use Rattle.plain_machine.specs.Environment.{Goes, Stays}
use Rattle.plain_machine.specs.Plain.{plain}
use Rattle.break_table.specs.Table.{stands}
use Rattle.dbg_model.specs.declared.hart.Hart.{Hart}
use Rattle.dbg_model.specs.declared.opening.Opening.{Opening}
use Rattle.watch_points.specs.declared.watchpoint.Watch.{Watch}
use Rattle.dbg_model.specs.Courses.{after_instruction}
use Rattle.dbg_model.specs.Judging.{is_due, is_kept, no_arrival}
use Rattle.dbg_model.specs.Limits.{history}
use Rattle.dbg_model.specs.Journals.{Place}
use Rattle.dbg_model.specs.Lawful.{answer_out, hart_out, may_move, may_run, one, one_by, one_more_at, one_out, passes, set_out, stepped, stepped_by, with_step}
use Rattle.dbg_model.specs.Shown.{written}
use Rattle.dbg_model.specs.State.{State, any_leaves, due, is_off, is_running}
use Rattle.watch_points.specs.Watches.{fired_by}
use Rattle.dbg_model.proofs.Options.{both_true, same_some}
use Rattle.replay_parts.specs.Further.{AllGo, LengthensBy, gone_on, lengthen}
use Rattle.dbg_model.proofs.Undue.{undue, unnoted}

abbrev pub place_at : Option ℕ → State → Place
place_at prev s = record { prev = prev; state = s }

-- ---- a list of harts, one of which changes

set_twice : {A : Type 0} (xs : List A) (h : ℕ) (x y : A) → slice_set (slice_set xs h x) h y ≡ slice_set xs h y
set_twice [] h x y = refl
set_twice (z ∷ zs) zero x y = refl
set_twice (z ∷ zs) (suc h) x y = ap (λ t. z ∷ t) (set_twice zs h x y)

pub get_set : {A : Type 0} (xs : List A) (h : ℕ) (x y : A) → slice_get xs h ≡ Some y → slice_get (slice_set xs h x) h ≡ Some x
get_set [] h x y e = cc
get_set (z ∷ zs) zero x y e = refl
get_set (z ∷ zs) (suc h) x y e = get_set zs h x y e

same_leaves : (xs : List Hart) (h : ℕ) (x y : Hart) → slice_get xs h ≡ Some x → y.mode ≡ x.mode → any_leaves (slice_set xs h y) ≡ any_leaves xs
same_leaves [] h x y at is = refl
same_leaves (z ∷ zs) zero x y at is =
    let same : y.mode ≡ z.mode = is ∙ ap (λ (w : Hart). w.mode) (sym (same_some z x at)) in
    rw same refl
same_leaves (z ∷ zs) (suc h) x y at is = rw (same_leaves zs h x y at is) refl

-- ---- one instruction

no_watch : (ws : List Watch) → length ws ≡ 0 → ws ≡ []
no_watch [] is = refl
no_watch (w ∷ ws) is = absurd (omega (arith, is))

and_off : (b : Bool) → (b && false) ≡ false
and_off true = refl
and_off false = refl

-- the state after so many instructions of a hart that went on by itself
abbrev pub gone_state : State → ℕ → Hart → Registers → Memory → ℕ → State
gone_state s h x r m n = record s { harts = slice_set s.harts h (gone_on x r); memory = m; retired = s.retired + n }

stepped_alone : (x : Hart) (r : Registers) → is_kept x.course.plan x.regs.pc ≡ true → stepped x r None ≡ gone_on x r
stepped_alone x r kept = ap (λ (noted : Option ℕ). let y : Hart = record x { regs = r; course = after_instruction noted None x.course } in y) (unnoted x.course.plan x.regs.pc x.regs.pc kept)

step_alone : (s : State) (h : ℕ) (x : Hart) (r : Registers) (m : Memory) → length s.watches ≡ 0 → is_kept x.course.plan x.regs.pc ≡ true → stands x.regs.pc s.breaks ≡ false → with_step s h x r m [] Stays ≡ gone_state s h x r m 1
step_alone s h x r m none kept clear =
    let unfired : fired_by s.watches s.memory m ≡ None = ap (λ ws. fired_by ws s.memory m) (no_watch s.watches none) in
    let off : passes s x ≡ false = ap (λ b. not (is_off s.displaced) && b) clear ∙ and_off (not (is_off s.displaced)) in
    let after : List Hart → List ℕ → List ℕ → State = λ xs out counts. record s { harts = xs; memory = m; out = out; passed = counts; retired = s.retired + 1 } in
    ap (λ f. after (slice_set s.harts h (stepped x r f)) (s.out ++ []) (one_more_at s.passed h (passes s x))) unfired
    ∙ (ap (λ y. after (slice_set s.harts h y) (s.out ++ []) (one_more_at s.passed h (passes s x))) (stepped_alone x r kept)
    ∙ (ap (λ out. after (slice_set s.harts h (gone_on x r)) out (one_more_at s.passed h (passes s x))) (append-nil s.out)
    ∙ ap (λ b. after (slice_set s.harts h (gone_on x r)) s.out (one_more_at s.passed h b)) off))

-- a hart that goes on by itself executes one instruction
one_alone : (o : Opening) (s : State) (h : ℕ) (x : Hart) (r : Registers) (m : Memory) → slice_get s.harts h ≡ Some x → may_move o s x ≡ true → length s.watches ≡ 0 → x.course.fired ≡ None
    → is_kept x.course.plan x.regs.pc ≡ true → stands x.regs.pc s.breaks ≡ false → plain o.image x.regs s.memory ≡ Goes r m [] Stays → (one o h s ≡ Some (gone_state s h x r m 1)) × (one_out o h s ≡ [])
unfolding one one_out
one_alone o s h x r m at may none unfired kept clear gives =
    let quiet : due o.image s h x ≡ no_arrival x.course.plan = undue o.image s h x kept unfired clear in
    let goes : may_run o s h x ≡ true = ap (λ b. b && not (is_due (due o.image s h x))) may ∙ ap (λ j. not (is_due j)) quiet in
    let same : set_out (due o.image s h x) x ≡ x = ap (λ j. set_out j x) quiet in (
      ap (one_by o s h) at
          ∙ (ap (λ b. cond b (stepped_by (plain o.image x.regs s.memory) s h (set_out (due o.image s h x) x)) None) goes
          ∙ (ap (λ y. stepped_by (plain o.image x.regs s.memory) s h y) same
          ∙ (ap (λ a. stepped_by a s h x) gives ∙ ap Some (step_alone s h x r m none kept clear)))),
      ap (hart_out o s) at ∙ ap answer_out gives,
    )

-- ---- one more, as a place

number_same : (h : ℕ) → (h == h) ≡ true
number_same h = grind (arith, nat_tests)

lengthens : (o : Opening) (h : ℕ) (s t : State) → one o h s ≡ Some t → lengthen o (place_at (Some h) s) h ≡ Some (place_at (Some h) t)
lengthens o h s t is = rw (number_same h, is) refl

-- ---- several

-- what lets a hart go on by itself from a state on, for so many instructions
pub record Free (o : Opening) (s : State) (h : ℕ) (x : Hart) (n : ℕ) : Type 0 where
  pub at : slice_get s.harts h ≡ Some x
  pub may : may_move o s x ≡ true
  pub none : length s.watches ≡ 0
  pub unfired : x.course.fired ≡ None
  pub room : s.retired + n ≤ o.settings.budget

-- the state after n instructions: the same after none
abbrev pub gone_by : ℕ → State → ℕ → Hart → Registers → Memory → State
gone_by zero s h x r m = s
gone_by (suc n) s h x r m = gone_state s h x r m (suc n)

abbrev pub hart_by : ℕ → Hart → Registers → Hart
hart_by zero x r = x
hart_by (suc n) x r = gone_on x r

-- a hart may still move
may_more : (o : Opening) (retired low noted : ℕ) (leaves exited pending running : Bool) → ((not leaves && (nat_lt low o.settings.budget && (nat_lt noted history && (not exited && pending)))) && running) ≡ true → retired < o.settings.budget
    → ((not leaves && (nat_lt retired o.settings.budget && (nat_lt noted history && (not exited && pending)))) && running) ≡ true
may_more o retired low noted leaves exited pending running may lt =
    let is : nat_lt retired o.settings.budget ≡ true = grind (arith, nat_tests) in
    let a = both_true (not leaves && (nat_lt low o.settings.budget && (nat_lt noted history && (not exited && pending)))) running may in
    let b = both_true (not leaves) (nat_lt low o.settings.budget && (nat_lt noted history && (not exited && pending))) a.0 in
    let c = both_true (nat_lt low o.settings.budget) (nat_lt noted history && (not exited && pending)) b.1 in
    rw (is, a.1, b.0, c.1) refl

may_still : (o : Opening) (s : State) (h n : ℕ) (x : Hart) (r : Registers) (m : Memory) → Free o s h x (suc n) → may_move o (gone_by n s h x r m) (hart_by n x r) ≡ true
may_still o s h zero x r m f = f.may
may_still o s h (suc n) x r m f =
    let same : any_leaves (slice_set s.harts h (gone_on x r)) ≡ any_leaves s.harts = same_leaves s.harts h x (gone_on x r) f.at refl in
    let P : Bool → Type 0 = λ b. ((not b && (nat_lt (s.retired + suc n) o.settings.budget && (nat_lt s.noted history && (not s.exited && is_none s.pending)))) && is_running x.mode) ≡ true in
    subst P (sym same) (may_more o (s.retired + suc n) s.retired s.noted (any_leaves s.harts) s.exited (is_none s.pending) (is_running x.mode) f.may (omega (arith, f.room)))

at_still : (s : State) (h n : ℕ) (x : Hart) (r : Registers) (m : Memory) → slice_get s.harts h ≡ Some x → slice_get (gone_by n s h x r m).harts h ≡ Some (hart_by n x r)
at_still s h zero x r m at = at
at_still s h (suc n) x r m at = get_set s.harts h (gone_on x r) x at

gone_more : (s : State) (h n : ℕ) (x : Hart) (q r : Registers) (k m : Memory) → gone_state (gone_by n s h x q k) h (hart_by n x q) r m 1 ≡ gone_by (suc n) s h x r m
gone_more s h zero x q r k m = refl
gone_more s h (suc n) x q r k m =
    let count : (s.retired + suc n) + 1 ≡ s.retired + suc (suc n) = omega arith in
    let after : List Hart → ℕ → State = λ xs retired. record s { harts = xs; memory = m; retired = retired } in
    ap (λ xs. after xs ((s.retired + suc n) + 1)) (set_twice s.harts h (gone_on x q) (gone_on x r)) ∙ ap (after (slice_set s.harts h (gone_on x r))) count

regs_still : (n : ℕ) (o : Opening) (s : State) (h : ℕ) (x : Hart) (q r : Registers) (k m : Memory) → AllGo n o.image s.breaks x.course.plan x.regs s.memory q k
    → ((hart_by n x q).regs ≡ q) × ((gone_by n s h x q k).memory ≡ k)
regs_still zero o s h x q r k m all = (sym all.0, sym all.1)
regs_still (suc n) o s h x q r k m all = (refl, refl)

plan_still : (n : ℕ) (x : Hart) (r : Registers) → ((hart_by n x r).course.plan ≡ x.course.plan)
plan_still zero x r = refl
plan_still (suc n) x r = refl

fired_still : (n : ℕ) (x : Hart) (r : Registers) → x.course.fired ≡ None → (hart_by n x r).course.fired ≡ None
fired_still zero x r is = is
fired_still (suc n) x r is = refl

sets_still : (n : ℕ) (s : State) (h : ℕ) (x : Hart) (r : Registers) (m : Memory) → ((gone_by n s h x r m).breaks ≡ s.breaks) × ((gone_by n s h x r m).watches ≡ s.watches)
sets_still zero s h x r m = (refl, refl)
sets_still (suc n) s h x r m = (refl, refl)

fewer : (o : Opening) (s : State) (h : ℕ) (x : Hart) (n : ℕ) → Free o s h x (suc n) → Free o s h x n
fewer o s h x n f = record { at = f.at; may = f.may; none = f.none; unfired = f.unfired; room = omega (arith, f.room) }

-- a hart that goes on by itself, as places of a journal
pub all_lengthen : (n : ℕ) (o : Opening) (s : State) (h : ℕ) (x : Hart) (r : Registers) (m : Memory) → Free o s h x n → AllGo n o.image s.breaks x.course.plan x.regs s.memory r m
    → LengthensBy n o h (place_at (Some h) s) (place_at (Some h) (gone_by n s h x r m))
all_lengthen zero o s h x r m f all = refl
all_lengthen (suc n) o s h x r m f all =
    let t = gone_by n s h x all.regs all.memory in
    let y = hart_by n x all.regs in
    let still = regs_still n o s h x all.regs r all.memory m all.before in
    let sets = sets_still n s h x all.regs all.memory in
    let none : length t.watches ≡ 0 = ap length sets.1 ∙ f.none in
    let kept : is_kept y.course.plan y.regs.pc ≡ true = ap (λ q. is_kept q y.regs.pc) (plan_still n x all.regs) ∙ (ap (λ (q : Registers). is_kept x.course.plan q.pc) still.0 ∙ all.kept) in
    let clear : stands y.regs.pc t.breaks ≡ false = ap (stands y.regs.pc) sets.0 ∙ (ap (λ (q : Registers). stands q.pc s.breaks) still.0 ∙ all.clear) in
    let gives : plain o.image y.regs t.memory ≡ Goes r m [] Stays = ap (λ q. plain o.image q t.memory) still.0 ∙ (ap (plain o.image all.regs) still.1 ∙ all.gives) in
    let did = one_alone o t h y r m (at_still s h n x all.regs all.memory f.at) (may_still o s h n x all.regs all.memory f) none (fired_still n x all.regs f.unfired) kept clear gives in
    record {
      place = place_at (Some h) t;
      before = all_lengthen n o s h x all.regs all.memory (fewer o s h x n f) all.before;
      lengthens = lengthens o h t (gone_by (suc n) s h x r m) (did.0 ∙ ap Some (gone_more s h n x all.regs r all.memory m));
      shows = ap written did.1;
    }
