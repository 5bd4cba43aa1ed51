-- The ways that a hart went, with those that it went before.
use Rattle.std.proofs.Common.{◌≡◌, ◌<◌, ◌≤◌, ℕ, zero, suc, ◌+◌, List, [], ◌∷◌, length, refl, sym, ap, ◌∙◌, subst, arith}
use Rattle.std.proofs.lemmas.Bool.Decides.{nat_tests}
use Rattle.std.specs.Prelude.{◌^◌, ◌==◌, true, false, Some, None, is_some, slice_get}
use Rattle.rv_exec.specs.Registers.{set_pc}
use Rattle.text_words.specs.Words.{shown, is_planted}
use Rattle.hart_machine.specs.declared.hart.Core.{Core}
use Rattle.hart_machine.specs.Copying.{StepsByCopy}
use Rattle.hart_machine.specs.Stepping.{AreCounted, Steps}
use Rattle.rv_exec.specs.Memory.{Memory}
use Rattle.rv_exec.specs.declared.effect.Stepped.TheVariants as stepped
use Rattle.watch_points.specs.declared.watchpoint.Watch.{Watch}
use Rattle.watch_points.specs.Watches.{fired_by}
use Rattle.break_table.specs.Arrival.{due_of}
use Rattle.dbg_model.specs.Views.{register, shown_byte}
use Rattle.break_table.specs.declared.due.Due.{Due}
use Rattle.hart_machine.specs.Patched.{Patched}
use Rattle.hart_machine.specs.Running.{AllRan}
use Rattle.dbg_model.specs.Judging.{is_kept}
use Rattle.engine_parts.specs.Going.{Way, InPlace, ByCopy, Goes, GoesBy, Passes, SurroundingsView, meets, turns_of}

abbrev in_place : ℕ → List Way → List Way
in_place zero ws = ws
in_place (suc n) ws = InPlace ∷ in_place n ws

length_more : (n : ℕ) (ws : List Way) → length (in_place n ws) ≡ length ws + n
length_more zero ws = omega arith
length_more (suc n) ws = let ih = length_more n ws in omega arith

-- where nothing is watched, nothing fires
pub none_fire : (vs : List Watch) (a b : Memory) → vs ≡ [] → fired_by vs a b ≡ None
none_fire vs a b none = ap (λ us. fired_by us a b) none

turns_more : (n : ℕ) (ws : List Way) → turns_of (in_place n ws) ≡ turns_of ws + n
turns_more zero ws = omega arith
turns_more (suc n) ws = let ih = turns_more n ws in omega arith

module _ (a : SurroundingsView) (most : ℕ) (old : Patched) where
  more_by : (n : ℕ) (ws : List Way) (mid new : Patched) → a.watches ≡ [] → length ws + n ≤ most → GoesBy a most ws old mid → AllRan n mid a.hart new → GoesBy a most (in_place n ws) old new
  more_by zero ws mid new none room went ran = subst (λ (m : Patched). GoesBy a most ws old m) (sym ran) went
  more_by (suc n) ws mid new none room went ran = (
    let len = length_more n ws in omega arith,
    record {
      machine = ran.machine;
      before = more_by n ws mid ran.machine none (omega arith) went ran.before;
      step = record
          { steps = ran.step; unfired = none_fire a.watches ran.machine.memory new.memory none };
    },
  )

  -- n more instructions in their places
  pub ran_more : (t i n : ℕ) (mid new : Patched) → a.watches ≡ [] → i + n ≤ most → Goes a most t i old mid → AllRan n mid a.hart new → Goes a most (t + n) (i + n) old new
  ran_more t i n mid new none room went ran =
      let ws = went.ways in
      record {
        ways = in_place n ws;
        turns_are = ap (λ k. k + n) went.turns_are ∙ sym (turns_more n ws);
        instructions_are = ap (λ k. k + n) went.instructions_are ∙ sym (length_more n ws);
        goes = more_by n ws mid new none (let e = went.instructions_are in omega arith) went.goes ran;
      }

  -- and one by a copy
  pub passed_more : (t i : ℕ) (mid new : Patched) → i + 1 < most → Goes a most t i old mid → Passes a mid new → Goes a most (t + 3) (i + 1) old new
  passed_more t i mid new room went passes =
      record {
        ways = ByCopy ∷ went.ways;
        turns_are = let e = went.turns_are in omega arith;
        instructions_are = let e = went.instructions_are in omega arith;
        goes = (let e = went.instructions_are in omega arith, record { machine = mid; before = went.goes; step = passes });
      }

  -- and one that made no watch fire
  pub unfired_more : (i n : ℕ) (mid new : Patched) → n ≡ 1 → i < most → Goes a most i i old mid → AllRan n mid a.hart new → fired_by a.watches mid.memory new.memory ≡ None → Goes a most (i + 1) (i + 1) old new
  unfired_more i n mid new one room went ran none =
      let r : AllRan 1 mid a.hart new = subst (λ k. AllRan k mid a.hart new) one ran in
      let step : Steps stepped.Ran mid a.hart new = subst (λ (m : Patched). Steps stepped.Ran m a.hart new) r.before r.step in
      record {
        ways = InPlace ∷ went.ways;
        turns_are = let e = went.turns_are in omega arith;
        instructions_are = let e = went.instructions_are in omega arith;
        goes = (let e = went.instructions_are in omega arith, record { machine = mid; before = went.goes; step = record { steps = step; unfired = none } });
      }

  pub none_yet : Goes a most 0 0 old old
  none_yet = record { ways = []; turns_are = refl; instructions_are = refl; goes = refl }

-- a planted word that was passed, by the pc of its hart
pub passes_at : (a : SurroundingsView) (m new : Patched) (pc word : ℕ) (k : Core) → a.watches ≡ [] → slice_get m.cores a.hart ≡ Some k
    → pc ≡ k.regs.pc → pc < 2 ^ 32 → a.copies ≡ true → is_planted m.text pc ≡ true → Some word ≡ shown m.text pc
    → meets (due_of a.hart (register (set_pc k.regs pc)) (shown_byte a.image m.memory) a.breaks) ≡ false → is_kept a.plan pc ≡ true → AreCounted m.cores → StepsByCopy m a.hart word new → Passes a m new
passes_at a m new pc word k none at is low is_on planted found undue kept counted steps =
    let A : ℕ → Type 0 = λ b. b < 2 ^ 32 in
    let B : ℕ → Type 0 = λ b. is_planted m.text b ≡ true in
    let C : ℕ → Type 0 = λ b. Some word ≡ shown m.text b in
    let D : ℕ → Type 0 = λ b. meets (due_of a.hart (register (set_pc k.regs b)) (shown_byte a.image m.memory) a.breaks) ≡ false in
    let K : ℕ → Type 0 = λ b. is_kept a.plan b ≡ true in
    record {
      unwatched = none;
      is_on = is_on;
      kept = subst K is kept;
      core = k;
      word = word;
      at = at;
      low = subst A is low;
      planted = subst B is
          planted;
      word_is = subst C is found;
      undue = subst D is undue;
      counted = counted;
      steps = steps;
    }

-- neither a stop nor a count
pub unmet : (d : Due) → is_some d.stop ≡ false → d.counts ≡ false → meets d ≡ false
unmet d stop counts = rw (stop, counts) refl

-- there is no watch
pub no_watches : (vs : List Watch) → (length vs == 0) ≡ true → vs ≡ []
no_watches [] none = refl
no_watches (v ∷ vs) none = let e : length (v ∷ vs) ≡ 0 = grind (arith, nat_tests) in absurd (omega (arith, e))
