-- How many harts have exited, and how many entries may still come.
use Rattle.std.proofs.Common.{◌≡◌, ◌≤◌, ◌<◌, ◌+◌, ◌-◌, ◌^◌, ℕ, zero, suc, Bool, true, false, cond, List, [], ◌∷◌, length, refl, sym, ap, ◌∙◌, arith, length-set}
use Rattle.std.specs.Prelude.{Option, Some, None, Ok, slice_get, slice_set, ◌==◌}
use Rattle.dbg_model.specs.declared.entry.Mode.{Mode}
use Rattle.dbg_model.specs.declared.entry.Mode.TheVariants as mode
use Rattle.dbg_model.specs.declared.opening.Opening.{Opening}
use Rattle.dbg_model.specs.declared.hart.Hart.{Hart}
use Rattle.dbg_model.specs.State.{State, has_exited, hart_gone}
use Rattle.dbg_model.specs.Lawful.{exited, exited_at, leaver_from, leaver_or, left_by}
use Rattle.dbg_model.specs.Pokes.{register_poked, with_register}
use Rattle.dbg_model.specs.State.{all_gone, is_stopped}
use Rattle.dbg_model.specs.declared.shown.Shown.TheVariants.{Exit}
use Rattle.plain_machine.specs.PlainRun.{is_settable}
use Rattle.std.proofs.lemmas.Bool.Decides.{nat_tests}
use Rattle.std.specs.Global.{Vec}
use Rattle.dbg_model.proofs.Options.{same_some}
use Rattle.replay_parts.specs.declared.state.Parts.{Parts}
use Rattle.replay_parts.specs.Keeping.{gone}
use Rattle.replay_parts.specs.Parts.{state_of}
use Rattle.replay_parts.specs.Going.{Comes, Enters, Kept}

gone_by : (b : Bool) (n m : ℕ) → n ≤ m → cond b 1 0 + n ≤ suc m
gone_by true n m le = omega arith
gone_by false n m le = omega arith

pub gone_few : (xs : List Hart) → gone xs ≤ length xs
gone_few [] = omega arith
gone_few (x ∷ xs) = gone_by (hart_gone x) (gone xs) (length xs) (gone_few xs)

-- another hart stands there that has exited exactly where that before had
pub gone_same : (xs : List Hart) (h : ℕ) (x y : Hart) → slice_get xs h ≡ Some x → hart_gone y ≡ hart_gone x → gone (slice_set xs h y) ≡ gone xs
gone_same [] h x y at is = refl
gone_same (z ∷ zs) zero x y at is =
    let same : z ≡ x = same_some z x at in
    ap (λ b. cond b 1 0 + gone zs) (is ∙ ap hart_gone (sym same))
gone_same (z ∷ zs) (suc h) x y at is = ap (λ n. cond (hart_gone z) 1 0 + n) (gone_same zs h x y at is)

more_by : (a b : Bool) (n : ℕ) → a ≡ false → b ≡ true → cond b 1 0 + n ≡ (cond a 1 0 + n) + 1
more_by false true n live is = omega arith
more_by true b n live is = cc
more_by false false n live is = cc

-- a hart exited
pub gone_more : (xs : List Hart) (h : ℕ) (x y : Hart) → slice_get xs h ≡ Some x → hart_gone x ≡ false → hart_gone y ≡ true → gone (slice_set xs h y) ≡ gone xs + 1
gone_more [] h x y at live is = cc
gone_more (z ∷ zs) zero x y at live is = more_by (hart_gone z) (hart_gone y) (gone zs) (ap hart_gone (same_some z x at) ∙ live) is
gone_more (z ∷ zs) (suc h) x y at live is =
    let more = gone_more zs h x y at live is in
    omega (arith, more)

-- there is room for the number of one more entry
pub noted_low : (o : Opening) (p : Parts) → Kept o p → p.noted < 2 ^ 64 - 1
noted_low o p kept =
    let few = gone_few p.harts.items in
    let harts = kept.harts in
    let most = kept.few in
    let noted = kept.noted in
    omega (arith, few, harts, most, noted)

-- the hart that leaves
pub record Leaver (xs : List Hart) (k : ℕ) (p : ℕ × ℕ) : Type 0 where
  pub hart : Hart
  pub place : ℕ
  pub number : p.0 ≡ k + place
  pub at : slice_get xs place ≡ Some hart
  pub live : hart_gone hart ≡ false

leaver_at : (x : Hart) (xs : List Hart) (k : ℕ) (p : ℕ × ℕ) (m : Mode) → x.mode ≡ m → leaver_or k m (leaver_from (k + 1) xs) ≡ Some p → (leaver_from (k + 1) xs ≡ Some p → Leaver xs (k + 1) p) → Leaver (x ∷ xs) k p
leaver_at x xs k p mode.Stopped m is ih = let l = ih is in record { hart = l.hart; place = suc l.place; number = omega (arith, l.number); at = l.at; live = l.live }
leaver_at x xs k p mode.Running m is ih = let l = ih is in record { hart = l.hart; place = suc l.place; number = omega (arith, l.number); at = l.at; live = l.live }
leaver_at x xs k p mode.Exited m is ih = let l = ih is in record { hart = l.hart; place = suc l.place; number = omega (arith, l.number); at = l.at; live = l.live }
leaver_at x xs k p (mode.Leaving code) m is ih =
    let same : k ≡ p.0 = ap (λ (q : ℕ × ℕ). q.0) (same_some (k, code) p is) in
    record { hart = x; place = 0; number = omega (arith, same); at = refl; live = ap has_exited m }

pub leaver_found : (xs : List Hart) (k : ℕ) (p : ℕ × ℕ) → leaver_from k xs ≡ Some p → Leaver xs k p
leaver_found [] k p is = cc
leaver_found (x ∷ xs) k p is = leaver_at x xs k p x.mode refl is (λ h. leaver_found xs (k + 1) p h)

-- ---- an exit

length_exited : (xs : List Hart) (h : ℕ) (r : Option Hart) → length (exited_at xs h r) ≡ length xs
length_exited xs h None = refl
length_exited xs h (Some x) = length-set xs h (exited x)

exits_gone : (xs : List Hart) (h code : ℕ) → leaver_from 0 xs ≡ Some (h, code) → gone (exited_at xs h (slice_get xs h)) ≡ gone xs + 1
exits_gone xs h code is =
    let l = leaver_found xs 0 (h, code) is in
    let number : h ≡ 0 + l.place = l.number in
    let place : h ≡ l.place = omega (arith, number) in
    let at : slice_get xs h ≡ Some l.hart = ap (slice_get xs) place ∙ l.at in
    ap (λ r. gone (exited_at xs h r)) at ∙ gone_more xs h l.hart (exited l.hart) at l.live refl

same_number : (h : ℕ) → (h == h) ≡ true
same_number h = grind (arith, nat_tests)

left_same : (s : State) (h code : ℕ) → s.exited ≡ false → left_by s h code (Some (h, code)) ≡ Some (record s { harts = exited_at s.harts h (slice_get s.harts h); noted = s.noted + 1 })
left_same s h code on = rw (on, same_number h, same_number code) refl

-- a hart exits that leaves
pub leaves : (o : Opening) (old : Parts) (h code : ℕ) (v : Vec Hart) (last : Bool) → Kept o old → old.exited ≡ false → leaver_from 0 old.harts.items ≡ Some (h, code)
    → v.items ≡ exited_at old.harts.items h (slice_get old.harts.items h) → last ≡ all_gone v.items
    → Enters o (Ok (Exit last)) (left_by (state_of old) h code (leaver_from 0 old.harts.items)) (Exit (all_gone (exited_at old.harts.items h (slice_get old.harts.items h)))) old (record old { harts = v; noted = old.noted + 1 })
leaves o old h code v last kept on leaver items is =
    let more : gone v.items ≡ gone old.harts.items + 1 = ap gone items ∙ exits_gone old.harts.items h code leaver in
    let noted = kept.noted in (
      ap (left_by (state_of old) h code) leaver ∙ (left_same (state_of old) h code on ∙ ap (λ ys. let s : State = record (state_of old) { harts = ys; noted = old.noted + 1 } in Some s) (sym items)),
      ap Exit (is ∙ ap all_gone items),
      record {
        sources = kept.sources;
        words = kept.words;
        harts = ap length items ∙ (length_exited old.harts.items h (slice_get old.harts.items h) ∙ kept.harts);
        places = kept.places;
        waits = kept.waits;
        given = omega (arith, kept.given);
        few = kept.few;
        budget = kept.budget;
        counts = kept.counts;
        passed = kept.passed;
        sets = omega (arith, kept.sets);
        noted = omega (arith, more, noted);
        owing = λ p pending. let low = kept.owing p pending in omega (arith, more, low);
      },
    )

-- ---- a register that is set

pub register_set : (o : Opening) (old : Parts) (h n value : ℕ) (x : Hart) (v : Vec Hart) → Kept o old → slice_get old.harts.items h ≡ Some x → is_stopped x.mode ≡ true → is_settable n ≡ true
    → v.items ≡ slice_set old.harts.items h (with_register x n value)
    → Comes o (Ok tt) (register_poked (state_of old) h n value (slice_get old.harts.items h)) old (record old { harts = v })
register_set o old h n value x v kept at stopped settable items =
    let y = with_register x n value in
    let same : gone v.items ≡ gone old.harts.items = ap gone items ∙ gone_same old.harts.items h x y at refl in
    let noted = kept.noted in (
      ap (register_poked (state_of old) h n value) at ∙ (rw (stopped, settable) (ap (λ ys. let s : State = record (state_of old) { harts = ys } in Some s) (sym items))),
      record {
        sources = kept.sources;
        words = kept.words;
        harts = ap length items ∙ (length-set old.harts.items h y ∙ kept.harts);
        places = kept.places;
        waits = kept.waits;
        given = kept.given;
        few = kept.few;
        budget = kept.budget;
        counts = kept.counts;
        passed = kept.passed;
        sets = kept.sets;
        noted = omega (arith, same, noted);
        owing = λ p pending. let low = kept.owing p pending in omega (arith, same, low);
      },
    )
