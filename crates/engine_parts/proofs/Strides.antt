-- Instructions of a hart within a line, with those that it executed before, and why it executes no more.
use Rattle.std.proofs.Common.{◌≡◌, ◌<◌, ◌≤◌, ℕ, zero, suc, ◌+◌, Bool, true, false, List, [], refl, sym, ap, ◌∙◌, subst, arith, inl, inr}
use Rattle.std.specs.Prelude.{◌⊎◌, ◌≢◌, ◌&&◌, not, nat_le, nat_lt, Some, None, slice_get}
use Rattle.std.proofs.lemmas.Bool.{leb-true, ltb-true}
use Rattle.std.proofs.lemmas.Bool.Decides.{nat_tests}
use Rattle.rv_exec.specs.declared.effect.Stepped.TheVariants as stepped
use Rattle.text_words.specs.Words.{fetched}
use Rattle.hart_machine.specs.declared.hart.Core.{Core}
use Rattle.hart_machine.specs.Patched.{Patched}
use Rattle.hart_machine.specs.Running.{HasStopped, StopsAt}
use Rattle.hart_machine.specs.Stepping.{Steps}
use Rattle.hart_machine.specs.Within.{AllRanAt, EndsAt, HasEnded, StepsAt, is_among, is_inner}
use Rattle.hart_machine.proofs.Places.{same_some}
use Rattle.line_index.specs.Lines.{begins_another}
use Rattle.watch_points.specs.declared.watchpoint.Watch.{Watch}
use Rattle.watch_points.specs.Watches.{fired_by}
use Rattle.dbg_model.proofs.Options.{both_true}
use Rattle.engine_parts.specs.Staying.{AllStay, EndsLine, LineView, stays_at, stays_in}
use Rattle.engine_parts.specs.Watching.{WritesNear, is_near}
use Rattle.engine_parts.proofs.Gone.{none_fire}
use Rattle.engine_parts.proofs.Nearing.{far_fires}

-- no other line begins from one address on below another
abbrev pub Quiet : LineView → ℕ → ℕ → Type 0
Quiet v start end = (a : ℕ) → start ≤ a → a < end → stays_at v a ≡ true

held : (v : LineView) (start end addr : ℕ) (old new : Patched) → Quiet v start end → StepsAt (is_among start end) addr old v.hart new → StepsAt (stays_at v) addr old v.hart new
held v start end addr old new quiet s =
    let b = both_true (nat_le start addr) (nat_lt addr end) s.holds in
    record { core = s.core; at = s.at; pc = s.pc; holds = quiet addr (leb-true start addr b.0) (ltb-true addr end b.1); inner = s.inner; step = s.step }

-- where nothing is watched
pub stays_unwatched : (v : LineView) (start end : ℕ) → Quiet v start end → v.watches ≡ [] → (n last : ℕ) (old new : Patched) → AllRanAt (is_among start end) n last old v.hart new → AllStay v n last old new
stays_unwatched v start end quiet none zero last old new ran = ran
stays_unwatched v start end quiet none (suc n) last old new ran =
    record {
      machine = ran.machine;
      earlier = ran.earlier;
      before = stays_unwatched v start end quiet none n ran.earlier old ran.machine ran.before;
      step = record { steps = held v start end last ran.machine new quiet ran.step; unfired = none_fire v.watches ran.machine.memory new.memory none };
    }

-- one that doesn't write where a watch has its bytes
pub stays_far : (v : LineView) (start end : ℕ) → Quiet v start end → (n last : ℕ) (old new : Patched) (c : Core) → n ≤ 1 → slice_get old.cores v.hart ≡ Some c → is_near old.text c v.watches ≡ false
    → AllRanAt (is_among start end) n last old v.hart new → AllStay v n last old new
stays_far v start end quiet zero last old new c one at far ran = ran
stays_far v start end quiet (suc zero) last old new c one at far ran =
    let step : Steps stepped.Ran old v.hart new = subst (λ (q : Patched). Steps stepped.Ran q v.hart new) ran.before ran.step.step in
    let unfired = ap (λ (q : Patched). fired_by v.watches q.memory new.memory) ran.before ∙ far_fires v.watches stepped.Ran old new v.hart c far (step c at) in
    record { machine = ran.machine; earlier = ran.earlier; before = ran.before; step = record { steps = held v start end last ran.machine new quiet ran.step; unfired = unfired } }
stays_far v start end quiet (suc (suc n)) last old new c one at far ran = absurd (omega (arith, one))

onto : ℕ → ℕ → ℕ
onto zero i = i
onto (suc n) i = suc (onto n i)

onto_is : (n i : ℕ) → onto n i ≡ i + n
unfolding onto
onto_is zero i = omega arith
onto_is (suc n) i = let ih = onto_is n i in omega (arith, ih)

join : (v : LineView) (old mid : Patched) (i a : ℕ) → AllStay v i a old mid → (n last : ℕ) (new : Patched) → AllStay v (suc n) last mid new → AllStay v (suc (onto n i)) last old new
unfolding onto
join v old mid i a before zero last new went = record { machine = went.machine; earlier = a; before = subst (λ (m : Patched). AllStay v i a old m) (sym went.before) before; step = went.step }
join v old mid i a before (suc n) last new went = record { machine = went.machine; earlier = went.earlier; before = join v old mid i a before n went.earlier went.machine went.before; step = went.step }

-- behind those before
pub stay_more : (v : LineView) (old mid new : Patched) (i a n last : ℕ) → AllStay v i a old mid → AllStay v n last mid new → (n ≡ 0 → ⊥) → AllStay v (i + n) last old new
stay_more v old mid new i a zero last before went some = absurd (some refl)
stay_more v old mid new i a (suc n) last before went some = subst (λ k. AllStay v k last old new) (ap suc (onto_is n i) ∙ (let e : suc (i + n) ≡ i + suc n = omega arith in e)) (join v old mid i a before n last new went)

-- ---- why there are no more

and_off : (a b : Bool) → b ≡ false → (a && b) ≡ false
and_off true b e = e
and_off false b e = refl

ended_by : (v : LineView) (m : Patched) (start end : ℕ) (c : Core) → slice_get m.cores v.hart ≡ Some c → start ≤ c.regs.pc → c.regs.pc < end → (c.entered ≢ None) ⊎ EndsAt start end m.text c.regs m.memory → HasStopped m v.hart ⊎ EndsLine v m
ended_by v m start end c at from below (inl out) = inl (λ d e. inl (subst (λ (z : Core). z.entered ≢ None) (same_some c d (sym at ∙ e)) out))
ended_by v m start end c at from below (inr (inl outside)) = let inside : is_among start end c.regs.pc ≡ true = grind (arith, nat_tests) in absurd cc
ended_by v m start end c at from below (inr (inr (inl not_inner))) =
    inr (λ d e. subst (λ (z : Core). stays_in v m.text z.regs.pc ≡ false) (same_some c d (sym at ∙ e)) (and_off (stays_at v c.regs.pc) (is_inner (fetched m.text c.regs.pc)) not_inner))
ended_by v m start end c at from below (inr (inr (inr stops))) = inl (λ d e. inr (subst (λ (z : Core). StopsAt (fetched m.text z.regs.pc) z.regs m.memory) (same_some c d (sym at ∙ e)) stops))

beside : (A B C : Type 0) → A ⊎ C → A ⊎ (B ⊎ C)
beside A B C (inl a) = inl a
beside A B C (inr c) = inr (inr c)

-- a hart that goes no further where it is within the bounds
pub ends_here : (v : LineView) (vs : List Watch) (m : Patched) (start end pc : ℕ) (c : Core) → slice_get m.cores v.hart ≡ Some c → pc ≡ c.regs.pc → start ≤ pc → pc < end → HasEnded start end m v.hart ⊎ WritesNear m v.hart vs
    → HasStopped m v.hart ⊎ (WritesNear m v.hart vs ⊎ EndsLine v m)
ends_here v vs m start end pc c at is from below (inl ended) = beside (HasStopped m v.hart) (WritesNear m v.hart vs) (EndsLine v m) (ended_by v m start end c at (omega (arith, is, from)) (omega (arith, is, below)) (ended c at))
ends_here v vs m start end pc c at is from below (inr near) = inr (inl near)

-- another line begins there
pub ends_line : (v : LineView) (m : Patched) (pc : ℕ) → ((c : Core) → slice_get m.cores v.hart ≡ Some c → pc ≡ c.regs.pc) → begins_another v.file v.line v.lines pc ≡ true → EndsLine v m
ends_line v m pc here begins c at =
    let off : stays_at v c.regs.pc ≡ false = ap (stays_at v) (sym (here c at)) ∙ ap not begins in
    ap (λ b. b && is_inner (fetched m.text c.regs.pc)) off
