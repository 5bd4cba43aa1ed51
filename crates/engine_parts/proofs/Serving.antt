-- A hart whose stretch was executed in place is served.
use Rattle.std.proofs.Common.{◌≡◌, ◌<◌, ◌≤◌, ◌+◌, ℕ, true, List, ap, arith, sym, subst, ◌∙◌}
use Rattle.std.specs.Prelude.{◌&&◌, Some, nat_le, nat_lt, slice_get, slice_set}
use Rattle.std.proofs.lemmas.Bool.Decides.{nat_tests}
use Rattle.rv_exec.specs.Registers.{Registers}
use Rattle.reg_slices.specs.Slices.{SliceOf}
use Rattle.hart_machine.specs.declared.hart.Core.{Core}
use Rattle.hart_machine.specs.Patched.{Patched}
use Rattle.hart_machine.specs.Poking.{IsOut}
use Rattle.hart_machine.specs.Slices.{AllInPlace, StretchOf, StretchesTo, TakesSlice, window}
use Rattle.dbg_model.specs.declared.entry.Entry.{Entry}
use Rattle.dbg_model.specs.declared.hart.Hart.{Hart}
use Rattle.dbg_model.specs.Journals.{lengthened_by}
use Rattle.dbg_model.proofs.Options.{same_some}
use Rattle.engine_parts.specs.declared.mind.Mind.{Mind}
use Rattle.engine_parts.specs.Facts.{Facts, Sound, other_holder}
use Rattle.engine_parts.specs.Minds.{entered_of}
use Rattle.engine_parts.specs.Seen.{Engine}
use Rattle.engine_parts.specs.Slicing.{IsStretch, Serves, ServesBy, Stretches, TakesIf, gives_job, goes_apart, has_room}
use Rattle.engine_parts.proofs.Aheads.{after_is}
use Rattle.engine_parts.proofs.Bounding.{below}
use Rattle.engine_parts.proofs.Executing.{same_hart}
use Rattle.engine_parts.proofs.Holding.{core_at}
use Rattle.engine_parts.proofs.Jobs.{own_regs}
use Rattle.engine_parts.proofs.Kept.{kept_ran}
use Rattle.engine_parts.proofs.Rows.{open_by}
use Rattle.engine_parts.proofs.Stepping.{fact_of}
use Rattle.engine_parts.proofs.Stretching.{Giver, empty, giver}
use Rattle.engine_parts.proofs.Taking.{Taken, apart_so, free_so, taken_by, unheld}

-- such a hart is in no slot
pub out_so : (r : Engine) (h : ℕ) → Sound r → gives_job r h ≡ true → IsOut r.machine h
out_so r h f is c there =
    let g = (giver r h is).ready in
    let k = core_at r h g.mind f g.at in
    let same : k.0 ≡ c = same_some k.0 c (sym k.1.core ∙ there) in
    ap (λ (d : Core). d.entered) (sym same) ∙ ((fact_of r h k.0 g.mind f k.1).entered ∙ ap entered_of (apart_so g.mind g.apart).idle)

-- the engine after its stretch, by its parts
pub served_to : (r s : Engine) (h n spare : ℕ) (x y : Mind) (m : Patched) (j : List Entry) (k : ℕ) → r ≡ s → 0 < n → Facts r → gives_job s h ≡ true → r.retired + n ≤ r.opening.settings.budget → slice_get s.minds h ≡ Some x
    → (IsOut r.machine h → AllInPlace n r.machine h m) → j ≡ lengthened_by n r.journal h → y ≡ kept_ran x → k ≡ n
    → Taken n r (record r { journal = j; spare = spare; machine = m; minds = slice_set r.minds h y; retired = r.retired + k }) h
served_to r s h n spare x y m j k same some f is room at steps ej ey ek =
    let gives : gives_job r h ≡ true = ap (λ (q : Engine). gives_job q h) same ∙ is in
    let g : Giver r h = giver r h gives in
    let there : slice_get r.minds h ≡ Some x = ap (λ (q : Engine). slice_get q.minds h) same ∙ at in
    let mind : g.ready.mind ≡ x = same_some g.ready.mind x (sym g.ready.at ∙ there) in
    let a = apart_so x (ap goes_apart (sym mind) ∙ g.ready.apart) in
    let base = taken_by n r h spare x m f there a (unheld r h x f.sound there a.idle (free_so (other_holder r.hold h) g.free)) room (below r g.may).1 (open_by r g.may) (steps (out_so r h f.sound gives)) in
    subst (λ (q : Engine). Taken n r q h) (after_is n r h spare x y m j k some ej ey ek) base

-- what the machine executed is the hart's stretch
stretch_here : (r : Engine) (h n : ℕ) (m : Patched) → Sound r → gives_job r h ≡ true → n ≤ r.opening.settings.slice → StretchesTo r.machine h r.opening.settings.slice n m
    → (after : Registers) × (IsStretch r h n after × TakesSlice r.machine h n after m)
stretch_here r h n m f is few stretches =
    let g = (giver r h is).ready in
    let k = core_at r h g.mind f g.at in
    let c : Core = k.0 in
    let y : Hart = g.hart in
    let own : c.regs ≡ y.regs = sym (own_regs r c g.mind g.apart) ∙ ap (λ (z : Hart). z.regs) (same_hart r h c g.mind y k.1 g.there) in
    let e : StretchOf r.machine h r.opening.settings.slice n m c = stretches c k.1.core in
    let t = r.machine.text in (
      e.after,
      (
        record {
          hart = y;
          shown = g.there;
          limit = few;
          leads = subst (λ (q : Registers). SliceOf q q.pc (window t q.pc) n e.after) own e.leads;
          greatest = subst (λ (q : Registers). (i : ℕ) (a : Registers) → i ≤ r.opening.settings.slice → SliceOf q q.pc (window t q.pc) i a → i ≤ n) own e.greatest;
        },
        e.takes,
      ),
    )

has_room_so : (n a b : ℕ) → 0 < n → a ≤ b → (nat_lt 0 n && nat_le a b) ≡ true
has_room_so n a b some few = grind (arith, nat_tests)

-- so the hart is served
pub served_here : (r s new : Engine) (h n : ℕ) (m : Patched) → r ≡ s → Sound r → gives_job s h ≡ true → 0 < n → n ≤ r.opening.settings.slice → r.retired + n ≤ r.opening.settings.budget → StretchesTo r.machine h r.opening.settings.slice n m
    → m ≡ new.machine → Taken n r new h → Serves h s new
served_here r s new h n m same f is some few room stretches machine taken =
    let gives : gives_job r h ≡ true = ap (λ (q : Engine). gives_job q h) same ∙ is in
    let k = stretch_here r h n m f gives few stretches in
    let takes : TakesIf (has_room r n) r new h n k.0 = subst (λ b. TakesIf b r new h n k.0)
    (sym (has_room_so n (r.retired + n) r.opening.settings.budget some room)) (record { ran = taken.ran; machine = subst (TakesSlice r.machine h n k.0) machine k.1.1 }) in
    let done : Stretches h r new = record { count = n; after = k.0; is = k.1.0; takes = takes } in
    subst (λ (q : Engine). Serves h q new) same (subst (λ b. ServesBy b h r new) (sym gives) done)

-- where there is nothing to execute, nothing has changed
pub nothing_here : (r s : Engine) (h n : ℕ) (m : Patched) → r ≡ s → Sound r → gives_job s h ≡ true → n ≡ 0 → (IsOut r.machine h → AllInPlace n r.machine h m) → m ≡ r.machine
nothing_here r s h n m same f is none steps =
    let gives : gives_job r h ≡ true = ap (λ (q : Engine). gives_job q h) same ∙ is in
    subst (λ k. AllInPlace k r.machine h m) none (steps (out_so r h f gives))

pub served_nothing : (r s : Engine) (h n : ℕ) (m : Patched) → r ≡ s → Sound r → gives_job s h ≡ true → n ≡ 0 → n ≤ r.opening.settings.slice
    → StretchesTo r.machine h r.opening.settings.slice n m → m ≡ r.machine → Serves h s (record r { machine = m })
served_nothing r s h n m same f is none few stretches kept =
    let gives : gives_job r h ≡ true = ap (λ (q : Engine). gives_job q h) same ∙ is in
    let k = stretch_here r h n m f gives few stretches in
    let new : Engine = record r { machine = m } in
    let as_was : new ≡ r = ap (λ (u : Patched). let q : Engine = record r { machine = u } in q) kept in
    let done : Stretches h r new = record { count = n; after = k.0; is = k.1.0; takes = empty r new h n k.0 none as_was } in
    subst (λ (q : Engine). Serves h q new) same (subst (λ b. ServesBy b h r new) (sym gives) done)
