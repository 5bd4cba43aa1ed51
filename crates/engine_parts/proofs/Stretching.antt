-- A hart that gives a job: what may be taken of it, and the stretch of instructions that a worker makes of the job.
use Rattle.std.proofs.Common.{◌≡◌, ◌<◌, ◌≤◌, ◌⊎◌, ◌+◌, ◌^◌, ℕ, true, false, ap, arith, inl, inr, nat_le, nat_lt, refl, subst, sym, ◌∙◌}
use Rattle.std.specs.Prelude.{◌&&◌, Option, Some, None, is_some, not, slice_get}
use Rattle.std.proofs.lemmas.Bool.{cases_lt}
use Rattle.std.proofs.lemmas.Bool.Decides.{nat_tests}
use Rattle.rv_exec.specs.Registers.{Registers}
use Rattle.elf32_read.specs.Program.{Program, text_word}
use Rattle.text_words.specs.Words.{AreStored}
use Rattle.text_words.proofs.Below.{word_above}
use Rattle.reg_slices.specs.declared.slice.Job.{Job}
use Rattle.reg_slices.specs.declared.slice.Slice.{Slice}
use Rattle.reg_slices.specs.Slices.{SliceOf}
use Rattle.hart_machine.specs.Slices.{window}
use Rattle.hart_machine.proofs.Windows.{window_stored}
use Rattle.dbg_model.specs.declared.hart.Hart.{Hart}
use Rattle.dbg_model.specs.Lawful.{may_go}
use Rattle.dbg_model.proofs.Options.{both_true, same_some}
use Rattle.engine_parts.specs.declared.mind.Mind.{Mind}
use Rattle.engine_parts.specs.Movers.{is_free}
use Rattle.engine_parts.specs.Seen.{Engine, seen}
use Rattle.engine_parts.specs.Slicing.{CanTake, IsJobOf, IsStretch, Serves, ServesBy, Stretches, Takes, TakesIf, gives_job, goes_apart, has_room, is_ready, is_word}

-- ---- a hart that gives a job

pub record Readied (p : Program) (a : Option Mind) (b : Option Hart) : Type 0 where
  pub mind : Mind
  pub at : a ≡ Some mind
  pub apart : goes_apart mind ≡ true
  pub hart : Hart
  pub there : b ≡ Some hart
  pub word : is_word p hart.regs.pc ≡ true

readied : (p : Program) (a : Option Mind) (b : Option Hart) → is_ready p a b ≡ true → Readied p a b
readied p (Some x) (Some y) is =
    let e = both_true (goes_apart x) (not x.asked && is_word p y.regs.pc) is in
    record { mind = x; at = refl; apart = e.0; hart = y; there = refl; word = (both_true (not x.asked) (is_word p y.regs.pc) e.1).1 }
readied p (Some x) None is = cc
readied p None b is = cc

low_by : (p : Program) (a : ℕ) → (a < 2 ^ 32) ⊎ (2 ^ 32 ≤ a) → is_word p a ≡ true → a < 2 ^ 32
low_by p a (inl low) is = low
low_by p a (inr high) is = let e = sym (ap is_some (word_above (text_word p) (2 ^ 32) a high)) ∙ is in absurd cc

pub record Giver (r : Engine) (h : ℕ) : Type 0 where
  pub may : may_go r.opening (seen r) ≡ true
  pub free : is_free r.hold h ≡ true
  pub ready : Readied r.opening.image (slice_get r.minds h) (slice_get (seen r).harts h)

pub giver : (r : Engine) (h : ℕ) → gives_job r h ≡ true → Giver r h
giver r h is =
    let o = r.opening in
    let ready = is_ready o.image (slice_get r.minds h) (slice_get (seen r).harts h) in
    let e = both_true (nat_lt 0 o.settings.slice && may_go o (seen r)) (is_free r.hold h && ready) is in
    let f = both_true (is_free r.hold h) ready e.1 in
    record { may = (both_true (nat_lt 0 o.settings.slice) (may_go o (seen r)) e.0).1; free = f.0; ready = readied o.image (slice_get r.minds h) (slice_get (seen r).harts h) f.1 }

-- ---- what may be taken of it

-- a slice from where such a hart stands, where the budget has so many instructions left
pub can_take : (r : Engine) (slice : Slice) (y : Hart) → gives_job r slice.hart ≡ true → slice_get (seen r).harts slice.hart ≡ Some y → y.regs ≡ slice.regs → slice.at ≡ slice.regs.pc → slice.words.items ≡ window r.machine.text slice.at
    → r.retired + slice.count ≤ r.opening.settings.budget → CanTake r slice
can_take r slice y is shows regs at words room =
    let g = giver r slice.hart is in
    let same : g.ready.hart ≡ y = same_some g.ready.hart y (sym g.ready.there ∙ shows) in
    let pc : y.regs.pc ≡ slice.at = ap (λ (q : Registers). q.pc) regs ∙ sym at in
    let p = r.opening.image in
    let low = low_by p slice.at (cases_lt slice.at (2 ^ 32)) (ap (is_word p) (sym pc) ∙ (ap (λ (z : Hart). is_word p z.regs.pc) (sym same) ∙ g.ready.word)) in
    record {
      may = g.may;
      budget = room;
      free = g.free;
      mind = g.ready.mind;
      at = g.ready.at;
      apart = g.ready.apart;
      hart = y;
      shown = shows;
      regs = regs;
      words = subst (AreStored r.machine.text slice.at) (sym words) (window_stored r.machine.text slice.at low);
    }

-- ---- a worker's slice is the stretch

-- the slice is of the job
abbrev pub OfJob : Job → Slice → Type 0
OfJob job slice = (slice.hart ≡ job.hart) × (slice.regs ≡ job.regs) × (slice.at ≡ job.at) × (slice.words ≡ job.words)

pub stretch_of : (r : Engine) (h : ℕ) (job : Job) (slice : Slice) → gives_job r h ≡ true → IsJobOf r h job → OfJob job slice → slice.count ≤ job.limit
    → ((n : ℕ) (q : Registers) → n ≤ job.limit → SliceOf job.regs job.at job.words.items n q → n ≤ slice.count) → IsStretch r h slice.count slice.after
stretch_of r h job slice is j of few greatest =
    let y = (giver r h is).ready.hart in
    let shows = (giver r h is).ready.there in
    let t = r.machine.text in
    let regs : job.regs ≡ y.regs = sym (j.regs y shows) in
    let at : job.at ≡ y.regs.pc = j.at ∙ ap (λ (q : Registers). q.pc) regs in
    let words : job.words.items ≡ window t y.regs.pc = j.words ∙ ap (window t) at in
    record {
      hart = y;
      shown = shows;
      limit = subst (λ n. slice.count ≤ n) j.limit few;
      leads = rw (← words, ← at, ← regs, ← of.3, ← of.2, ← of.1) slice.agrees;
      greatest = λ k q low leads. greatest k q (subst (λ n. k ≤ n) (sym j.limit) low) (rw (words, at, regs) leads);
    }

-- it can be taken, where the budget has so many instructions left
pub can_take_back : (r : Engine) (h : ℕ) (job : Job) (slice : Slice) → gives_job r h ≡ true → IsJobOf r h job → OfJob job slice → r.retired + slice.count ≤ r.opening.settings.budget → CanTake r slice
can_take_back r h job slice is j of room =
    let here : slice.hart ≡ h = of.0 ∙ j.hart in
    let own = ap (gives_job r) here ∙ is in
    let y = (giver r slice.hart own).ready.hart in
    let shows = (giver r slice.hart own).ready.there in
    let regs = j.regs y (ap (slice_get (seen r).harts) (sym here) ∙ shows) ∙ sym of.1 in
    let at = of.2 ∙ (j.at ∙ ap (λ (q : Registers). q.pc) (sym of.1)) in
    let words : slice.words.items ≡ window r.machine.text slice.at = rw of.3 (j.words ∙ ap (window r.machine.text) (sym of.2)) in
    can_take r slice y own shows regs at words room

room_for : (n a b : ℕ) → 0 < n → a ≤ b → (nat_lt 0 n && nat_le a b) ≡ true
room_for n a b some few = grind (arith, nat_tests)

-- it was taken
pub took : (r s : Engine) (slice : Slice) → 0 < slice.count → CanTake r slice → Takes r s slice → TakesIf (has_room r slice.count) r s slice.hart slice.count slice.after
took r s slice some can takes = subst (λ b. TakesIf b r s slice.hart slice.count slice.after) (sym (room_for slice.count (r.retired + slice.count) r.opening.settings.budget some can.budget)) takes

no_room : (n a b : ℕ) → (a ≤ b → ⊥) → (nat_lt 0 n && nat_le a b) ≡ false
no_room n a b none = grind (arith, nat_tests)

-- it can't be taken
pub left : (r s : Engine) (h : ℕ) (n : ℕ) (after : Registers) → (r.retired + n ≤ r.opening.settings.budget → ⊥) → s ≡ r → TakesIf (has_room r n) r s h n after
left r s h n after none same = subst (λ b. TakesIf b r s h n after) (sym (no_room n (r.retired + n) r.opening.settings.budget none)) same

none_of : (n a b : ℕ) → n ≡ 0 → (nat_lt 0 n && nat_le a b) ≡ false
none_of n a b none = grind (arith, nat_tests)

-- there is nothing to take
pub empty : (r s : Engine) (h : ℕ) (n : ℕ) (after : Registers) → n ≡ 0 → s ≡ r → TakesIf (has_room r n) r s h n after
empty r s h n after none same = subst (λ b. TakesIf b r s h n after) (sym (none_of n (r.retired + n) r.opening.settings.budget none)) same

-- so the hart is served
pub served_apart : (r s : Engine) (h : ℕ) (job : Job) (slice : Slice) → gives_job r h ≡ true → IsJobOf r h job → OfJob job slice
    → slice.count ≤ job.limit → ((n : ℕ) (q : Registers) → n ≤ job.limit → SliceOf job.regs job.at job.words.items n q → n ≤ slice.count)
    → TakesIf (has_room r slice.count) r s slice.hart slice.count slice.after → Serves h r s
served_apart r s h job slice is j of few greatest takes =
    let here : slice.hart ≡ h = of.0 ∙ j.hart in
    let done : Stretches h r s = record { count = slice.count; after = slice.after; is = stretch_of r h job slice is j of few greatest; takes = subst (λ k. TakesIf (has_room r slice.count) r s k slice.count slice.after) here takes } in
    subst (λ b. ServesBy b h r s) (sym is) done
