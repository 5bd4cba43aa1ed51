-- What a hart shows: what is judged of it, and its pc.
use Rattle.std.proofs.Common.{◌≡◌, ℕ, Bool, true, false, cond, List, refl, sym, ap, ◌∙◌, subst, arith}
use Rattle.std.specs.Prelude.{Option, Some, None, IsSome, is_some, slice_get}
use Rattle.rv_exec.specs.Registers.{Registers, set_pc}
use Rattle.text_words.specs.Words.{shown, is_planted}
use Rattle.elf32_read.specs.Program.{Program, text_word}
use Rattle.step_over.specs.declared.phase.Phase.{Phase}
use Rattle.step_over.specs.declared.phase.Phase.TheVariants as phase
use Rattle.hart_machine.specs.declared.hart.Core.{Core}
use Rattle.hart_machine.specs.Copying.{settled_regs}
use Rattle.break_table.specs.Entry.{Entry as BreakEntry}
use Rattle.dbg_model.specs.declared.entry.Entry.TheVariants.{Stopped}
use Rattle.step_plans.specs.declared.plan.Plan.{Plan}
use Rattle.dbg_model.specs.Views.{register, shown_byte}
use Rattle.dbg_model.specs.declared.hart.Hart.{Hart}
use Rattle.dbg_model.specs.declared.course.Course.{Course}
use Rattle.dbg_model.specs.declared.judgement.Judgement.{Judgement}
use Rattle.dbg_model.specs.Judging.{is_due, judgement_of, no_arrival}
use Rattle.dbg_model.specs.State.{State, due}
use Rattle.dbg_model.specs.Sources.{Sources, sources_of}
use Rattle.engine_parts.specs.declared.mind.Activity.{Activity}
use Rattle.engine_parts.specs.declared.mind.Activity.TheVariants as activity
use Rattle.engine_parts.specs.declared.mind.Mind.{Mind}
use Rattle.engine_parts.specs.Minds.{is_before, slot_of}
use Rattle.engine_parts.specs.Seen.{Engine, seen, seen_hart, seen_regs, running_regs, landed_regs}
use Rattle.engine_parts.specs.Facts.{Sound, wants_of}
use Rattle.engine_parts.proofs.Holding.{core_at, planted_text, own_seen}
use Rattle.engine_parts.proofs.Planting.{text_shown}
use Rattle.engine_parts.proofs.Stopping.{counts}
use Rattle.engine_parts.specs.Calls.{Of, DueIs}
use Rattle.engine_parts.proofs.Executing.{of_hart, same_hart}
use Rattle.engine_parts.proofs.Halting.{shown_is, arrived}

-- what a shown hart has, where the core and what is kept are known
pub shown_at : (r s : Engine) (h : ℕ) (x : Mind) (P : Hart → Type 0) → r ≡ s → Sound r → slice_get s.minds h ≡ Some x → ((c : Core) → slice_get r.machine.cores h ≡ Some c → P (seen_hart r.opening.image c x)) → Of s h P
shown_at r s h x P same f at each =
    let R : Engine → Type 0 = λ q. slice_get q.minds h ≡ Some x → Of q h P in
    subst R same (λ at' y there. let k = core_at r h x f at' in subst P (same_hart r h k.0 x y k.1 there) (each k.0 k.1.core)) at

-- what is judged of a hart, as its registers and what is kept of it have it
judged_as : (p : Program) (s : State) (h pc : ℕ) (c : Core) (x : Mind) (sources : Sources) → sources ≡ sources_of p → (seen_hart p c x).regs ≡ set_pc c.regs pc
    → due p s h (seen_hart p c x) ≡ judgement_of p sources s.breaks h x.course (register (set_pc c.regs pc)) (shown_byte p s.memory)
unfolding due
judged_as p s h pc c x sources same is =
    let y = x.course in
    ap (λ (q : Registers). judgement_of p (sources_of p) s.breaks h y (register q) (shown_byte p s.memory)) is
    ∙ ap (λ (z : Sources). judgement_of p z s.breaks h y (register (set_pc c.regs pc)) (shown_byte p s.memory)) (sym same)

-- what is judged of a hart before an instruction
pub judged : (r s : Engine) (h pc : ℕ) (x : Mind) (d : Judgement) → r ≡ s → Sound r → slice_get s.minds h ≡ Some x → x.activity ≡ activity.Running → is_before x.phase ≡ true → Of s h (λ y. y.regs.pc ≡ pc)
    → ((c : Core) → slice_get r.machine.cores h ≡ Some c → d ≡ judgement_of r.opening.image r.sources r.breaks h x.course (register (set_pc c.regs pc)) (shown_byte r.opening.image r.machine.memory)) → DueIs s h d
judged r s h pc x d same f at runs before here is =
    let R : Engine → Type 0 = λ q. slice_get q.minds h ≡ Some x → Of q h (λ y. y.regs.pc ≡ pc) → DueIs q h d in
    subst R same
    (λ at' here' y there.
    let k = core_at r h x f at' in
    let regs = shown_is r.opening.image k.0 x pc runs before (of_hart r h k.0 x (λ y. y.regs.pc ≡ pc) k.1 here') in
    let e = judged_as r.opening.image (seen r) h pc k.0 x r.sources f.sources regs ∙ sym (is k.0 k.1.core) in
    subst (λ (z : Hart). due r.opening.image (seen r) h z ≡ d) (same_hart r h k.0 x y k.1 there) e) at here

counted_by : (b : Bool) (d : Judgement) (plan : Plan) → (cond b d (no_arrival plan)).breaks.counts ≡ true → b ≡ true
counted_by true d plan e = refl
counted_by false d plan e = cc

-- breakpoints count harts that have just arrived alone
pub counts_fresh : (p : Program) (sources : Sources) (bs : List BreakEntry) (h : ℕ) (c : Course) (rs : ℕ → ℕ) (bytes : ℕ → Option ℕ) → (judgement_of p sources bs h c rs bytes).breaks.counts ≡ true → c.fresh ≡ true
unfolding judgement_of
counts_fresh p sources bs h c rs bytes e = counted_by c.fresh _ c.plan e

fired_by : (b : Bool) (d : Judgement) (plan : Plan) → is_due (cond b d (no_arrival plan)) ≡ true → (cond b d (no_arrival plan)).fired ≡ d.fired
fired_by true d plan e = refl
fired_by false d plan e = cc

-- where something is due for a hart, the watch that its instruction made fire is judged
pub due_is_fired : (p : Program) (sources : Sources) (bs : List BreakEntry) (h : ℕ) (c : Course) (rs : ℕ → ℕ) (bytes : ℕ → Option ℕ)
    → is_due (judgement_of p sources bs h c rs bytes) ≡ true → (judgement_of p sources bs h c rs bytes).fired ≡ c.fired
unfolding judgement_of
due_is_fired p sources bs h c rs bytes e = fired_by c.fresh _ c.plan e

-- ---- where a hart shows its pc

unslotted_by : (q : Phase) → ((slot home : ℕ) → q ≡ phase.Copied slot home → ⊥) → ((slot home : ℕ) → q ≡ phase.Landed slot home → ⊥) → slot_of q ≡ None
unslotted_by phase.Idle a b = refl
unslotted_by (phase.Copied slot home) a b = absurd (a slot home refl)
unslotted_by (phase.Landed slot home) a b = absurd (b slot home refl)
unslotted_by (phase.Lifted home) a b = refl
unslotted_by (phase.Ran home) a b = refl

-- a hart without a slot shows its own
pub pc_own : (p : Program) (c : Core) (x : Mind) (pc : ℕ) → ((slot home : ℕ) → x.phase ≡ phase.Copied slot home → ⊥) → ((slot home : ℕ) → x.phase ≡ phase.Landed slot home → ⊥) → pc ≡ c.regs.pc → (seen_hart p c x).regs.pc ≡ pc
pc_own p c x pc a b e = ap (λ (r : Registers). r.pc) (own_seen p c.regs x.activity x.phase (unslotted_by x.phase a b)) ∙ sym e

unrunning_by : (p : Program) (r : Registers) (a : Activity) (q : Phase) → (a ≡ activity.Running → ⊥) → seen_regs p r a q ≡ r
unrunning_by p r activity.Stopped q n = refl
unrunning_by p r activity.Running q n = absurd (n refl)
unrunning_by p r activity.Exited q n = refl

-- nor does one that doesn't run show another
pub pc_unrunning : (p : Program) (c : Core) (x : Mind) (pc : ℕ) → (x.activity ≡ activity.Running → ⊥) → pc ≡ c.regs.pc → (seen_hart p c x).regs.pc ≡ pc
pc_unrunning p c x pc n e = ap (λ (r : Registers). r.pc) (unrunning_by p c.regs x.activity x.phase n) ∙ sym e

running_at : (p : Program) (c : Core) (x : Mind) (q : Phase) → x.activity ≡ activity.Running → x.phase ≡ q → (seen_hart p c x).regs ≡ running_regs p c.regs q
running_at p c x q runs is = ap (λ a. seen_regs p c.regs a x.phase) runs ∙ ap (running_regs p c.regs) is

-- one at a copy shows home
pub pc_copied : (p : Program) (c : Core) (x : Mind) (slot home : ℕ) → x.activity ≡ activity.Running → x.phase ≡ phase.Copied slot home → (seen_hart p c x).regs.pc ≡ home
pc_copied p c x slot home runs is = ap (λ (r : Registers). r.pc) (running_at p c x (phase.Copied slot home) runs is)

-- one behind it what the word leaves at home
pub pc_landed : (p : Program) (c : Core) (x : Mind) (slot home pc word : ℕ) → x.activity ≡ activity.Running → x.phase ≡ phase.Landed slot home
    → Some word ≡ text_word p home → ((r : Registers) → r.pc ≡ c.regs.pc → (settled_regs word slot home r true).pc ≡ pc)
    → (seen_hart p c x).regs.pc ≡ pc
pc_landed p c x slot home pc word runs is found e =
    ap (λ (r : Registers). r.pc) (running_at p c x (phase.Landed slot home) runs is) ∙ (ap (λ o. (landed_regs o slot home c.regs).pc) (sym found) ∙ e c.regs refl)

pub pc_wordless : (p : Program) (c : Core) (x : Mind) (slot home pc : ℕ) → x.activity ≡ activity.Running → x.phase ≡ phase.Landed slot home → None ≡ text_word p home → pc ≡ c.regs.pc → (seen_hart p c x).regs.pc ≡ pc
pc_wordless p c x slot home pc runs is none e =
    ap (λ (r : Registers). r.pc) (running_at p c x (phase.Landed slot home) runs is) ∙ (ap (λ o. (landed_regs o slot home c.regs).pc) (sym none) ∙ sym e)

-- a planted word is there
pub planted_there : {A : Type 0} (r : Engine) (pc : ℕ) → Sound r → is_planted r.machine.text pc ≡ true → None ≡ shown r.machine.text pc → A
planted_there r pc f planted none =
    let some : IsSome (shown r.machine.text pc) = text_shown r.opening.image r.machine.text (wants_of r) pc f.planted (planted_text r pc f planted) in
    let clash : false ≡ true = ap is_some none ∙ some in
    cc
