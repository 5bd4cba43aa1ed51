-- Instructions of a hart within a line, which the machine executed in one call, are turns of the engine, one after the other.
use Rattle.std.proofs.Common.{◌≡◌, ◌<◌, ◌≤◌, ℕ, zero, suc, ◌+◌, ◌^◌, Bool, true, false, List, refl, sym, ap, ◌∙◌, subst, arith}
use Rattle.std.specs.Prelude.{Option, Some, None, slice_get, slice_set}
use Rattle.rv_exec.specs.declared.effect.Stepped.TheVariants as stepped
use Rattle.elf32_read.specs.Program.{Program}
use Rattle.text_words.specs.Words.{shown, is_planted}
use Rattle.text_words.specs.declared.fetch.Fetch.{Fetch}
use Rattle.step_over.specs.declared.phase.Phase.TheVariants as phase
use Rattle.hart_machine.specs.declared.hart.Core.{Core}
use Rattle.hart_machine.specs.Patched.{Patched}
use Rattle.hart_machine.specs.Stepping.{FetchGives}
use Rattle.hart_machine.proofs.Copying.{fetch_text}
use Rattle.hart_machine.proofs.Places.{same_some, set_twice, get-set_same}
use Rattle.line_index.specs.Lines.{begins_another}
use Rattle.break_table.specs.Table.{is_wait, stands}
use Rattle.std.specs.List.{list_any}
use Rattle.step_plans.specs.declared.plan.Plan.TheVariants as plans
use Rattle.dbg_model.specs.Limits.{history}
use Rattle.dbg_model.specs.Sources.{Sources, sources_of}
use Rattle.dbg_model.specs.declared.entry.Entry.{Entry}
use Rattle.dbg_model.specs.declared.hart.Hart.{Hart}
use Rattle.dbg_model.specs.Journals.{lengthened_by}
use Rattle.dbg_model.specs.Judging.{is_due}
use Rattle.dbg_model.specs.Lawful.{may_go}
use Rattle.dbg_model.specs.State.{due}
use Rattle.dbg_model.proofs.Undue.{not_so}
use Rattle.engine_parts.specs.declared.mind.Activity.TheVariants as activity
use Rattle.engine_parts.specs.declared.mind.Hold.{Hold}
use Rattle.engine_parts.specs.declared.mind.Mind.{Mind}
use Rattle.engine_parts.specs.declared.moving.Turned.TheVariants as turned
use Rattle.engine_parts.specs.declared.moving.Move.TheVariants as move
use Rattle.engine_parts.specs.Minds.{after_step, entered_of, is_active, is_before, with_phase}
use Rattle.engine_parts.specs.Seen.{Engine, seen, seen_hart}
use Rattle.engine_parts.specs.Facts.{Facts, other_holder}
use Rattle.engine_parts.specs.Calls.{Before, Of, Turns, Undue}
use Rattle.engine_parts.specs.Rows.{Executes, row_at}
use Rattle.engine_parts.specs.Several.{AllTurned, is_alone}
use Rattle.engine_parts.specs.Staying.{AllStay, LineView, StaysUnfired, came_within}
use Rattle.engine_parts.specs.Steps.{applied}
use Rattle.engine_parts.proofs.Aheads.{alone_so, idle_copies, none_called, ran_word, spare_after}
use Rattle.engine_parts.proofs.Awaiting.{waits_same}
use Rattle.engine_parts.proofs.Bounding.{below, may_go_by}
use Rattle.engine_parts.proofs.Executing.{Executed, own_pc, parts_of, ran_to, ready, same_hart}
use Rattle.engine_parts.proofs.Departing.{executed_to}
use Rattle.engine_parts.proofs.Holding.{clear_stands, core_at}
use Rattle.engine_parts.proofs.Keeping.{hart_at}
use Rattle.engine_parts.proofs.Kept.{alone_came, goes_undue}
use Rattle.engine_parts.proofs.LineVerdicts.{came_next, line_ran, line_verdict, ran_line}
use Rattle.engine_parts.proofs.Passing.{Ahead, Going}
use Rattle.engine_parts.proofs.Rewaits.{same_waits}
use Rattle.engine_parts.proofs.Rows.{open_by, row_executes}
use Rattle.engine_parts.proofs.Stepping.{fact_of, ran_of}

-- a hart of an engine on a line
abbrev pub on_line : Engine → ℕ → ℕ → ℕ → LineView
on_line r h file line = record { hart = h; lines = r.sources.lines; watches = r.watches; file = file; line = line }

-- what such a hart keeps while it executes by itself
record Calm (p : Program) (file line : ℕ) (into : Bool) (x : Mind) : Type 0 where
  idle : x.phase ≡ phase.Idle
  runs : x.activity ≡ activity.Running
  asked : x.asked ≡ false
  plan : x.course.plan ≡ plans.Line file line into
  unfired : x.course.fired ≡ None
  came : came_within p x.course.last ≡ true

calm_after : (p : Program) (file line : ℕ) (into : Bool) (x : Mind) (addr : ℕ) → Calm p file line into x → came_within p (Some addr) ≡ true → Calm p file line into (line_ran addr x)
calm_after p file line into x addr a came = record { idle = ap after_step a.idle; runs = refl; asked = a.asked; plan = a.plan; unfired = refl; came = came }

-- ---- one instruction

record OneTurn (q new : Engine) (h addr : ℕ) : Type 0 where
  facts : Facts new
  does : Turns (turned.Moved move.Ran) q new h
  first : row_at q h ≡ Executes
  came : came_within q.opening.image (Some addr) ≡ true

one_turn : (q : Engine) (h spare file line addr : ℕ) (into : Bool) (x : Mind) (m : Patched) → Facts q → slice_get q.minds h ≡ Some x → Calm q.opening.image file line into x → q.hold ≡ None → Going q
    → StaysUnfired (on_line q h file line) addr q.machine m
    → OneTurn q (ran_to stepped.Ran q h (line_ran addr x) m q.hold spare) h addr
one_turn q h spare file line addr into x m f at a none going s =
    let p = q.opening.image in
    let k = core_at q h x f.sound at in
    let c = k.0 in
    let t = s.steps.step c k.1.core in
    let y = seen_hart p c x in
    let pc : c.regs.pc ≡ addr = ap (λ (d : Core). d.regs.pc) (sym (same_some s.steps.core c (sym s.steps.at ∙ k.1.core))) ∙ s.steps.pc in
    let out : c.entered ≡ None = (fact_of q h c x f.sound k.1).entered ∙ ap entered_of a.idle in
    let G : Fetch → Type 0 = λ w. FetchGives stepped.Ran w c.regs t.core.regs q.machine.memory t.memory in
    let ran = ran_word (shown q.machine.text c.regs.pc) (is_planted q.machine.text c.regs.pc) c.regs t.core.regs q.machine.memory t.memory (subst G (fetch_text q.machine c out) t.steps.gives) in
    let free : other_holder q.hold h ≡ None = ap (λ (o : Option Hold). other_holder o h) none in
    let own = own_pc q c x a.idle in
    let called = none_called (stands c.regs.pc q.breaks) (list_any (is_wait c.regs.pc) q.waits) (clear_stands q h c x f.sound k.1 free a.idle ran.1) in
    let none_begins : begins_another file line (sources_of p).lines y.regs.pc ≡ false =
    ap (λ (u : Sources). begins_another file line u.lines y.regs.pc) (sym f.sound.sources) ∙ (ap (begins_another file line q.sources.lines) (own ∙ pc) ∙ not_so (begins_another file line q.sources.lines addr) s.steps.holds) in
    let goes = line_verdict p (seen q) h y file line into a.plan a.came none_begins in
    let quiet = goes_undue p (seen q) h y goes a.unfired (ap (λ b. stands b q.breaks) own ∙ called.0) in
    let undue : Undue q h = λ z there. subst (λ (w : Hart). is_due (due p (seen q) h w) ≡ false) (same_hart q h c x z k.1 there) quiet in
    let here : Of q h (λ z. z.regs.pc ≡ c.regs.pc) = λ z e. ap (λ (w : Hart). w.regs.pc) (same_some z y (sym e ∙ hart_at q h c x k.1)) ∙ own in
    let may = may_go_by q going.budget going.history going.going in
    let before : Before q h x = record { may = may; at = at; runs = a.runs; free = free; before = ap is_before a.idle } in
    let go = ready q h x c.regs.pc f.sound at (ap is_before a.idle) a.runs free here undue (λ e. ran.1) may (λ d there is. idle_copies x.phase (d.copied ≤ d.retired) a.idle is) in
    let same : c ≡ go.0 = same_some c go.0 (sym k.1.core ∙ go.1.mover.core) in
    let kept : ran_of q h go.0 x m.memory ≡ line_ran addr x =
    ap (λ (d : Core). ran_of q h d x m.memory) (sym same) ∙ (ran_line q h c x m.memory file line into a.plan goes s.unfired ∙ ap (λ b. line_ran b x) (own ∙ pc)) in
    let P : Mind → Type 0 = λ z. Executed stepped.Ran q (ran_to stepped.Ran q h z m q.hold spare) h z in
    let e = subst P kept (executed_to stepped.Ran q h spare go.0 x m m q.hold (applied stepped.Ran h (ran_of q h go.0 x m.memory) (parts_of q)) q.noted refl go.1 (s.steps.step go.0 go.1.mover.core) (refl, refl) refl refl) in
    record {
      facts = record { sound = e.facts; waits = waits_same q h x (line_ran addr x) f at (same_waits p x (line_ran addr x) (sym (ap is_active a.runs)) refl) };
      does = e.does m.text q.waits;
      first = row_executes q h c.regs.pc x f.sound before undue here a.idle a.asked ran.1;
      came = came_next q addr f.sound (subst (λ b. b < 2 ^ 32) pc t.below) s.steps.inner;
    }

-- ---- several

-- what is kept of the hart after n instructions, the last of them at this address
abbrev mind_on : ℕ → ℕ → Mind → Mind
mind_on zero last x = x
mind_on (suc n) last x = line_ran last x

abbrev minds_on : ℕ → ℕ → List Mind → ℕ → Mind → List Mind
minds_on zero last xs h x = xs
minds_on (suc n) last xs h x = slice_set xs h (line_ran last x)

abbrev run_on : ℕ → ℕ → Engine → ℕ → Mind → Patched → ℕ → Engine
run_on n last r h x m spare = record r {
  journal = lengthened_by n r.journal h;
  spare = spare_after n r.spare spare;
  machine = m;
  minds = minds_on n last r.minds h x;
  retired = r.retired + n;
}

on_at : (n last : ℕ) (xs : List Mind) (h : ℕ) (x : Mind) → slice_get xs h ≡ Some x → slice_get (minds_on n last xs h x) h ≡ Some (mind_on n last x)
on_at zero last xs h x at = at
on_at (suc n) last xs h x at = get-set_same xs h (line_ran last x) x at

on_twice : (x : Mind) (earlier last : ℕ) → x.phase ≡ phase.Idle → line_ran last (line_ran earlier x) ≡ line_ran last x
on_twice x earlier last idle = ap (λ q. with_phase (line_ran last x) (after_step (after_step q))) idle ∙ sym (ap (λ q. with_phase (line_ran last x) (after_step q)) idle)

minds_next : (n earlier last : ℕ) (xs : List Mind) (h : ℕ) (x : Mind) → x.phase ≡ phase.Idle → slice_set (minds_on n earlier xs h x) h (line_ran last (mind_on n earlier x)) ≡ slice_set xs h (line_ran last x)
minds_next zero earlier last xs h x idle = refl
minds_next (suc n) earlier last xs h x idle = set_twice xs h (line_ran earlier x) (line_ran last (line_ran earlier x)) ∙ ap (slice_set xs h) (on_twice x earlier last idle)

run_next : (n earlier last : ℕ) (r : Engine) (h : ℕ) (x : Mind) (m m' : Patched) (spare : ℕ) → x.phase ≡ phase.Idle
    → ran_to stepped.Ran (run_on n earlier r h x m spare) h (line_ran last (mind_on n earlier x)) m' r.hold spare ≡ run_on (suc n) last r h x m' spare
run_next n earlier last r h x m m' spare idle =
    ap (λ (xs : List Mind). let q : Engine = record r { journal = lengthened_by (suc n) r.journal h; spare = spare; machine = m'; minds = xs; retired = r.retired + n + 1 } in q) (minds_next n earlier last r.minds h x idle)
    ∙ ap (λ (k : ℕ). let q : Engine = record r { journal = lengthened_by (suc n) r.journal h; spare = spare; machine = m'; minds = slice_set r.minds h (line_ran last x); retired = k } in q) (omega arith)

record AheadOn (n : ℕ) (r new : Engine) (h file line : ℕ) (into : Bool) (y : Mind) : Type 0 where
  facts : Facts new
  turns : AllTurned n r new h
  calm : Calm r.opening.image file line into y

ahead_on : (n last : ℕ) (r : Engine) (h spare file line : ℕ) (into : Bool) (x : Mind) (m : Patched) → Facts r → slice_get r.minds h ≡ Some x → Calm r.opening.image file line into x → r.hold ≡ None
    → r.retired + n ≤ r.opening.settings.budget → r.noted < history → r.exited ≡ false
    → AllStay (on_line r h file line) n last r.machine m → AheadOn n r (run_on n last r h x m spare) h file line into (mind_on n last x)
ahead_on zero last r h spare file line into x m f at a none room low still went =
    let same : run_on zero last r h x m spare ≡ r = ap (λ (u : Patched). let q : Engine = record r { machine = u; retired = r.retired + 0 } in q) went ∙ ap (λ (k : ℕ). let q : Engine = record r { retired = k } in q) (omega arith) in
    record { facts = subst Facts (sym same) f; turns = same; calm = a }
ahead_on (suc n) last r h spare file line into x m f at a none room low still went =
    let q = run_on n went.earlier r h x went.machine spare in
    let before = ahead_on n went.earlier r h spare file line into x went.machine f at a none (omega (arith, room)) low still went.before in
    let y = mind_on n went.earlier x in
    let goes : Going q = record { budget = omega (arith, room); history = low; going = still } in
    let e = one_turn q h spare file line last into y m before.facts (on_at n went.earlier r.minds h x at) before.calm none goes went.step in
    let next = run_next n went.earlier last r h x went.machine m spare a.idle in
    let P : Engine → Type 0 = λ u. Turns (turned.Moved move.Ran) q u h in
    record {
      facts = subst Facts next e.facts;
      turns = record { run = q; before = before.turns; facts = before.facts; answer = turned.Moved move.Ran; fits = record { quiet = refl; first = e.first }; turn = subst P next e.does };
      calm = calm_after r.opening.image file line into x last a e.came;
    }

-- the engine after n instructions, by its parts
on_is : (n last : ℕ) (r : Engine) (h spare : ℕ) (x y : Mind) (m : Patched) (j : List Entry) (k : ℕ) → 0 < n → j ≡ lengthened_by n r.journal h → y ≡ line_ran last x → k ≡ n
    → run_on n last r h x m spare ≡ record r { journal = j; spare = spare; machine = m; minds = slice_set r.minds h y; retired = r.retired + k }
on_is zero last r h spare x y m j k some ej ey ek = absurd (omega arith)
on_is (suc n) last r h spare x y m j k some ej ey ek =
    ap (λ (i : List Entry). let q : Engine = record r { journal = i; spare = spare; machine = m; minds = slice_set r.minds h (line_ran last x); retired = r.retired + suc n } in q) (sym ej)
    ∙ (ap (λ (z : Mind). let q : Engine = record r { journal = j; spare = spare; machine = m; minds = slice_set r.minds h z; retired = r.retired + suc n } in q) (sym ey)
    ∙ ap (λ (i : ℕ). let q : Engine = record r { journal = j; spare = spare; machine = m; minds = slice_set r.minds h y; retired = r.retired + i } in q) (sym ek))

-- the engine after a call, by its parts
pub stayed_to : (r s : Engine) (h spare n last file line : ℕ) (into : Bool) (x y : Mind) (m : Patched) (j : List Entry) (k : ℕ) → r ≡ s → 0 < n → Facts r → may_go s.opening (seen s) ≡ true
    → slice_get s.minds h ≡ Some x → x.course.plan ≡ plans.Line file line into
    → is_alone r.opening.image x r.hold ≡ true → r.retired + n ≤ r.opening.settings.budget → AllStay (on_line r h file line) n last r.machine m → j ≡ lengthened_by n r.journal h → y ≡ line_ran last x → k ≡ n
    → Ahead n r (record r { journal = j; spare = spare; machine = m; minds = slice_set r.minds h y; retired = r.retired + k }) h
stayed_to r s h spare n last file line into x y m j k same some f may at plan alone room went ej ey ek =
    let go : may_go r.opening (seen r) ≡ true = ap (λ (q : Engine). may_go q.opening (seen q)) same ∙ may in
    let a = alone_so r.opening.image x r.hold alone in
    let calm : Calm r.opening.image file line into x = record { idle = a.idle; runs = a.runs; asked = a.asked; plan = plan; unfired = a.unfired; came = alone_came r.opening.image x file line into plan a.plan } in
    let b = ahead_on n last r h spare file line into x m f (ap (λ (q : Engine). slice_get q.minds h) same ∙ at) calm a.none room (below r go).1 (open_by r go) went in
    subst (λ (q : Engine). Ahead n r q h) (on_is n last r h spare x y m j k some ej ey ek) (record { facts = b.facts; turns = b.turns })

-- where no instruction was executed, nothing has changed
pub none_stayed : (v : LineView) (n last : ℕ) (old new : Patched) → n ≡ 0 → AllStay v n last old new → new ≡ old
none_stayed v zero last old new none went = went
none_stayed v (suc n) last old new none went = absurd (omega (arith, none))
