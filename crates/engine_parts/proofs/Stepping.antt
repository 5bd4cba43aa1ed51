-- A hart steps over a planted word, or executes where none is.
use Rattle.std.proofs.Common.{◌≡◌, ◌<◌, ◌≤◌, ℕ, ◌+◌, ◌^◌, Bool, true, false, cond, not, List, refl, sym, ap, ◌∙◌, subst, arith, inl, inr, length-set}
use Rattle.std.specs.Prelude.{Option, Some, None, IsSome, slice_get, slice_set, ◌&&◌, ◌||◌}
use Rattle.rv_decode.specs.declared.instr.Instr.{Instr}
use Rattle.rv_decode.specs.Decode.{decode}
use Rattle.rv_exec.specs.declared.effect.Stepped.{Stepped}
use Rattle.rv_exec.specs.Registers.{Registers, set_pc}
use Rattle.rv_exec.specs.Memory.{Memory}
use Rattle.text_words.specs.declared.fetch.Fetch.{Fetch}
use Rattle.text_words.specs.Words.{Words}
use Rattle.elf32_read.specs.Program.{Program, text_word}
use Rattle.plain_machine.specs.Environment.{Goes, Leave, Stays}
use Rattle.plain_machine.specs.Plain.{plain, on_word, on_instruction}
use Rattle.scratch_slots.specs.declared.slots.SlotUse.{SlotUse}
use Rattle.step_over.specs.declared.phase.Phase.{Phase}
use Rattle.step_over.specs.declared.phase.Phase.TheVariants as phase
use Rattle.hart_machine.specs.declared.hart.Core.{Core}
use Rattle.hart_machine.specs.Copying.{settled_regs}
use Rattle.hart_machine.specs.Stepping.{FetchGives, StepGives, fetch_of, has_run}
use Rattle.hart_machine.proofs.Copying.{copied_alike, settled_unrun, fetch_text, fetch_slot}
use Rattle.hart_machine.proofs.Places.{same_some}
use Rattle.mi_commands.specs.declared.command.Displaced.{Displaced}
use Rattle.break_table.specs.Table.{is_wait, stands}
use Rattle.std.specs.List.{list_any}
use Rattle.dbg_model.specs.declared.opening.Opening.{Opening}
use Rattle.dbg_model.specs.declared.hart.Hart.{Hart}
use Rattle.dbg_model.specs.State.{State, due, is_off}
use Rattle.watch_points.specs.Watches.{fired_by}
use Rattle.dbg_model.specs.Lawful.{one, one_out, may_run, passes}
use Rattle.dbg_model.specs.Lawful as lawful
use Rattle.dbg_model.proofs.Adding.{lengthens}
use Rattle.engine_parts.specs.declared.mind.Activity.{Activity}
use Rattle.engine_parts.specs.declared.mind.Activity.TheVariants as activity
use Rattle.engine_parts.specs.declared.mind.Hold.{Hold}
use Rattle.engine_parts.specs.declared.mind.Mind.{Mind}
use Rattle.engine_parts.specs.Minds.{mode_of, is_active, is_lifted, lifted_of, slot_of, entered_of, after_step, is_before, with_phase}
use Rattle.engine_parts.specs.Seen.{Engine, seen, seen_hart, seen_harts, seen_regs, running_regs, landed_regs}
use Rattle.engine_parts.specs.Facts.{Sound, Harts, HartFact, InText, Placed, Slotted, Wants, called, held_by, is_home, wanted, wants_of, Planted, pending}
use Rattle.engine_parts.specs.Moves.{Repatched, ran_by}
use Rattle.engine_parts.proofs.Built.{rephased, executed}
use Rattle.engine_parts.proofs.Showing.{seen-set}
use Rattle.engine_parts.proofs.Counting.{retired_ran, copied_more, Balances, adds}
use Rattle.engine_parts.proofs.Updating.{updated, slots_same, holds_by, holds_own, equals, differs}
use Rattle.engine_parts.proofs.Planting.{replanted, fetch_plain}
use Rattle.engine_parts.proofs.Keeping.{Mover, StaysSeen, Enters, entered, silent, hart_at}

-- a hart at a copy
abbrev pub is_copied : Phase → Bool
is_copied (phase.Copied slot home) = true
is_copied _ = false

pub fact_of : (r : Engine) (h : ℕ) (c : Core) (x : Mind) → Sound r → Mover r h c x → HartFact r.opening.image r.machine.slots r.hold h c x
fact_of r h c x f m = f.harts.each h c x m.core m.mind

-- a hart that runs isn't one that doesn't
pub runs_not : {A : Type 0} (a : Activity) → a ≡ activity.Running → is_active a ≡ false → A
runs_not a is not_active = let clash : true ≡ false = sym (ap is_active is) ∙ not_active in cc

-- the lift changes what is wanted at home alone
wanted_lifted : (v : Wants) (h home b : ℕ) → (home ≡ b → ⊥) → wanted (record v { hold = None }) b ≡ wanted (record v { hold = Some (record { hart = h; home = home }) }) b
wanted_lifted v h home b n = rw (differs home b n) refl

and_off : (b : Bool) → (b && false) ≡ false
and_off true = refl
and_off false = refl

-- no patch is wanted where it is lifted
unwanted_home : (v : Wants) (h home : ℕ) → wanted (record v { hold = Some (record { hart = h; home = home }) }) home ≡ false
unwanted_home v h home = rw (equals home) (and_off (called v.entries v.waits home))

-- a hart shows the same in two phases in which its registers are seen alike
pub seen_alike : (p : Program) (r r' : Registers) (a : Activity) (q q' : Phase) → a ≡ activity.Running → running_regs p r q ≡ running_regs p r' q' → seen_regs p r a q ≡ seen_regs p r' a q'
seen_alike p r r' a q q' runs same = rw runs same

pub shown_alike : (p : Program) (c c' : Core) (x : Mind) (q : Phase) → seen_regs p c'.regs x.activity q ≡ seen_regs p c.regs x.activity x.phase → seen_hart p c' (with_phase x q) ≡ seen_hart p c x
shown_alike p c c' x q same = ap (λ (r : Registers). let y : Hart = record (seen_hart p c x) { regs = r } in y) same

-- nothing is pending where displaced stepping is off
none_pending : (d : Displaced) (home : ℕ) → is_off d ≡ true → pending d (phase.Lifted home) ≡ 0
none_pending d home off = rw off refl

-- a patch is lifted for a hart, where it can't be stepped over by a copy
pub lifts : (r : Engine) (h : ℕ) (c : Core) (x : Mind) (home : ℕ) (t : Words) → Sound r → Mover r h c x → x.activity ≡ activity.Running
    → x.phase ≡ phase.Idle → (0 < r.opening.settings.slots → is_off r.displaced ≡ true) → r.hold ≡ None → c.regs.pc ≡ home
    → InText r.opening.image home → Repatched r.machine.text t home false → StaysSeen r (rephased r h (with_phase x (phase.Lifted home)) t (Some (record { hart = h; home = home })))
lifts r h c x home t f m runs idle only none pc text w =
    let p = r.opening.image in
    let d : Hold = record { hart = h; home = home } in
    let x' = with_phase x (phase.Lifted home) in
    let v = wants_of r in
    let w' : Repatched r.machine.text t home (wanted (record v { hold = Some d }) home) = record { words = w.words; here = w.here ∙ sym (unwanted_home v h home); others = w.others } in
    let P : Option Hold → Type 0 = λ hold. Planted r.opening.image r.machine.text (record v { hold = hold }) in
    let Q : Option Hold → Type 0 = λ hold. (k : ℕ) → (h ≡ k → ⊥) → held_by hold k ≡ held_by (Some d) k in
    let was : running_regs p c.regs phase.Idle ≡ running_regs p c.regs x.phase = ap (running_regs p c.regs) (sym idle) in
    silent r h c x x' t (Some d) f m (shown_alike p c c x (phase.Lifted home) (seen_alike p c.regs c.regs x.activity (phase.Lifted home) x.phase runs was))
    (record {
      slots = slots_same p r.machine.cores r.machine.slots r.minds r.hold h x (phase.Lifted home) f.harts m.mind (sym (ap slot_of idle));
      holds = subst Q (sym none) (λ k n. holds_own h home k n);
      fact = record { placed = (text, pc); entered = (fact_of r h c x f m).entered ∙ ap entered_of idle; held = rw (equals h) refl; idle = λ e. runs_not x.activity runs e };
      holder = λ e is. inr (ap (λ (t : Hold). t.hart) (same_some d e is));
    })
    (λ some. let z = none_pending r.displaced home (only some) in omega arith)
    (replanted r.opening.image (record v { hold = None }) (record v { hold = Some d }) r.machine.text t home (subst P none f.planted) w' (λ b n. wanted_lifted v h home b n))

-- who holds, where a patch is lifted for the hart that moves
pub holds_is : (r : Engine) (h : ℕ) (c : Core) (x : Mind) (home : ℕ) → Sound r → Mover r h c x → lifted_of x.phase ≡ Some home → r.hold ≡ Some (record { hart = h; home = home })
holds_is r h c x home f m lifted = holds_by r.hold h home (sym lifted ∙ (fact_of r h c x f m).held)

placed_text : (p : Program) (slots : List (Option SlotUse)) (h : ℕ) (c : Core) (q : Phase) (home : ℕ) → lifted_of q ≡ Some home → Placed p slots h c q → InText p home
placed_text p slots h c phase.Idle home is a = cc
placed_text p slots h c (phase.Copied slot b) home is a = cc
placed_text p slots h c (phase.Landed slot b) home is a = cc
placed_text p slots h c (phase.Lifted b) home is a = subst (InText p) (same_some b home is) a.0
placed_text p slots h c (phase.Ran b) home is a = subst (InText p) (same_some b home is) a

pub home_text : (r : Engine) (h : ℕ) (c : Core) (x : Mind) (home : ℕ) → Sound r → Mover r h c x → lifted_of x.phase ≡ Some home → InText r.opening.image home
home_text r h c x home f m lifted = placed_text r.opening.image r.machine.slots h c x.phase home lifted (fact_of r h c x f m).placed

-- ---- what a step gives at home

-- the registers at home after a step in a phase, which executed or didn't
abbrev pub after_regs : Program → Registers → Phase → Bool → Registers
after_regs p r q true = running_regs p r (after_step q)
after_regs p r q false = running_regs p r q

-- in text no patch is met
text_gives : (r : Engine) (s : Stepped) (c c' : Core) (m' : Memory) (q : Phase) → Sound r → c.regs.pc < 2 ^ 32 → c.entered ≡ None
    → wanted (wants_of r) c.regs.pc ≡ false → FetchGives s (fetch_of r.machine c) c.regs c'.regs r.machine.memory m'
    → StepGives s (plain r.opening.image c.regs r.machine.memory) c.regs c'.regs r.machine.memory m'
text_gives r s c c' m' q f low out none g =
    let P : Fetch → Type 0 = λ w. FetchGives s w c.regs c'.regs r.machine.memory m' in
    fetch_plain s r.opening.image r.machine.text (wants_of r) c.regs c'.regs r.machine.memory m' f.planted low none (subst P (fetch_text r.machine c out) g)

settled_after : (p : Program) (w slot home : ℕ) (r : Registers) (b : Bool) → text_word p home ≡ Some w → settled_regs w slot home r b ≡ after_regs p r (phase.Copied slot home) b
settled_after p w slot home r true image = ap (λ o. landed_regs o slot home r) (sym image)
settled_after p w slot home r false image = settled_unrun w slot home r

idle_ran : (p : Program) (r : Registers) (b : Bool) → r ≡ after_regs p r phase.Idle b
idle_ran p r true = refl
idle_ran p r false = refl

lifted_ran : (p : Program) (r : Registers) (home : ℕ) (b : Bool) → r ≡ after_regs p r (phase.Lifted home) b
lifted_ran p r home true = refl
lifted_ran p r home false = refl

-- what a hart shows of its step is the plain step of what it shows
abbrev pub GivesSeen : Engine → Stepped → Core → Core → Memory → Phase → Type 0
GivesSeen r s c c' m' q =
    StepGives s (plain r.opening.image (running_regs r.opening.image c.regs q) r.machine.memory) (running_regs r.opening.image c.regs q) (after_regs r.opening.image c'.regs q (has_run s)) r.machine.memory m'

gives_by : (r : Engine) (h : ℕ) (s : Stepped) (c c' : Core) (x : Mind) (m' : Memory) (q : Phase) → x.phase ≡ q → Sound r → Mover r h c x
    → is_before q ≡ true → (q ≡ phase.Idle → called r.breaks r.waits c.regs.pc ≡ false) → c.regs.pc < 2 ^ 32
    → FetchGives s (fetch_of r.machine c) c.regs c'.regs r.machine.memory m' → GivesSeen r s c c' m' q
unfolding plain
gives_by r h s c c' x m' phase.Idle is f m before none low g =
    let off : wanted (wants_of r) c.regs.pc ≡ false = ap (λ b. b && not (is_home r.hold c.regs.pc)) (none refl) in
    let out : c.entered ≡ None = (fact_of r h c x f m).entered ∙ ap entered_of is in
    let P : Registers → Type 0 = λ q. StepGives s (plain r.opening.image c.regs r.machine.memory) c.regs q r.machine.memory m' in
    subst P (idle_ran r.opening.image c'.regs (has_run s)) (text_gives r s c c' m' phase.Idle f low out off g)
gives_by r h s c c' x m' (phase.Copied slot home) is f m before none low g =
    let p = r.opening.image in
    let P : Phase → Type 0 = λ q. Placed p r.machine.slots h c q in
    let a : Placed p r.machine.slots h c (phase.Copied slot home) = subst P is (fact_of r h c x f m).placed in
    let w = a.0.word in
    let out : c.entered ≡ Some slot = (fact_of r h c x f m).entered ∙ ap entered_of is in
    let Q : Fetch → Type 0 = λ e. FetchGives s e c.regs c'.regs r.machine.memory m' in
    let g' = subst Q (fetch_slot r.machine c slot (record { hart = h; word = w }) out a.1 a.0.out) g in
    let done = copied_alike s w slot home c.regs c'.regs r.machine.memory m' a.0.at_slot a.0.at_home a.1 g' in
    let here = set_pc c.regs home in
    let R : Option ℕ → Type 0 = λ o. StepGives s (on_word here r.machine.memory o) here (settled_regs w slot home c'.regs (has_run s)) r.machine.memory m' in
    let T : Registers → Type 0 = λ q. StepGives s (on_word here r.machine.memory (text_word p home)) here q r.machine.memory m' in
    subst T (settled_after p w slot home c'.regs (has_run s) a.0.image) (subst R (sym a.0.image) done)
gives_by r h s c c' x m' (phase.Landed slot home) is f m before none low g = cc
gives_by r h s c c' x m' (phase.Lifted home) is f m before none low g =
    let p = r.opening.image in
    let P : Phase → Type 0 = λ q. Placed p r.machine.slots h c q in
    let a : Placed p r.machine.slots h c (phase.Lifted home) = subst P is (fact_of r h c x f m).placed in
    let hold = holds_is r h c x home f m (ap lifted_of is) in
    let off : wanted (wants_of r) c.regs.pc ≡ false = ap (λ (o : Option Hold). wanted (record (wants_of r) { hold = o }) c.regs.pc) hold ∙
    (ap (wanted (record (wants_of r) { hold = Some (record { hart = h; home = home }) })) a.1 ∙ unwanted_home (wants_of r) h home) in
    let out : c.entered ≡ None = (fact_of r h c x f m).entered ∙ ap entered_of is in
    let Q : Registers → Type 0 = λ q. StepGives s (plain p c.regs r.machine.memory) c.regs q r.machine.memory m' in
    subst Q (lifted_ran p c'.regs home (has_run s)) (text_gives r s c c' m' (phase.Lifted home) f low out off g)
gives_by r h s c c' x m' (phase.Ran home) is f m before none low g = cc

pub gives_seen : (r : Engine) (h : ℕ) (s : Stepped) (c c' : Core) (x : Mind) (m' : Memory) → Sound r → Mover r h c x → is_before x.phase ≡ true → (x.phase ≡ phase.Idle → called r.breaks r.waits c.regs.pc ≡ false) → c.regs.pc < 2 ^ 32
    → FetchGives s (fetch_of r.machine c) c.regs c'.regs r.machine.memory m' → GivesSeen r s c c' m' x.phase
gives_seen r h s c c' x m' f m before none low g = gives_by r h s c c' x m' x.phase refl f m before none low g

-- ---- one instruction

-- a hart as it goes on, with the plan that its arrival gave it
abbrev pub sets_out : Engine → ℕ → Core → Mind → Hart
sets_out r h c x = let y = seen_hart r.opening.image c x in lawful.set_out (due r.opening.image (seen r) h y) y

-- what is kept of it after its instruction, which left this memory
abbrev pub ran_of : Engine → ℕ → Core → Mind → Memory → Mind
ran_of r h c x m = ran_by r h (seen_hart r.opening.image c x) m x

-- the state after an instruction of a hart that is seen so before
abbrev pub after_one : Engine → ℕ → Core → Mind → Registers → Memory → List ℕ → Leave → State
after_one r h c x q m out leave = lawful.with_step (seen r) h (sets_out r h c x) q m out leave

one_goes : (o : Opening) (s : State) (h : ℕ) (y : Hart) (r : Registers) (m : Memory) (out : List ℕ) (leave : Leave) → slice_get s.harts h ≡ Some y → may_run o s h y ≡ true → plain o.image y.regs s.memory ≡ Goes r m out leave
    → one o h s ≡ Some (lawful.with_step s h (lawful.set_out (due o.image s h y) y) r m out leave)
unfolding one
one_goes o s h y r m out leave at may is = rw (at, may, is) refl

out_goes : (o : Opening) (s : State) (h : ℕ) (y : Hart) (r : Registers) (m : Memory) (out : List ℕ) (leave : Leave) → slice_get s.harts h ≡ Some y → plain o.image y.regs s.memory ≡ Goes r m out leave → one_out o h s ≡ out
unfolding one_out
out_goes o s h y r m out leave at is = rw (at, is) refl

-- one instruction, in the state that is seen
pub record OneSeen (r : Engine) (h : ℕ) (c : Core) (x : Mind) (q : Registers) (m : Memory) (out : List ℕ) (leave : Leave) : Type 0 where
  pub one : one r.opening h (seen r) ≡ Some (after_one r h c x q m out leave)
  pub wrote : one_out r.opening h (seen r) ≡ out

pub one_seen : (r : Engine) (h : ℕ) (c : Core) (x : Mind) (q : Registers) (m : Memory) (out : List ℕ) (leave : Leave) → Mover r h c x → may_run r.opening (seen r) h (seen_hart r.opening.image c x) ≡ true
    → plain r.opening.image (seen_hart r.opening.image c x).regs r.machine.memory ≡ Goes q m out leave → OneSeen r h c x q m out leave
one_seen r h c x q m out leave v may is =
    let y = seen_hart r.opening.image c x in
    let at = hart_at r h c x v in
    record {
      one = one_goes r.opening (seen r) h y q m out leave at may is;
      wrote = out_goes r.opening (seen r) h y q m out leave at is;
    }

-- a hart that has executed, as it is seen
pub ran_seen : (r : Engine) (h : ℕ) (c c' : Core) (x : Mind) (m : Memory) → x.activity ≡ activity.Running
    → lawful.stepped (sets_out r h c x) (running_regs r.opening.image c'.regs (after_step x.phase)) (fired_by r.watches r.machine.memory m) ≡ seen_hart r.opening.image c' (ran_of r h c x m)
ran_seen r h c c' x m runs = ap (λ a. let y : Hart = record (seen_hart r.opening.image c' (ran_of r h c x m)) { mode = mode_of a } in y) runs

-- where a hart is after an instruction
after_placed : (p : Program) (slots : List (Option SlotUse)) (h : ℕ) (c c' : Core) (q : Phase) → Placed p slots h c q → is_before q ≡ true
    → (is_copied q ≡ true → (slot home : ℕ) (e : q ≡ phase.Copied slot home) (a : Slotted p slots h slot home) → IsSome (decode a.word)) → Placed p slots h c' (after_step q)
after_placed p slots h c c' phase.Idle a before runs = tt
after_placed p slots h c c' (phase.Copied slot home) a before runs = record { slotted = a.0; decodes = runs refl slot home refl a.0 }
after_placed p slots h c c' (phase.Landed slot home) a before runs = cc
after_placed p slots h c c' (phase.Lifted home) a before runs = a.0
after_placed p slots h c c' (phase.Ran home) a before runs = cc

after_lifted : (q : Phase) → lifted_of (after_step q) ≡ lifted_of q
after_lifted phase.Idle = refl
after_lifted (phase.Copied slot home) = refl
after_lifted (phase.Landed slot home) = refl
after_lifted (phase.Lifted home) = refl
after_lifted (phase.Ran home) = refl

pub after_slot : (q : Phase) → slot_of (after_step q) ≡ slot_of q
after_slot phase.Idle = refl
after_slot (phase.Copied slot home) = refl
after_slot (phase.Landed slot home) = refl
after_slot (phase.Lifted home) = refl
after_slot (phase.Ran home) = refl

after_entered : (q : Phase) → is_before q ≡ true → entered_of (after_step q) ≡ None
after_entered phase.Idle b = refl
after_entered (phase.Copied slot home) b = refl
after_entered (phase.Landed slot home) b = refl
after_entered (phase.Lifted home) b = refl
after_entered (phase.Ran home) b = refl

true_false : {A : Type 0} → true ≡ false → A
true_false e = cc

-- the word of a plain step that went is an instruction's
word_decodes : (r : Registers) (q : Registers) (m m' : Memory) (out : List ℕ) (leave : Leave) (o : Option Instr) → on_instruction r m o ≡ Goes q m' out leave → IsSome o
word_decodes r q m m' out leave None e = cc
word_decodes r q m m' out leave (Some i) e = refl

-- a copy that goes is of an instruction
pub copy_decodes : (r : Engine) (h : ℕ) (c : Core) (x : Mind) (q : Registers) (m' : Memory) (out : List ℕ) (leave : Leave)
    → x.activity ≡ activity.Running → plain r.opening.image (seen_hart r.opening.image c x).regs r.machine.memory ≡ Goes q m' out leave
    → (slot home : ℕ) → x.phase ≡ phase.Copied slot home → (a : Slotted r.opening.image r.machine.slots h slot home) → IsSome (decode a.word)
unfolding plain
copy_decodes r h c x q m' out leave runs is slot home e a =
    let p = r.opening.image in
    let here = set_pc c.regs home in
    let regs : seen_regs p c.regs x.activity x.phase ≡ here = ap (λ t. seen_regs p c.regs t x.phase) runs ∙ ap (running_regs p c.regs) e in
    let at : on_word here r.machine.memory (text_word p home) ≡ Goes q m' out leave = ap (λ t. on_word t r.machine.memory (text_word p t.pc)) (sym regs) ∙ is in
    word_decodes here q r.machine.memory m' out leave (decode a.word) (ap (on_word here r.machine.memory) (sym a.image) ∙ at)

-- what the hart's copies count after an instruction
ahead_by : (d : Displaced) (home : ℕ) (off here : Bool) → is_off d ≡ off → adds (not off && here) ≤ pending d (phase.Lifted home)
ahead_by d home true here is = rw is (omega arith)
ahead_by d home false true is = rw is (omega arith)
ahead_by d home false false is = rw is (omega arith)

-- nothing is pending for a hart without a lifted patch, or that has executed
pub none_ahead : (d : Displaced) (q : Phase) → is_lifted q ≡ false → pending d q ≡ 0
none_ahead d q e = ap (λ b. cond (not (is_off d) && b) 1 0) e ∙ ap (λ b. cond b 1 0) (and_off (not (is_off d)))

adds_most : (b : Bool) → adds b ≤ 1
adds_most true = omega arith
adds_most false = omega arith

adds_none : (d : Displaced) (b : Bool) → b ≡ false → adds (not (is_off d) && b) ≡ 0
adds_none d b e = ap (λ t. adds (not (is_off d) && t)) e ∙ ap adds (and_off (not (is_off d)))

pub balances : (count : ℕ) (d : Displaced) (c c' : Core) (q : Phase) (here : Bool) → is_before q ≡ true → c'.copied ≡ c.copied + adds (is_copied q)
    → (q ≡ phase.Idle → here ≡ false) → Balances count d c c' q (after_step q) (adds (not (is_off d) && here))
balances count d c c' phase.Idle here before copied none some = let z = adds_none d here (none refl) in omega (arith, copied, z)
balances count d c c' (phase.Copied slot home) here before copied none some = let z = adds_most (not (is_off d) && here) in let n = none_ahead d (phase.Landed slot home) refl in omega (arith, copied, z, n)
balances count d c c' (phase.Landed slot home) here before copied none some = cc
balances count d c c' (phase.Lifted home) here before copied none some = let z = ahead_by d home (is_off d) here refl in let n = none_ahead d (phase.Ran home) refl in omega (arith, copied, z, n)
balances count d c c' (phase.Ran home) here before copied none some = cc

or_left : (a b : Bool) → (a || b) ≡ false → a ≡ false
or_left true b e = cc
or_left false b e = refl

-- where the hart shows its pc a breakpoint may stand; where it steps over nothing, that is its own pc
pub here_none : (r : Engine) (c : Core) (x : Mind) → (x.phase ≡ phase.Idle → called r.breaks r.waits c.regs.pc ≡ false) → x.activity ≡ activity.Running → x.phase ≡ phase.Idle → stands (seen_hart r.opening.image c x).regs.pc r.breaks ≡ false
here_none r c x none runs idle =
    let p = r.opening.image in
    let regs : seen_regs p c.regs x.activity x.phase ≡ c.regs = ap (λ t. seen_regs p c.regs t x.phase) runs ∙ ap (running_regs p c.regs) idle in
    ap (λ (t : Registers). stands t.pc r.breaks) regs ∙ or_left (stands c.regs.pc r.breaks) (list_any (is_wait c.regs.pc) r.waits) (none idle)

-- what is known of the harts after an instruction of one, whatever watch it made fire
pub ran_harts : (r : Engine) (h : ℕ) (c c' : Core) (x : Mind) (q : Registers) (mem after : Memory) (out : List ℕ) (leave : Leave) → Sound r → Mover r h c x → x.activity ≡ activity.Running → is_before x.phase ≡ true
    → plain r.opening.image (seen_hart r.opening.image c x).regs r.machine.memory ≡ Goes q mem out leave → c'.entered ≡ None
    → Harts r.opening.image (slice_set r.machine.cores h c') r.machine.slots (slice_set r.minds h (ran_of r h c x after)) r.hold
ran_harts r h c c' x q mem after out leave f m runs before is left =
    let p = r.opening.image in
    let x' = ran_of r h c x after in
    let fact = fact_of r h c x f m in
    updated p r.machine.cores r.machine.slots r.machine.slots r.minds r.hold r.hold h c' x x' f.harts m.mind
    (record {
      slots = slots_same p r.machine.cores r.machine.slots r.minds r.hold h x (after_step x.phase) f.harts m.mind (after_slot x.phase);
      holds = λ k n. refl;
      fact = record {
        placed = after_placed p r.machine.slots h c c' x.phase fact.placed before (λ k slot home e a. copy_decodes r h c x q mem out leave runs is slot home e a);
        entered = left ∙ sym (after_entered x.phase before);
        held = after_lifted x.phase ∙ fact.held;
        idle = λ e. true_false e;
      };
      holder = λ d e. inl e;
    })

-- one instruction, by which none exits
pub executes : (r : Engine) (h spare : ℕ) (c c' : Core) (x : Mind) (mem : Memory) (out : List ℕ) → Sound r → Mover r h c x
    → x.activity ≡ activity.Running → is_before x.phase ≡ true → (x.phase ≡ phase.Idle → called r.breaks r.waits c.regs.pc ≡ false)
    → may_run r.opening (seen r) h (seen_hart r.opening.image c x) ≡ true → plain r.opening.image (seen_hart r.opening.image c x).regs r.machine.memory ≡ Goes (running_regs r.opening.image c'.regs (after_step x.phase)) mem out Stays
    → c'.retired ≡ c.retired + 1 → c'.copied ≡ c.copied + adds (is_copied x.phase) → c'.entered ≡ None
    → Enters (executed r h c' (ran_of r h c x mem) mem spare) (after_one r h c x (running_regs r.opening.image c'.regs (after_step x.phase)) mem out Stays)
executes r h spare c c' x mem out f m runs before none may is more copied left =
    let p = r.opening.image in
    let x' = ran_of r h c x mem in
    let q = running_regs p c'.regs (after_step x.phase) in
    let s = after_one r h c x q mem out Stays in
    let n : Engine = executed r h c' x' mem spare in
    let goes = one_seen r h c x q mem out Stays m may is in
    let harts : slice_set (seen r).harts h (lawful.stepped (sets_out r h c x) q (fired_by r.watches r.machine.memory mem)) ≡ seen_harts p (slice_set r.machine.cores h c') (slice_set r.minds h x') =
    ap (slice_set (seen r).harts h) (ran_seen r h c c' x mem runs) ∙ sym (seen-set p r.machine.cores r.minds h c' x') in
    entered n s f.settings (lengthens r.opening r.journal h (seen r) s f.leaves goes.one)
    (ap (λ ys. let u : State = record s { harts = ys } in u) harts)
    (record {
      count = length-set r.minds h x' ∙ f.count;
      selected = f.selected;
      harts = ran_harts r h c c' x q mem mem out Stays f m runs before is left;
      slots = f.slots;
      planted = f.planted;
      texts = f.texts;
      places = f.places;
      many = f.many;
      awaits = f.awaits;
      sources = f.sources;
      retired = retired_ran r.machine.cores h c c' r.journal m.core more f.retired;
      copied = copied_more r.opening.settings.slots r.machine.cores r.minds h c c' x x' r.displaced (seen r).passed (seen r).sets (passes (seen r) (seen_hart p c x)) m.core m.mind
          (balances r.opening.settings.slots r.displaced c c' x.phase (stands (seen_hart p c x).regs.pc r.breaks) before copied (here_none r c x none runs)) f.copied;
    })
