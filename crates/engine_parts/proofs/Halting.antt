-- A hart stops or is counted, as the code makes it, and an engine ends.
use Rattle.std.proofs.Common.{◌≡◌, ◌≤◌, ℕ, ◌+◌, ◌++◌, Bool, true, false, not, List, [], ◌∷◌, refl, sym, ap, ◌∙◌, subst, arith}
use Rattle.std.specs.Prelude.{Option, Some, None, IsSome, ◌||◌, slice_get, slice_index, slice_set}
use Rattle.rv_exec.specs.declared.effect.Cause.{Cause}
use Rattle.rv_exec.specs.Registers.{Registers, set_pc}
use Rattle.text_words.specs.Words.{Words, shown, is_planted}
use Rattle.elf32_read.specs.Program.{Program}
use Rattle.plain_machine.specs.Environment.{Traps}
use Rattle.plain_machine.specs.Plain.{plain}
use Rattle.scratch_slots.specs.Table.{use_at}
use Rattle.step_over.specs.declared.phase.Phase.{Phase}
use Rattle.step_over.specs.declared.phase.Phase.TheVariants as phase
use Rattle.hart_machine.specs.declared.hart.Core.{Core}
use Rattle.hart_machine.specs.Patched.{Patched}
use Rattle.mi_commands.specs.declared.command.Displaced.{Displaced}
use Rattle.break_table.specs.Entry.{Entry as BreakEntry}
use Rattle.break_table.specs.Arrival.{settled}
use Rattle.break_table.specs.Table.{is_wait, stands}
use Rattle.std.specs.List.{list_any}
use Rattle.dbg_model.specs.declared.entry.Entry.{Entry}
use Rattle.dbg_model.specs.declared.entry.Entry.TheVariants.{Counted, Stopped}
use Rattle.dbg_model.specs.declared.entry.Why.{Why}
use Rattle.dbg_model.specs.declared.entry.Why.TheVariants.{Interrupted, Fault}
use Rattle.dbg_model.specs.declared.entry.Why.TheVariants as whys
use Rattle.dbg_model.specs.Shown.{stops_once}
use Rattle.step_plans.specs.declared.plan.Plan.{Plan}
use Rattle.dbg_model.specs.Views.{register, shown_byte}
use Rattle.dbg_model.specs.declared.judgement.Judgement.{Judgement}
use Rattle.watch_points.specs.declared.watchpoint.Watch.{Watch}
use Rattle.watch_points.specs.Watches.{risen}
use Rattle.dbg_model.specs.Judging.{is_due, is_counted, plan_after}
use Rattle.dbg_model.specs.State.{State, due, arrived as after_arrival}
use Rattle.dbg_model.specs.Lawful.{may_go}
use Rattle.engine_parts.specs.declared.mind.Activity.TheVariants as activity
use Rattle.engine_parts.specs.declared.mind.Hold.{Hold}
use Rattle.engine_parts.specs.declared.mind.Mind.{Mind}
use Rattle.engine_parts.specs.Minds.{is_before, first_mind, counted_mind}
use Rattle.engine_parts.specs.Seen.{Engine, seen, seen_hart, seen_regs, running_regs}
use Rattle.engine_parts.specs.Facts.{Sound, AreInText, InText, Planted, Retired, AreCopied, CopiedOver, called, is_home, pending, wanted, wants_of, other_holder}
use Rattle.engine_parts.specs.Moves.{Repatched, Released, HeldInText, AreHome, stop_of}
use Rattle.engine_parts.specs.Homecoming.{AllGoHome}
use Rattle.dbg_model.proofs.Options.{both_true}
use Rattle.engine_parts.proofs.Breaking.{same_shown}
use Rattle.engine_parts.proofs.Keeping.{hart_at}
use Rattle.engine_parts.proofs.Updating.{home_at, none_held}
use Rattle.engine_parts.proofs.Holding.{core_at, released, planted_text, stands_text, no_hold}
use Rattle.engine_parts.proofs.Copying.{copies}
use Rattle.engine_parts.proofs.Homecoming.{all_are_home, all_are_free, all_ready}
use Rattle.engine_parts.proofs.Exiting.{retired_home}
use Rattle.engine_parts.proofs.Planting.{text_shown}
use Rattle.engine_parts.proofs.Stepping.{fact_of}
use Rattle.engine_parts.proofs.Arriving.{text-arrived}
use Rattle.engine_parts.proofs.Stopping.{goes_with, halts_fault, halts_interrupt, halts_arrival, counts, may_by}
use Rattle.engine_parts.specs.Calls.{Of, DueIs, StopsBy, Undue, TrapsAt, Halts, Interrupts, StopsFor, MayStop, Counts, Closes}
use Rattle.engine_parts.proofs.Executing.{of_hart, moves_by, rewoven}
use Rattle.engine_parts.proofs.Holds.{Retexted, lifted, copied}

-- the facts hold after a move that did this, whatever patches are planted for the harts that wait then
pub record Noted (new : Engine) (Did : Engine → Type 0) : Type 0 where
  pub sound : Sound new
  pub does : (t : Words) (ws : List (Option ℕ)) → Did (rewoven new t ws)

-- no patch is held, where none is for another hart and this one steps over nothing
pub unheld : (r : Engine) (h : ℕ) (x : Mind) → Sound r → slice_get r.minds h ≡ Some x → x.phase ≡ phase.Idle → other_holder r.hold h ≡ None → r.hold ≡ None
unheld r h x f at idle free =
    let k = core_at r h x f at in
    no_hold r.hold h free (none_held r.hold h x.phase (fact_of r h k.0 x f k.1).held idle)

-- nothing that holds of an engine hangs on what stopped a hart last
sound_once : (r : Engine) (once : Bool) → Sound r → Sound (record r { temporary = once })
sound_once r once s = record {
  leaves = s.leaves;
  settings = s.settings;
  count = s.count;
  selected = s.selected;
  harts = s.harts;
  slots = s.slots;
  planted = s.planted;
  texts = s.texts;
  places = s.places;
  many = s.many;
  awaits = s.awaits;
  sources = s.sources;
  retired = s.retired;
  copied = s.copied;
}

-- an engine in which a hart stopped where nothing was due
abbrev pub halted_run : Engine → ℕ → ℕ → List Entry → Engine
halted_run r h spare j = record r { journal = j; spare = spare; minds = slice_set r.minds h first_mind; noted = r.noted + 1; temporary = false }

-- a hart stopped by an interrupt
interrupted : (r : Engine) (h spare : ℕ) (x : Mind) → Sound r → slice_get r.minds h ≡ Some x → x.phase ≡ phase.Idle → x.activity ≡ activity.Running
    → other_holder r.hold h ≡ None → x.asked ≡ true → Undue r h → may_go r.opening (seen r) ≡ true
    → Noted (halted_run r h spare (r.journal ++ Stopped h Interrupted ∷ [])) (λ n. Interrupts r n h)
interrupted r h spare x f at idle runs free asked none may =
    let k = core_at r h x f at in
    let c = k.0 in
    let y = seen_hart r.opening.image c x in
    let may' = may_by r.opening (seen r) h y (moves_by r c x may runs) (of_hart r h c x (λ y. is_due (due r.opening.image (seen r) h y) ≡ false) k.1 none) in
    let e = halts_interrupt r h spare c x f k.1 idle asked may' in
    record {
      sound = sound_once _ false e.facts;
      does = λ t ws. record {
        mind = x;
        at = at;
        idle = idle;
        asked = asked;
        halts = record
            { minds = refl; hold = unheld r h x f at idle free; journal = refl; enters = e.comes; temporary = refl; opening = refl; copies = refl };
      };
    }

-- a hart stopped by a fault
faulted : (r : Engine) (h spare : ℕ) (x : Mind) (cause : Cause) → Sound r → slice_get r.minds h ≡ Some x → x.phase ≡ phase.Idle
    → x.activity ≡ activity.Running → other_holder r.hold h ≡ None → Undue r h → TrapsAt r h cause → may_go r.opening (seen r) ≡ true
    → Noted (halted_run r h spare (r.journal ++ Stopped h (Fault cause) ∷ [])) (λ n. Halts r n h (Fault cause))
faulted r h spare x cause f at idle runs free none traps may =
    let k = core_at r h x f at in
    let c = k.0 in
    let may' = may_by r.opening (seen r) h (seen_hart r.opening.image c x) (moves_by r c x may runs) (of_hart r h c x (λ y. is_due (due r.opening.image (seen r) h y) ≡ false) k.1 none) in
    let trap = of_hart r h c x (λ y. plain r.opening.image y.regs (seen r).memory ≡ Traps cause) k.1 traps in
    let e = halts_fault r h spare c x cause f k.1 idle may' trap in
    record { sound = sound_once _ false e.facts; does = λ t ws. record { minds = refl; hold = unheld r h x f at idle free; journal = refl; enters = e.comes; temporary = refl; opening = refl; copies = refl } }

stopped_by : (why : Why) (r : Engine) (h spare : ℕ) (x : Mind) → Sound r → slice_get r.minds h ≡ Some x → x.phase ≡ phase.Idle
    → x.activity ≡ activity.Running → other_holder r.hold h ≡ None → Undue r h → MayStop why r h x → may_go r.opening (seen r) ≡ true
    → Noted (halted_run r h spare (r.journal ++ Stopped h why ∷ [])) (λ n. StopsFor why r n h)
stopped_by whys.Interrupted r h spare x f at idle runs free none by may = interrupted r h spare x f at idle runs free by none may
stopped_by (whys.Fault cause) r h spare x f at idle runs free none by may = faulted r h spare x cause f at idle runs free none by may
stopped_by (whys.Break number error) r h spare x f at idle runs free none by may = absurd by
stopped_by (whys.Watch fired) r h spare x f at idle runs free none by may = absurd by
stopped_by whys.Stepped r h spare x f at idle runs free none by may = absurd by
stopped_by whys.Finished r h spare x f at idle runs free none by may = absurd by

-- a hart for which nothing is due stopped
pub stopped : (r : Engine) (h spare : ℕ) (x : Mind) (why : Why) (j : List Entry) → Sound r → slice_get r.minds h ≡ Some x → x.phase ≡ phase.Idle → x.activity ≡ activity.Running → other_holder r.hold h ≡ None → Undue r h → MayStop why r h x
    → may_go r.opening (seen r) ≡ true → j ≡ r.journal ++ Stopped h why ∷ [] → Noted (halted_run r h spare j) (λ n. StopsFor why r n h)
stopped r h spare x why j f at idle runs free none by may same =
    let P : List Entry → Type 0 = λ es. Noted (halted_run r h spare es) (λ n. StopsFor why r n h) in
    subst P (sym same) (stopped_by why r h spare x f at idle runs free none by may)

-- the registers that a hart shows before an instruction, where it shows this pc
shown_by : (p : Program) (c : Core) (x : Mind) (pc : ℕ) (q : Phase) → x.phase ≡ q → x.activity ≡ activity.Running → is_before q ≡ true → (seen_hart p c x).regs.pc ≡ pc → (seen_hart p c x).regs ≡ set_pc c.regs pc
shown_by p c x pc phase.Idle is runs before here =
    let own : (seen_hart p c x).regs ≡ c.regs = ap (λ a. seen_regs p c.regs a x.phase) runs ∙ ap (running_regs p c.regs) is in
    own ∙ ap (set_pc c.regs) (sym (ap (λ (r : Registers). r.pc) own) ∙ here)
shown_by p c x pc (phase.Copied slot home) is runs before here =
    let copy : (seen_hart p c x).regs ≡ set_pc c.regs home = ap (λ a. seen_regs p c.regs a x.phase) runs ∙ ap (running_regs p c.regs) is in
    copy ∙ ap (set_pc c.regs) (sym (ap (λ (r : Registers). r.pc) copy) ∙ here)
shown_by p c x pc (phase.Landed slot home) is runs before here = cc
shown_by p c x pc (phase.Lifted home) is runs before here =
    let own : (seen_hart p c x).regs ≡ c.regs = ap (λ a. seen_regs p c.regs a x.phase) runs ∙ ap (running_regs p c.regs) is in
    own ∙ ap (set_pc c.regs) (sym (ap (λ (r : Registers). r.pc) own) ∙ here)
shown_by p c x pc (phase.Ran home) is runs before here = cc

pub shown_is : (p : Program) (c : Core) (x : Mind) (pc : ℕ) → x.activity ≡ activity.Running → is_before x.phase ≡ true → (seen_hart p c x).regs.pc ≡ pc → (seen_hart p c x).regs ≡ set_pc c.regs pc
shown_is p c x pc runs before here = shown_by p c x pc x.phase refl runs before here

-- the table after an arrival, where the core of the hart is known
abbrev pub Settles : Engine → ℕ → ℕ → List BreakEntry → Type 0
Settles r h pc bs = (c : Core) → slice_get r.machine.cores h ≡ Some c → bs ≡ settled h (register (set_pc c.regs pc)) (shown_byte r.opening.image r.machine.memory) r.breaks

after_is : (r : Engine) (h pc : ℕ) (c : Core) (x : Mind) (bs : List BreakEntry) → x.activity ≡ activity.Running → is_before x.phase ≡ true
    → (seen_hart r.opening.image c x).regs.pc ≡ pc → Settles r h pc bs → slice_get r.machine.cores h ≡ Some c
    → bs ≡ after_arrival r.opening.image (seen r) h (seen_hart r.opening.image c x)
unfolding after_arrival
after_is r h pc c x bs runs before here settles at =
    settles c at ∙ ap (λ q. settled h (register q) (shown_byte r.opening.image r.machine.memory) r.breaks) (sym (shown_is r.opening.image c x pc runs before here))

-- a hart stopped where it had arrived
pub arrived : (r : Engine) (h pc spare : ℕ) (why : Why) (x : Mind) (j : List Entry) (m : Patched) (bs : List BreakEntry) (ws : List Watch)
    (want once : Bool) → once ≡ stops_once r.breaks why → Sound r → slice_get r.minds h ≡ Some x → x.phase ≡ phase.Idle
    → x.activity ≡ activity.Running → other_holder r.hold h ≡ None
    → Of r h (λ y. y.regs.pc ≡ pc) → StopsBy r h why → may_go r.opening (seen r) ≡ true → j ≡ r.journal ++ Stopped h why ∷ [] → Settles r h pc bs
    → ws ≡ risen x.course.fired r.watches → want ≡ wanted (record (wants_of r) { entries = bs }) pc
    → Repatched r.machine.text m.text pc want → Retexted r m
    → (let new : Engine = record r { journal = j; spare = spare; machine = m; minds = slice_set r.minds h first_mind; watches = ws; breaks = bs; noted = r.noted + 1; temporary = once } in Noted new (λ n. Halts r n h why))
arrived r h pc spare why x j m bs ws want once temporary f at idle runs free is stops may same settles rises wants w texts =
    let before : is_before x.phase ≡ true = ap is_before idle in
    let k = core_at r h x f at in
    let c = k.0 in
    let here = of_hart r h c x (λ y. y.regs.pc ≡ pc) k.1 is in
    let stops' = of_hart r h c x (λ y. stop_of (due r.opening.image (seen r) h y) ≡ Some why) k.1 stops in
    let may' = moves_by r c x may runs in
    let after = after_arrival r.opening.image (seen r) h (seen_hart r.opening.image c x) in
    let bs_is : bs ≡ after = after_is r h pc c x bs runs before here settles k.1.core in
    let W : Bool → Type 0 = λ b. Repatched r.machine.text m.text pc b in
    let V : ℕ → Type 0 = λ a. Repatched r.machine.text m.text a (wanted (record (wants_of r) { entries = after }) a) in
    let w' = subst V (sym here) (subst W (wants ∙ ap (λ cs. wanted (record (wants_of r) { entries = cs }) pc) bs_is) w) in
    let e = halts_arrival r h spare why c x m.text f k.1 idle may' stops' w' in
    let N : List Entry → Patched → List BreakEntry → List Watch
    → Engine = λ es n cs vs. record r {
      journal = es;
      spare = spare;
      machine = n;
      minds = slice_set r.minds h first_mind;
      watches = vs;
      breaks =
          cs;
      noted = r.noted + 1;
      temporary = once;
    } in
    let P : List Entry → Patched → List BreakEntry → List Watch → Type 0 = λ es n cs vs. Noted (N es n cs vs) (λ n. Halts r n h why) in
    let m' : Patched = record r.machine { text = m.text } in
    let es = r.journal ++ Stopped h why ∷ [] in
    let vs = risen x.course.fired r.watches in
    let base : P es m' after vs = record {
      sound = sound_once _ once e.facts;
      does = λ t ws. record { minds = refl; hold = unheld r h x f at idle free; journal = refl; enters = e.comes; temporary = temporary; opening = refl; copies = refl };
    } in
    subst (λ (ls : List Entry). P ls m bs ws) (sym same) (subst (λ (n : Patched). P es n bs ws) (sym texts) (subst (λ (cs : List BreakEntry). P es m' cs ws) (sym bs_is) (subst (λ (us : List Watch). P es m' after us) (sym rises) base)))

-- a hart was counted by breakpoints
pub counted : (r : Engine) (h pc spare : ℕ) (d : Judgement) (x y : Mind) (plan : Plan) (j : List Entry) (m : Patched) (bs : List BreakEntry)
    (want : Bool) → Sound r → slice_get r.minds h ≡ Some x → is_before x.phase ≡ true → x.activity ≡ activity.Running → Of r h (λ y. y.regs.pc ≡ pc)
    → DueIs r h d → is_counted d ≡ true → may_go r.opening (seen r) ≡ true → j ≡ r.journal ++ Counted h ∷ [] → Settles r h pc bs
    → want ≡ wanted (record (wants_of r) { entries = bs }) pc → Repatched r.machine.text m.text pc want → Retexted r m → y ≡ counted_mind plan x
    → plan ≡ plan_after d.verdict → x.course.fresh ≡ true
    → (let new : Engine = record r { journal = j; spare = spare; machine = m; minds = slice_set r.minds h y; breaks = bs; noted = r.noted + 1 } in Noted new (λ n. Counts r n h))
counted r h pc spare d x y plan j m bs want f at before runs is due_is counting may same settles wants w texts mind goes fresh =
    let k = core_at r h x f at in
    let c = k.0 in
    let here = of_hart r h c x (λ y. y.regs.pc ≡ pc) k.1 is in
    let due' = of_hart r h c x (λ y. due r.opening.image (seen r) h y ≡ d) k.1 due_is in
    let may' = moves_by r c x may runs in
    let after = after_arrival r.opening.image (seen r) h (seen_hart r.opening.image c x) in
    let bs_is : bs ≡ after = after_is r h pc c x bs runs before here settles k.1.core in
    let W : Bool → Type 0 = λ b. Repatched r.machine.text m.text pc b in
    let V : ℕ → Type 0 = λ a. Repatched r.machine.text m.text a (wanted (record (wants_of r) { entries = after }) a) in
    let w' = subst V (sym here) (subst W (wants ∙ ap (λ cs. wanted (record (wants_of r) { entries = cs }) pc) bs_is) w) in
    let e = counts r h spare c x m.text f k.1 may' (ap is_counted due' ∙ counting) w' in
    let N : List Entry → Patched → List BreakEntry → Mind → Engine = λ es n cs z. record r { journal = es; spare = spare; machine = n; minds = slice_set r.minds h z; breaks = cs; noted = r.noted + 1 } in
    let P : List Entry → Patched → List BreakEntry → Mind → Type 0 = λ es n cs z. Noted (N es n cs z) (λ n. Counts r n h) in
    let m' : Patched = record r.machine { text = m.text } in
    let es = r.journal ++ Counted h ∷ [] in
    let z = counted_mind (goes_with r h c x) x in
    let mind' : y ≡ z = mind ∙ ap (λ q. counted_mind q x) (goes ∙ ap (λ (u : Judgement). plan_after u.verdict) (sym due')) in
    let base : P es m' after z = record {
      sound = e.facts;
      does = λ t ws. record {
        mind = x;
        at = at;
        fresh = fresh;
        hart = seen_hart r.opening.image c x;
        shown = hart_at r h c x k.1;
        minds = refl;
        hold = refl;
        journal =
            refl;
        enters = e.comes;
        opening = refl;
        copies = refl;
      };
    } in
    subst (λ (ls : List Entry). P ls m bs y) (sym same)
    (subst (λ (n : Patched). P es n bs y) (sym texts)
    (subst (λ (cs : List BreakEntry). P es m' cs y) (sym bs_is)
    (subst (λ (u : Mind). P es m' after u) (sym mind') base)))

after_text : (r : Engine) (a : ℕ) (bs : List BreakEntry) (b : Bool) → Sound r → AreInText r.opening.image bs → stands a bs ≡ b → (b || list_any (is_wait a) r.waits) ≡ true → InText r.opening.image a
after_text r a bs true f texts is on = stands_text r.opening.image bs a texts is
after_text r a bs false f texts is on = f.awaits a on

-- where a patch is wanted after an arrival is text
pub wanted_text : (r : Engine) (h pc : ℕ) (x : Mind) (bs : List BreakEntry) (want : Bool) → Sound r → slice_get r.minds h ≡ Some x
    → is_before x.phase ≡ true → x.activity ≡ activity.Running → Of r h (λ y. y.regs.pc ≡ pc) → Settles r h pc bs → want ≡ wanted (record (wants_of r) { entries = bs }) pc
    → want ≡ true → IsSome (shown r.machine.text pc)
wanted_text r h pc x bs want f at before runs is settles wants some =
    let image = r.opening.image in
    let k = core_at r h x f at in
    let y = seen_hart image k.0 x in
    let here = of_hart r h k.0 x (λ y. y.regs.pc ≡ pc) k.1 is in
    let after = after_arrival image (seen r) h y in
    let bs_is : bs ≡ after = after_is r h pc k.0 x bs runs before here settles k.1.core in
    let on : wanted (record (wants_of r) { entries = after }) pc ≡ true = ap (λ cs. wanted (record (wants_of r) { entries = cs }) pc) (sym bs_is) ∙ (sym wants ∙ some) in
    text_shown image r.machine.text (wants_of r) pc f.planted (after_text r pc after (stands pc after) f (text-arrived image (seen r) h y f.texts) refl (both_true (called after r.waits pc) (not (is_home r.hold pc)) on).0)

-- and where one is planted before
pub planted_shown : (r : Engine) (pc : ℕ) → Sound r → is_planted r.machine.text pc ≡ true → IsSome (shown r.machine.text pc)
planted_shown r pc f is = text_shown r.opening.image r.machine.text (wants_of r) pc f.planted (planted_text r pc f is)

-- the copies that a machine counts
copied_home : (p : Program) (count : ℕ) (cs : List Core) (xs : List Mind) (ds : List Core) (d : Displaced) (s : State) → AreHome p cs xs ds → AreCopied count cs xs d s.passed s.sets → CopiedOver count ds s
copied_home p count cs xs ds d s home f some k e ek =
    let a = home_at p cs xs ds k e home ek in
    let had : slice_index s.passed k + pending d a.mind.phase ≤ a.core.copied + s.sets = f some k a.core a.mind a.core_at a.mind_at in
    omega (arith, had, a.home.copied)

-- a lifted word is there as long as the words are the same
pub same_held : (t t' : Words) (hold : Option Hold) → t'.words ≡ t.words → HeldInText t hold → HeldInText t' hold
same_held t t' None same held = tt
same_held t t' (Some d) same held = same_shown t t' d.home same held

-- the end of an engine
pub closed : (r : Engine) (g m : Patched) → Sound r → AllGoHome r.machine g 0 r.minds → Released g.text m.text r.breaks r.waits r.hold → m ≡ record g { text = m.text } → Closes r m
closed r g m f all w is =
    let p = r.opening.image in
    let home = all_are_home p r.machine g r.minds f.harts.len (all_ready p r.machine.cores r.machine.slots r.minds r.hold f.harts) all in
    let free = all_are_free r.machine g r.minds f.harts.used all in
    let cores : g.cores ≡ m.cores = ap (λ (n : Patched). n.cores) (sym is) in
    let slots : m.slots ≡ g.slots = ap (λ (n : Patched). n.slots) is in
    let P : Words → Type 0 = λ t. Planted p t (wants_of r) in
    let planted = subst P (ap (λ (n : Patched). n.text) (sym all.rest)) f.planted in
    record {
      cores = subst (λ (cs : List Core). AreHome p r.machine.cores r.minds cs) cores home;
      slots = λ slot. ap (λ ss. use_at ss slot) slots ∙ free slot;
      memory = ap (λ (n : Patched). n.memory) is ∙ ap (λ (n : Patched). n.memory) all.rest;
      text = released p g.text m.text (wants_of r) planted w;
      retired = subst (λ (cs : List Core). Retired cs r.journal) cores (retired_home p r.machine.cores r.minds g.cores r.journal home f.retired);
      copied = subst (λ (cs : List Core). CopiedOver r.opening.settings.slots cs (seen r)) cores (copied_home p r.opening.settings.slots r.machine.cores r.minds g.cores r.displaced (seen r) home f.copied);
    }
