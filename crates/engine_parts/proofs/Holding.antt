-- The hart for which a patch is lifted, and the end of that.
use Rattle.std.proofs.Common.{◌≡◌, ℕ, zero, suc, ◌<◌, Bool, true, false, cond, List, [], ◌∷◌, length, refl, sym, ap, ◌∙◌, subst, not, arith}
use Rattle.std.specs.Prelude.{Option, Some, None, slice_get, ◌&&◌, ◌||◌, ◌==◌}
use Rattle.std.proofs.lemmas.Bool.Decides.{nat_tests}
use Rattle.std.proofs.lemmas.Option.{slice_get_within}
use Rattle.text_words.specs.Words.{Words, is_planted}
use Rattle.elf32_read.specs.Program.{Program, text_word}
use Rattle.rv_exec.specs.Registers.{Registers}
use Rattle.scratch_slots.specs.declared.slots.SlotUse.{SlotUse}
use Rattle.scratch_slots.specs.Table.{use_at}
use Rattle.mi_commands.specs.declared.command.Displaced.{Displaced}
use Rattle.step_over.specs.declared.phase.Phase.{Phase}
use Rattle.step_over.specs.declared.phase.Phase.TheVariants as phase
use Rattle.hart_machine.specs.declared.hart.Core.{Core}
use Rattle.hart_machine.specs.Copying.{settled_regs}
use Rattle.hart_machine.proofs.Copying.{settled_unrun}
use Rattle.hart_machine.proofs.Places.{same_some}
use Rattle.break_table.specs.Entry.{Entry as BreakEntry}
use Rattle.break_table.specs.Table.{is_wait, stands, stands_at}
use Rattle.std.specs.List.{list_any}
use Rattle.dbg_model.specs.State.{is_off}
use Rattle.dbg_model.proofs.Options.{both_true}
use Rattle.engine_parts.specs.declared.mind.Activity.{Activity}
use Rattle.engine_parts.specs.declared.mind.Activity.TheVariants as activity
use Rattle.engine_parts.specs.declared.mind.Hold.{Hold}
use Rattle.engine_parts.specs.declared.mind.Mind.{Mind}
use Rattle.engine_parts.specs.Minds.{lifted_of, slot_of, entered_of, with_phase}
use Rattle.engine_parts.specs.Seen.{Engine, seen_regs, running_regs, landed_regs}
use Rattle.engine_parts.specs.Facts.{Sound, Planted, InText, AreInText, Wants, called, held_by, is_home, wanted, wants_of, other_holder, pending, OneLifted}
use Rattle.engine_parts.specs.Moves.{Repatched, HeldInText, Released, Frees}
use Rattle.engine_parts.proofs.Built.{rehomed, rephased}
use Rattle.engine_parts.proofs.Updating.{slots_same, slots_freed, differs, equals, none_held, none_some}
use Rattle.engine_parts.proofs.Planting.{replanted, text_shown}
use Rattle.engine_parts.proofs.Keeping.{Mover, StaysSeen, silent, silent_home}
use Rattle.engine_parts.proofs.Stepping.{fact_of, home_text, holds_is, seen_alike, shown_alike}

-- what stands in a list
pub get_within : {A : Type 0} (xs : List A) (h : ℕ) → h < length xs → (x : A) × (slice_get xs h ≡ Some x)
get_within [] h low = absurd (omega arith)
get_within (x ∷ xs) zero low = (x, refl)
get_within (x ∷ xs) (suc h) low = let l : h < length xs = omega arith in get_within xs h l

-- a hart with a mind has a core
pub core_at : (r : Engine) (h : ℕ) (x : Mind) → Sound r → slice_get r.minds h ≡ Some x → (c : Core) × Mover r h c x
core_at r h x f e =
    let low : h < length r.machine.cores = omega (arith, slice_get_within r.minds h x e, f.harts.len) in
    let at = get_within r.machine.cores h low in
    (at.0, record { core = at.1; mind = e })

held_own : (d : Hold) → held_by (Some d) d.hart ≡ Some d.home
held_own d = rw (equals d.hart) refl

held_text_by : (r : Engine) (hold : Option Hold) → r.hold ≡ hold → Sound r → HeldInText r.machine.text hold
held_text_by r None is f = tt
held_text_by r (Some d) is f =
    let low : d.hart < length r.minds = f.harts.holder d is in
    let m = get_within r.minds d.hart low in
    let at = core_at r d.hart m.0 f m.1 in
    let lifted : lifted_of m.0.phase ≡ Some d.home = (fact_of r d.hart at.0 m.0 f at.1).held ∙ (ap (λ (o : Option Hold). held_by o d.hart) is ∙ held_own d) in
    text_shown r.opening.image r.machine.text (wants_of r) d.home f.planted (home_text r d.hart at.0 m.0 d.home f at.1 lifted)

-- the address of a lifted patch is in text
pub held_text : (r : Engine) → Sound r → HeldInText r.machine.text r.hold
held_text r f = held_text_by r r.hold refl f

and_true : (b : Bool) → (b && true) ≡ b
and_true true = refl
and_true false = refl

wanted_none : (v : Wants) (a : ℕ) → wanted (record v { hold = None }) a ≡ called v.entries v.waits a
wanted_none v a = and_true (called v.entries v.waits a)

wanted_elsewhere : (v : Wants) (d : Hold) (b : ℕ) → (d.home ≡ b → ⊥) → wanted (record v { hold = Some d }) b ≡ wanted (record v { hold = None }) b
wanted_elsewhere v d b n = rw (differs d.home b n) refl

released_by : (p : Program) (t t' : Words) (v : Wants) (hold : Option Hold) → Planted p t (record v { hold = hold }) → Released t t' v.entries v.waits hold → Planted p t' (record v { hold = None })
released_by p t t' v None f w = subst (λ (u : Words). Planted p u (record v { hold = None })) (sym w) f
released_by p t t' v (Some d) f w =
    let none : Wants = record v { hold = None } in
    let w' : Repatched t t' d.home (wanted none d.home) = record { words = w.words; here = w.here ∙ sym (wanted_none v d.home); others = w.others } in
    replanted p (record v { hold = Some d }) none t t' d.home f w' (λ b n. wanted_elsewhere v d b n)

-- the text where no patch stays lifted
pub released : (p : Program) (t t' : Words) (v : Wants) → Planted p t v → Released t t' v.entries v.waits v.hold → Planted p t' (record v { hold = None })
released p t t' v f w = released_by p t t' v v.hold f w

unholds_by : (d : Hold) (h k : ℕ) (b : Bool) → (d.hart == h) ≡ b → cond b None (Some d.hart) ≡ None → (h ≡ k → ⊥) → held_by (Some d) k ≡ None
unholds_by d h k true is free n =
    let hart : d.hart ≡ h = grind (arith, nat_tests) in
    rw (differs d.hart k (λ e. n (sym hart ∙ e))) refl
unholds_by d h k false is free n = cc

-- no other hart holds
pub unholds : (hold : Option Hold) (h : ℕ) → other_holder hold h ≡ None → (k : ℕ) → (h ≡ k → ⊥) → held_by hold k ≡ held_by None k
unholds None h free k n = refl
unholds (Some d) h free k n = unholds_by d h k (d.hart == h) refl free n

no_hold_as : (d : Hold) (h : ℕ) (b : Bool) → (d.hart == h) ≡ b → cond b None (Some d.hart) ≡ None → cond b (Some d.home) None ≡ None → Some d ≡ None
no_hold_as d h true is free held = cc
no_hold_as d h false is free held = cc

pub no_hold : (hold : Option Hold) (h : ℕ) → other_holder hold h ≡ None → held_by hold h ≡ None → hold ≡ None
no_hold None h free held = refl
no_hold (Some d) h free held = no_hold_as d h (d.hart == h) refl free held

and_right : (b : Bool) → (b && true) ≡ false → b ≡ false
and_right true e = cc
and_right false e = refl

-- where a hart steps over nothing, and the word at its pc isn't patched, no patch is called for
pub clear_stands : (r : Engine) (h : ℕ) (c : Core) (x : Mind) → Sound r → Mover r h c x → other_holder r.hold h ≡ None → x.phase ≡ phase.Idle → is_planted r.machine.text c.regs.pc ≡ false → called r.breaks r.waits c.regs.pc ≡ false
clear_stands r h c x f m free idle clear =
    let hold : r.hold ≡ None = no_hold r.hold h free (none_held r.hold h x.phase (fact_of r h c x f m).held idle) in
    let off : wanted (record (wants_of r) { hold = None }) c.regs.pc ≡ false = ap (λ (o : Option Hold). wanted (record (wants_of r) { hold = o }) c.regs.pc) (sym hold) ∙ (sym (f.planted.patches c.regs.pc) ∙ clear) in
    and_right (called r.breaks r.waits c.regs.pc) off

-- ---- a hart steps over nothing any more

pub and_off : (b : Bool) → (b && false) ≡ false
and_off true = refl
and_off false = refl

pub idle_pending : (d : Displaced) → pending d phase.Idle ≡ 0
idle_pending d = ap (λ b. cond b 1 0) (and_off (not (is_off d)))

-- its own registers are those that it shows, where it has no slot
own_regs : (p : Program) (r : Registers) (q : Phase) → slot_of q ≡ None → running_regs p r q ≡ r
own_regs p r phase.Idle e = refl
own_regs p r (phase.Copied slot home) e = cc
own_regs p r (phase.Landed slot home) e = cc
own_regs p r (phase.Lifted home) e = refl
own_regs p r (phase.Ran home) e = refl

pub own_seen : (p : Program) (r : Registers) (a : Activity) (q : Phase) → slot_of q ≡ None → seen_regs p r a q ≡ r
own_seen p r activity.Stopped q e = refl
own_seen p r activity.Running q e = own_regs p r q e
own_seen p r activity.Exited q e = refl

pub idle_seen : (p : Program) (r : Registers) (a : Activity) → seen_regs p r a phase.Idle ≡ r
idle_seen p r activity.Stopped = refl
idle_seen p r activity.Running = refl
idle_seen p r activity.Exited = refl

pub unslotted : (q : Phase) → slot_of q ≡ None → entered_of q ≡ None
unslotted phase.Idle e = refl
unslotted (phase.Copied slot home) e = cc
unslotted (phase.Landed slot home) e = cc
unslotted (phase.Lifted home) e = refl
unslotted (phase.Ran home) e = refl

-- a hart without a slot
pub unwinds : (r : Engine) (h : ℕ) (c : Core) (x : Mind) (t : Words) → Sound r → Mover r h c x → slot_of x.phase ≡ None → other_holder r.hold h ≡ None
    → Released r.machine.text t r.breaks r.waits r.hold → StaysSeen r (rephased r h (with_phase x phase.Idle) t None)
unwinds r h c x t f m without free w =
    let p = r.opening.image in
    silent r h c x (with_phase x phase.Idle) t None f m
    (shown_alike p c c x phase.Idle (idle_seen p c.regs x.activity ∙ sym (own_seen p c.regs x.activity x.phase without)))
    (record {
      slots = slots_same p r.machine.cores r.machine.slots r.minds r.hold h x phase.Idle f.harts m.mind (sym without);
      holds = unholds r.hold h free;
      fact = record { placed = tt; entered = (fact_of r h c x f m).entered ∙ unslotted x.phase without; held = refl; idle = λ e. refl };
      holder = λ e is. none_some e is;
    })
    (λ some. let z = idle_pending r.displaced in omega arith)
    (released r.opening.image r.machine.text t (wants_of r) f.planted w)

pub home_copied : (p : Program) (w slot home : ℕ) (r : Registers) → settled_regs w slot home r false ≡ running_regs p r (phase.Copied slot home)
home_copied p w slot home r = settled_unrun w slot home r

pub home_landed : (p : Program) (w slot home : ℕ) (r : Registers) → text_word p home ≡ Some w → settled_regs w slot home r true ≡ running_regs p r (phase.Landed slot home)
home_landed p w slot home r image = ap (λ o. landed_regs o slot home r) (sym image)

-- a hart with a slot comes home, and gives the slot back
pub comes_home : (r : Engine) (h slot word : ℕ) (c d : Core) (x : Mind) (slots : List (Option SlotUse)) → Sound r → Mover r h c x
    → x.activity ≡ activity.Running → slot_of x.phase ≡ Some slot → lifted_of x.phase ≡ None → other_holder r.hold h ≡ None
    → use_at r.machine.slots slot ≡ Some (record { hart = h; word = word }) → Frees r.machine.slots slots slot → d.regs ≡ running_regs r.opening.image c.regs x.phase → d.retired ≡ c.retired → d.copied ≡ c.copied → d.entered ≡ None
    → StaysSeen r (rehomed r h d (with_phase x phase.Idle) r.machine.text slots None)
comes_home r h slot word c d x slots f m runs has lifted free was frees regs retired copied out =
    let p = r.opening.image in
    let x' = with_phase x phase.Idle in
    let hold : r.hold ≡ None = no_hold r.hold h free (sym (fact_of r h c x f m).held ∙ lifted) in
    let seen_now : seen_regs p d.regs x.activity phase.Idle ≡ seen_regs p c.regs x.activity x.phase = seen_alike p d.regs c.regs x.activity phase.Idle x.phase runs regs in
    silent_home r h c d x x' r.machine.text slots None f m (shown_alike p c d x phase.Idle seen_now)
    (record {
      slots = slots_freed p r.machine.cores r.machine.slots slots r.minds r.hold h slot word x phase.Idle f.harts m.mind has was frees.one;
      holds = unholds r.hold h free;
      fact = record { placed = tt; entered = out; held = refl; idle = λ e. refl };
      holder = λ e is. none_some e is;
    })
    frees.len (record { retired = retired; copied = copied; pending = λ some. let z = idle_pending r.displaced in omega arith })
    (subst (λ (o : Option Hold). Planted p r.machine.text (record (wants_of r) { hold = o })) hold f.planted)

stands_in : (p : Program) (b : BreakEntry) (bs : List BreakEntry) (a : ℕ) (t : Bool) → stands_at a b ≡ t → (t || stands a bs) ≡ true → AreInText p (b ∷ bs) → (AreInText p bs → stands a bs ≡ true → InText p a) → InText p a
stands_in p b bs a true is e each ih =
    let at : (b.address == a) ≡ true = (both_true b.enabled (b.address == a) is).1 in
    let there : b.address ≡ a = grind (arith, nat_tests) in
    subst (InText p) there (each 0 b refl)
stands_in p b bs a false is e each ih = ih (λ k d at. each (suc k) d at) e

-- where a breakpoint stands is text
pub stands_text : (p : Program) (bs : List BreakEntry) (a : ℕ) → AreInText p bs → stands a bs ≡ true → InText p a
stands_text p [] a each e = cc
stands_text p (b ∷ bs) a each e = stands_in p b bs a (stands_at a b) refl e each (stands_text p bs a)

text_by : (r : Engine) (a : ℕ) (b : Bool) → Sound r → stands a r.breaks ≡ b → (b || list_any (is_wait a) r.waits) ≡ true → InText r.opening.image a
text_by r a true f is on = stands_text r.opening.image r.breaks a f.texts is
text_by r a false f is on = f.awaits a on

-- where a patch is called for is text
pub called_text : (r : Engine) (a : ℕ) → Sound r → called r.breaks r.waits a ≡ true → InText r.opening.image a
called_text r a f on = text_by r a (stands a r.breaks) f refl on

-- and where one is planted
pub planted_text : (r : Engine) (a : ℕ) → Sound r → is_planted r.machine.text a ≡ true → InText r.opening.image a
planted_text r a f is = called_text r a f (both_true (called r.breaks r.waits a) (not (is_home r.hold a)) (sym (f.planted.patches a) ∙ is)).0

-- the patch is lifted for one hart at most
pub one_lifted : (r : Engine) → Sound r → OneLifted r
one_lifted r f h k x y a b eh ek la lb =
    let ch = core_at r h x f eh in
    let ck = core_at r k y f ek in
    let first = holds_is r h ch.0 x a f ch.1 la in
    let second = holds_is r k ck.0 y b f ck.1 lb in
    let u : Hold = record { hart = h; home = a } in
    let v : Hold = record { hart = k; home = b } in
    ap (λ (d : Hold). d.hart) (same_some u v (sym first ∙ second))
