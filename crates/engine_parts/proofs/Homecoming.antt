-- Harts come home from their slots: one of them, and all.
use Rattle.std.proofs.Common.{◌≡◌, ◌<◌, ℕ, zero, suc, ◌+◌, ◌⊎◌, Bool, true, false, List, [], ◌∷◌, length, refl, sym, ap, ◌∙◌, subst, arith, inl, inr, length-set}
use Rattle.std.specs.Prelude.{Option, Some, None, slice_get, slice_set}
use Rattle.std.proofs.lemmas.Option.{slice_get_within}
use Rattle.elf32_read.specs.Program.{Program}
use Rattle.text_words.specs.Words.{Words}
use Rattle.scratch_slots.specs.declared.slots.SlotUse.{SlotUse}
use Rattle.scratch_slots.specs.Table.{use_at}
use Rattle.step_over.specs.declared.phase.Phase.{Phase}
use Rattle.step_over.specs.declared.phase.Phase.TheVariants as phase
use Rattle.hart_machine.specs.declared.hart.Core.{Core}
use Rattle.hart_machine.specs.Patched.{Patched}
use Rattle.hart_machine.proofs.Places.{same_some, same_place, set_known, get-set_same, get-set_other}
use Rattle.engine_parts.specs.declared.mind.Activity.{Activity}
use Rattle.engine_parts.specs.declared.mind.Activity.TheVariants as activity
use Rattle.engine_parts.specs.declared.mind.Hold.{Hold}
use Rattle.engine_parts.specs.declared.mind.Mind.{Mind}
use Rattle.engine_parts.specs.Minds.{is_active, runs, lifted_of, slot_of, with_phase}
use Rattle.engine_parts.specs.Seen.{Engine, seen_regs, running_regs}
use Rattle.engine_parts.specs.Facts.{Sound, Harts, HasSlot, Placed, other_holder}
use Rattle.engine_parts.specs.Moves.{IsHome, AreHome, Frees, OneSlot, Released}
use Rattle.engine_parts.specs.Homecoming.{Owns, IsSlotted, settled_by, home_core, Leaves, GoesHome, AllGoHome}
use Rattle.engine_parts.proofs.Updating.{AllFree, SlotChange, slots_same, slots_freed}
use Rattle.engine_parts.proofs.Keeping.{Mover, StaysSeen}
use Rattle.engine_parts.proofs.Stepping.{fact_of}
use Rattle.engine_parts.proofs.Holding.{get_within, unslotted, own_seen, home_copied, home_landed, no_hold, unwinds, comes_home}

-- ---- one hart

-- a hart has the slot of its phase
pub slotted_by : (p : Program) (m : Patched) (h : ℕ) (c : Core) (q : Phase) → Placed p m.slots h c q → IsSlotted m h q
slotted_by p m h c phase.Idle a = tt
slotted_by p m h c (phase.Copied slot home) a = record { word = a.0.word; out = a.0.out }
slotted_by p m h c (phase.Landed slot home) a = record { owns = record { word = a.slotted.word; out = a.slotted.out }; decodes = a.decodes }
slotted_by p m h c (phase.Lifted home) a = tt
slotted_by p m h c (phase.Ran home) a = tt

pub is_slotted : (r : Engine) (h : ℕ) (c : Core) (x : Mind) → Sound r → Mover r h c x → IsSlotted r.machine h x.phase
is_slotted r h c x f m = slotted_by r.opening.image r.machine h c x.phase (fact_of r h c x f m).placed

-- what a hart is at home
pub home_is : (p : Program) (slots : List (Option SlotUse)) (h : ℕ) (c : Core) (q : Phase) → Placed p slots h c q → running_regs p c.regs q ≡ (home_core slots c q).regs
home_is p slots h c phase.Idle a = refl
home_is p slots h c (phase.Copied slot home) a =
    sym (home_copied p a.0.word slot home c.regs) ∙ ap (λ o. (settled_by o slot home c false).regs) (sym a.0.out)
home_is p slots h c (phase.Landed slot home) a =
    let s = a.slotted in
    sym (home_landed p s.word slot home c.regs s.image) ∙ ap (λ o. (settled_by o slot home c true).regs) (sym s.out)
home_is p slots h c (phase.Lifted home) a = refl
home_is p slots h c (phase.Ran home) a = refl

kept_counts : (slots : List (Option SlotUse)) (c : Core) (o : Option SlotUse) (slot home : ℕ) (b : Bool) → ((settled_by o slot home c b).retired ≡ c.retired) × ((settled_by o slot home c b).copied ≡ c.copied)
kept_counts slots c None slot home b = (refl, refl)
kept_counts slots c (Some u) slot home b = (refl, refl)

-- its counts stay
pub home_counts : (slots : List (Option SlotUse)) (c : Core) (q : Phase) → ((home_core slots c q).retired ≡ c.retired) × ((home_core slots c q).copied ≡ c.copied)
home_counts slots c phase.Idle = (refl, refl)
home_counts slots c (phase.Copied slot home) = kept_counts slots c (use_at slots slot) slot home false
home_counts slots c (phase.Landed slot home) = kept_counts slots c (use_at slots slot) slot home true
home_counts slots c (phase.Lifted home) = (refl, refl)
home_counts slots c (phase.Ran home) = (refl, refl)

-- a hart with a slot comes home
slot_unwound : (r : Engine) (h slot : ℕ) (c : Core) (x : Mind) (m' : Patched) (t : Words) → Sound r → Mover r h c x → x.activity ≡ activity.Running
    → other_holder r.hold h ≡ None → slot_of x.phase ≡ Some slot → lifted_of x.phase ≡ None → Owns r.machine h slot
    → (home_core r.machine.slots c x.phase).entered ≡ None → Leaves r.machine m' h slot x.phase → Released m'.text t r.breaks r.waits r.hold
    → StaysSeen r (record r { machine = record m' { text = t }; minds = slice_set r.minds h (with_phase x phase.Idle); hold = None })
slot_unwound r h slot c x m' t f m runs free has lifted owns out l w =
    let d = home_core r.machine.slots c x.phase in
    let fact = fact_of r h c x f m in
    let hold : r.hold ≡ None = no_hold r.hold h free (sym fact.held ∙ lifted) in
    let core : l.core ≡ c = same_some l.core c (sym l.at ∙ m.core) in
    let counts = home_counts r.machine.slots c x.phase in
    let done = comes_home r h slot owns.word c d x m'.slots f m runs has lifted free owns.out l.frees (sym (home_is r.opening.image r.machine.slots h c x.phase fact.placed)) counts.0 counts.1 out in
    let same : m' ≡ record r.machine { cores = slice_set r.machine.cores h d; slots = m'.slots } = l.machine ∙ ap
    (λ e. record r.machine { cores = slice_set r.machine.cores h (home_core r.machine.slots e x.phase); slots = m'.slots }) core in
    let text : t ≡ r.machine.text = subst (λ (o : Option Hold). Released m'.text t r.breaks r.waits o) hold w ∙ ap (λ (n : Patched). n.text) same in
    let P : Patched → Type 0 = λ n. StaysSeen r (record r { machine = n; minds = slice_set r.minds h (with_phase x phase.Idle); hold = None }) in
    let whole : record r.machine { cores = slice_set r.machine.cores h d; slots = m'.slots } ≡ record m' { text = t } =
    ap (λ (u : Words). let n : Patched = record { text = u; cores = slice_set r.machine.cores h d; memory = r.machine.memory; slots = m'.slots } in n) (sym text)
    ∙ ap (λ (n : Patched). let k : Patched = record { text = t; cores = n.cores; memory = n.memory; slots = m'.slots } in k) (sym same) in
    subst P whole done

-- a hart without a slot
text_unwound : (r : Engine) (h : ℕ) (c : Core) (x : Mind) (m' : Patched) (t : Words) → Sound r → Mover r h c x → other_holder r.hold h ≡ None → slot_of x.phase ≡ None → m' ≡ r.machine → Released m'.text t r.breaks r.waits r.hold
    → StaysSeen r (record r { machine = record m' { text = t }; minds = slice_set r.minds h (with_phase x phase.Idle); hold = None })
text_unwound r h c x m' t f m free without same w =
    let w' : Released r.machine.text t r.breaks r.waits r.hold = subst (λ (n : Patched). Released n.text t r.breaks r.waits r.hold) same w in
    let P : Patched → Type 0 = λ n. StaysSeen r (record r { machine = record n { text = t }; minds = slice_set r.minds h (with_phase x phase.Idle); hold = None }) in
    subst P (sym same) (unwinds r h c x t f m without free w')

settled_out : (slots : List (Option SlotUse)) (c : Core) (o : Option SlotUse) (slot home : ℕ) (b : Bool) (u : SlotUse) → o ≡ Some u → (settled_by o slot home c b).entered ≡ None
settled_out slots c None slot home b u e = cc
settled_out slots c (Some v) slot home b u e = refl

unwound_by : (r : Engine) (h : ℕ) (c : Core) (x : Mind) (m' : Patched) (t : Words) (q : Phase) → x.phase ≡ q → Sound r → Mover r h c x
    → x.activity ≡ activity.Running → other_holder r.hold h ≡ None → IsSlotted r.machine h q → GoesHome r.machine m' h q → Released m'.text t r.breaks r.waits r.hold
    → StaysSeen r (record r { machine = record m' { text = t }; minds = slice_set r.minds h (with_phase x phase.Idle); hold = None })
unwound_by r h c x m' t phase.Idle is f m runs free own g w = text_unwound r h c x m' t f m free (ap slot_of is) g w
unwound_by r h c x m' t (phase.Copied slot home) is f m runs free own g w =
    let out : (home_core r.machine.slots c x.phase).entered ≡ None = ap (λ q. (home_core r.machine.slots c q).entered) is ∙ settled_out
    r.machine.slots c (use_at r.machine.slots slot) slot home false (record { hart = h; word = own.word }) own.out in
    slot_unwound r h slot c x m' t f m runs free (ap slot_of is) (ap lifted_of is) own out (subst (λ q. Leaves r.machine m' h slot q) (sym is) g) w
unwound_by r h c x m' t (phase.Landed slot home) is f m runs free own g w =
    let out : (home_core r.machine.slots c x.phase).entered ≡ None = ap (λ q. (home_core r.machine.slots c q).entered) is ∙ settled_out
    r.machine.slots c (use_at r.machine.slots slot) slot home true (record { hart = h; word = own.owns.word }) own.owns.out in
    slot_unwound r h slot c x m' t f m runs free (ap slot_of is) (ap lifted_of is) own.owns out (subst (λ q. Leaves r.machine m' h slot q) (sym is) g) w
unwound_by r h c x m' t (phase.Lifted home) is f m runs free own g w = text_unwound r h c x m' t f m free (ap slot_of is) g w
unwound_by r h c x m' t (phase.Ran home) is f m runs free own g w = text_unwound r h c x m' t f m free (ap slot_of is) g w

-- a running hart steps over nothing any more
pub unwound : (r : Engine) (h : ℕ) (c : Core) (x : Mind) (m' : Patched) (t : Words) → Sound r → Mover r h c x → x.activity ≡ activity.Running
    → other_holder r.hold h ≡ None → GoesHome r.machine m' h x.phase → Released m'.text t r.breaks r.waits r.hold
    → StaysSeen r (record r { machine = record m' { text = t }; minds = slice_set r.minds h (with_phase x phase.Idle); hold = None })
unwound r h c x m' t f m runs free g w = unwound_by r h c x m' t x.phase refl f m runs free (is_slotted r h c x f m) g w

-- ---- all harts

-- a slot of another hart stays
kept_by : (old new : Patched) (h k slot s : ℕ) → Owns old h slot → Owns old k s → (h ≡ k → ⊥) → Frees old.slots new.slots slot → (slot ≡ s) ⊎ (slot ≡ s → ⊥) → use_at new.slots s ≡ use_at old.slots s
kept_by old new h k slot s own other n frees (inl e) =
    let a : SlotUse = record { hart = h; word = own.word } in
    let b : SlotUse = record { hart = k; word = other.word } in
    absurd (n (ap (λ (u : SlotUse). u.hart) (same_some a b (sym own.out ∙ (ap (use_at old.slots) e ∙ other.out)))))
kept_by old new h k slot s own other n frees (inr apart) = frees.one.others s apart

kept_use : (old new : Patched) (h k s : ℕ) (q : Phase) → IsSlotted old h q → GoesHome old new h q → (h ≡ k → ⊥) → Owns old k s → use_at new.slots s ≡ use_at old.slots s
kept_use old new h k s phase.Idle own g n other = ap (λ (m : Patched). use_at m.slots s) g
kept_use old new h k s (phase.Copied slot home) own g n other = kept_by old new h k slot s own other n g.frees (same_place slot s)
kept_use old new h k s (phase.Landed slot home) own g n other = kept_by old new h k slot s own.owns other n g.frees (same_place slot s)
kept_use old new h k s (phase.Lifted home) own g n other = ap (λ (m : Patched). use_at m.slots s) g
kept_use old new h k s (phase.Ran home) own g n other = ap (λ (m : Patched). use_at m.slots s) g

-- so it has its slot still
pub still_slotted : (old new : Patched) (h k : ℕ) (q q' : Phase) → IsSlotted old h q → GoesHome old new h q → (h ≡ k → ⊥) → IsSlotted old k q' → IsSlotted new k q'
still_slotted old new h k q phase.Idle own g n other = tt
still_slotted old new h k q (phase.Copied slot home) own g n other = record { word = other.word; out = kept_use old new h k slot q own g n other ∙ other.out }
still_slotted old new h k q (phase.Landed slot home) own g n other =
    record { owns = record { word = other.owns.word; out = kept_use old new h k slot q own g n other.owns ∙ other.owns.out }; decodes = other.decodes }
still_slotted old new h k q (phase.Lifted home) own g n other = tt
still_slotted old new h k q (phase.Ran home) own g n other = tt

-- and comes home alike
same_home : (old new : Patched) (h k : ℕ) (q q' : Phase) (c : Core) → IsSlotted old h q → GoesHome old new h q → (h ≡ k → ⊥) → IsSlotted old k q' → home_core new.slots c q' ≡ home_core old.slots c q'
same_home old new h k q phase.Idle c own g n other = refl
same_home old new h k q (phase.Copied slot home) c own g n other = ap (λ o. settled_by o slot home c false) (kept_use old new h k slot q own g n other)
same_home old new h k q (phase.Landed slot home) c own g n other = ap (λ o. settled_by o slot home c true) (kept_use old new h k slot q own g n other.owns)
same_home old new h k q (phase.Lifted home) c own g n other = refl
same_home old new h k q (phase.Ran home) c own g n other = refl

-- what one hart's coming home does to the others and to itself
pub record OneHome (old new : Patched) (h : ℕ) (q : Phase) : Type 0 where
  pub len : length new.cores ≡ length old.cores
  pub slots_len : length new.slots ≡ length old.slots
  pub others : (j : ℕ) → (h ≡ j → ⊥) → slice_get new.cores j ≡ slice_get old.cores j
  pub own : (c : Core) → slice_get old.cores h ≡ Some c → slice_get new.cores h ≡ Some (home_core old.slots c q)
  pub out : (slot : ℕ) (u : SlotUse) → use_at new.slots slot ≡ Some u → (use_at old.slots slot ≡ Some u) × (slot_of q ≡ Some slot → ⊥)
  pub rest : new ≡ record old { cores = new.cores; slots = new.slots }

none_slot : {A : Type 0} (slot : ℕ) → None ≡ Some slot → A
none_slot slot e = cc

none_use : {A : Type 0} (u : SlotUse) → None ≡ Some u → A
none_use u e = cc

stays_home : (old new : Patched) (h : ℕ) (q : Phase) → slot_of q ≡ None → ((c : Core) → home_core old.slots c q ≡ c) → new ≡ old → OneHome old new h q
stays_home old new h q without same g =
    record {
      len = ap (λ (m : Patched). length m.cores) g;
      slots_len = ap (λ (m : Patched). length m.slots) g;
      others = λ j n. ap (λ (m : Patched). slice_get m.cores j) g;
      own = λ c at. ap (λ (m : Patched). slice_get m.cores h) g ∙ (at ∙ ap Some (sym (same c)));
      out = λ slot u e. (ap (λ (m : Patched). use_at m.slots slot) (sym g) ∙ e, λ has. none_slot slot (sym without ∙ has));
      rest = g ∙ ap (λ (m : Patched). let k : Patched = record old { cores = m.cores; slots = m.slots } in k) (sym g);
    }

out_by : (old new : List (Option SlotUse)) (slot s : ℕ) (u : SlotUse) → OneSlot old new slot None → use_at new s ≡ Some u → (slot ≡ s) ⊎ (slot ≡ s → ⊥) → (use_at old s ≡ Some u) × (Some slot ≡ Some s → ⊥)
out_by old new slot s u one e (inl is) = none_use u (sym one.here ∙ (ap (use_at new) is ∙ e))
out_by old new slot s u one e (inr n) = (sym (one.others s n) ∙ e, λ same. n (same_some slot s same))

leaves_home : (old new : Patched) (h slot : ℕ) (q : Phase) → slot_of q ≡ Some slot → Leaves old new h slot q → OneHome old new h q
leaves_home old new h slot q has g =
    let d = home_core old.slots g.core q in
    let cores : new.cores ≡ slice_set old.cores h d = ap (λ (m : Patched). m.cores) g.machine in
    record {
      len = ap (λ (cs : List Core). length cs) cores ∙ length-set old.cores h d;
      slots_len = g.frees.len;
      others = λ j n. ap (λ (cs : List Core). slice_get cs j) cores ∙ get-set_other old.cores h j d n;
      own = λ c at. ap (λ (cs : List Core). slice_get cs h) cores ∙ (get-set_same old.cores h d g.core g.at ∙ ap (λ e. Some (home_core old.slots e q)) (same_some g.core c (sym g.at ∙ at)));
      out = λ s u e. let o = out_by old.slots new.slots slot s u g.frees.one e (same_place slot s) in (o.0, λ same. o.1 (sym has ∙ same));
      rest = g.machine ∙ ap (λ (cs : List Core). let k : Patched = record old { cores = cs; slots = new.slots } in k) (sym cores);
    }

one_home : (old new : Patched) (h : ℕ) (q : Phase) → GoesHome old new h q → OneHome old new h q
one_home old new h phase.Idle g = stays_home old new h phase.Idle refl (λ c. refl) g
one_home old new h (phase.Copied slot home) g = leaves_home old new h slot (phase.Copied slot home) refl g
one_home old new h (phase.Landed slot home) g = leaves_home old new h slot (phase.Landed slot home) refl g
one_home old new h (phase.Lifted home) g = stays_home old new h (phase.Lifted home) refl (λ c. refl) g
one_home old new h (phase.Ran home) g = stays_home old new h (phase.Ran home) refl (λ c. refl) g

no_mind : {A : Type 0} (j : ℕ) (x : Mind) → slice_get [] j ≡ Some x → A
no_mind zero x e = cc
no_mind (suc j) x e = cc

-- no hart is left
pub all_home_none : (m : Patched) (h : ℕ) → AllGoHome m m h []
all_home_none m h = record { len = refl; before = λ j low. refl; home = λ j c x a b. no_mind j x b; out = λ slot u e. (e, λ j x b is has. no_mind j x b); slots_len = refl; rest = refl }

home_next : (old mid new : Patched) (h : ℕ) (x : Mind) (xs : List Mind) → IsSlotted old h x.phase → GoesHome old mid h x.phase
    → ((j : ℕ) (y : Mind) → slice_get (x ∷ xs) j ≡ Some y → IsSlotted old (h + j) y.phase) → AllGoHome mid new (h + 1) xs
    → (j : ℕ) (c : Core) (y : Mind) → slice_get old.cores (h + j) ≡ Some c → slice_get (x ∷ xs) j ≡ Some y → slice_get new.cores (h + j) ≡ Some (home_core old.slots c y.phase)
home_next old mid new h x xs own g each rec zero c y at is =
    let o = one_home old mid h x.phase g in
    let here : h + 0 ≡ h = omega arith in
    let low : h < h + 1 = omega arith in
    let at' : slice_get old.cores h ≡ Some c = ap (slice_get old.cores) (sym here) ∙ at in
    ap (slice_get new.cores) here ∙ (rec.before h low ∙ (o.own c at' ∙ ap (λ (z : Mind). Some (home_core old.slots c z.phase)) (same_some x y is)))
home_next old mid new h x xs own g each rec (suc j) c y at is =
    let o = one_home old mid h x.phase g in
    let there : h + suc j ≡ (h + 1) + j = omega arith in
    let apart : h ≡ h + suc j → ⊥ = λ e. absurd (omega arith) in
    let at' : slice_get mid.cores ((h + 1) + j) ≡ Some c = ap (slice_get mid.cores) (sym there) ∙ (o.others (h + suc j) apart ∙ at) in
    ap (slice_get new.cores) there ∙ (rec.home j c y at' is ∙ ap Some (same_home old mid h (h + suc j) x.phase y.phase c own g apart (each (suc j) y is)))

out_next : (old mid new : Patched) (h : ℕ) (x : Mind) (xs : List Mind) (slot : ℕ) (u : SlotUse) → OneHome old mid h x.phase
    → AllGoHome mid new (h + 1) xs → use_at new.slots slot ≡ Some u → (j : ℕ) (y : Mind) → slice_get (x ∷ xs) j ≡ Some y → u.hart ≡ h + j → slot_of y.phase ≡ Some slot → ⊥
out_next old mid new h x xs slot u o rec e zero y is at has = (o.out slot u (rec.out slot u e).0).1 (ap (λ (z : Mind). slot_of z.phase) (same_some x y is) ∙ has)
out_next old mid new h x xs slot u o rec e (suc j) y is at has = let there : u.hart ≡ (h + 1) + j = omega (arith, at) in (rec.out slot u e).1 j y is there has

-- one hart came home, and then the others of the list
pub all_home_next : (old mid new : Patched) (h : ℕ) (x : Mind) (xs : List Mind) → GoesHome old mid h x.phase
    → ((j : ℕ) (y : Mind) → slice_get (x ∷ xs) j ≡ Some y → IsSlotted old (h + j) y.phase) → AllGoHome mid new (h + 1) xs → AllGoHome old new h (x ∷ xs)
all_home_next old mid new h x xs g each rec =
    let o = one_home old mid h x.phase g in
    let none : h + 0 ≡ h = omega arith in
    let own : IsSlotted old h x.phase = subst (λ (k : ℕ). IsSlotted old k x.phase) none (each 0 x refl) in
    record {
      len = rec.len ∙ o.len;
      before = λ j low. let less : j < h + 1 = omega arith in rec.before j less ∙ o.others j (λ e. absurd (omega arith));
      home = λ j c y at is. home_next old mid new h x xs own g each rec j c y at is;
      out = λ slot u e. ((o.out slot u (rec.out slot u e).0).0, λ j y is at has. out_next old mid new h x xs slot u o rec e j y is at has);
      slots_len = rec.slots_len ∙ o.slots_len;
      rest = rec.rest ∙ ap (λ (m : Patched). let k : Patched = record m { cores = new.cores; slots = new.slots } in k) o.rest;
    }

-- the others of the list have their slots still
pub rest_slotted : (old mid : Patched) (h : ℕ) (x : Mind) (xs : List Mind) → GoesHome old mid h x.phase
    → ((j : ℕ) (y : Mind) → slice_get (x ∷ xs) j ≡ Some y → IsSlotted old (h + j) y.phase) → (j : ℕ) (y : Mind) → slice_get xs j ≡ Some y → IsSlotted mid ((h + 1) + j) y.phase
rest_slotted old mid h x xs g each j y is =
    let none : h + 0 ≡ h = omega arith in
    let own : IsSlotted old h x.phase = subst (λ (k : ℕ). IsSlotted old k x.phase) none (each 0 x refl) in
    let there : h + suc j ≡ (h + 1) + j = omega arith in
    let apart : h ≡ h + suc j → ⊥ = λ e. absurd (omega arith) in
    subst (λ (k : ℕ). IsSlotted mid k y.phase) there (still_slotted old mid h (h + suc j) x.phase y.phase own g apart (each (suc j) y is))

-- ---- what is known of harts that all came home

-- lists with the same at each place
are_home : (p : Program) (cs : List Core) (xs : List Mind) (ds : List Core) → length cs ≡ length xs → length ds ≡ length cs
    → ((j : ℕ) (c : Core) (x : Mind) (d : Core) → slice_get cs j ≡ Some c → slice_get xs j ≡ Some x → slice_get ds j ≡ Some d → IsHome p c x d) → AreHome p cs xs ds
are_home p [] xs [] a b each = tt
are_home p [] xs (d ∷ ds) a b each = absurd (omega arith)
are_home p (c ∷ cs) xs [] a b each = absurd (omega arith)
are_home p (c ∷ cs) [] (d ∷ ds) a b each = absurd (omega arith)
are_home p (c ∷ cs) (x ∷ xs) (d ∷ ds) a b each =
    let la : length cs ≡ length xs = omega arith in
    let lb : length ds ≡ length cs = omega arith in
    (each 0 c x d refl refl refl, are_home p cs xs ds la lb (λ j e y f u v w. each (suc j) e y f u v w))

-- a hart that shows its registers at home, and has its slot
pub record Ready (p : Program) (slots : List (Option SlotUse)) (h : ℕ) (c : Core) (x : Mind) : Type 0 where
  pub placed : Placed p slots h c x.phase
  pub out : slot_of x.phase ≡ None → c.entered ≡ None
  pub idle : x.activity ≡ activity.Running ⊎ (x.phase ≡ phase.Idle)

ready_regs : (p : Program) (slots : List (Option SlotUse)) (h : ℕ) (c : Core) (x : Mind) (i : x.activity ≡ activity.Running ⊎ (x.phase ≡ phase.Idle))
    → Placed p slots h c x.phase → (home_core slots c x.phase).regs ≡ seen_regs p c.regs x.activity x.phase
ready_regs p slots h c x (inl runs) a = sym (home_is p slots h c x.phase a) ∙ ap (λ t. seen_regs p c.regs t x.phase) (sym runs)
ready_regs p slots h c x (inr idle) a = ap (λ q. (home_core slots c q).regs) idle ∙ sym (own_seen p c.regs x.activity x.phase (ap slot_of idle))

pub home_out : (p : Program) (slots : List (Option SlotUse)) (h : ℕ) (c : Core) (q : Phase) → Placed p slots h c q → (slot_of q ≡ None → c.entered ≡ None) → (home_core slots c q).entered ≡ None
home_out p slots h c phase.Idle a e = e refl
home_out p slots h c (phase.Copied slot home) a e = settled_out slots c (use_at slots slot) slot home false (record { hart = h; word = a.0.word }) a.0.out
home_out p slots h c (phase.Landed slot home) a e = settled_out slots c (use_at slots slot) slot home true (record { hart = h; word = a.slotted.word }) a.slotted.out
home_out p slots h c (phase.Lifted home) a e = e refl
home_out p slots h c (phase.Ran home) a e = e refl

ready_home : (p : Program) (slots : List (Option SlotUse)) (h : ℕ) (c : Core) (x : Mind) → Ready p slots h c x → IsHome p c x (home_core slots c x.phase)
ready_home p slots h c x r =
    let counts = home_counts slots c x.phase in
    record { regs = ready_regs p slots h c x r.idle r.placed; retired = counts.0; copied = counts.1; entered = home_out p slots h c x.phase r.placed r.out }

-- all harts of a machine that came home
pub all_are_home : (p : Program) (old new : Patched) (xs : List Mind) → length old.cores ≡ length xs
    → ((h : ℕ) (c : Core) (x : Mind) → slice_get old.cores h ≡ Some c → slice_get xs h ≡ Some x → Ready p old.slots h c x) → AllGoHome old new 0 xs
    → AreHome p old.cores xs new.cores
all_are_home p old new xs len ready all =
    are_home p old.cores xs new.cores len all.len
    (λ j c x d ec ex ed.
    let none : 0 + j ≡ j = omega arith in
    let at : slice_get old.cores (0 + j) ≡ Some c = ap (slice_get old.cores) none ∙ ec in
    let now : slice_get new.cores j ≡ Some (home_core old.slots c x.phase) = ap (slice_get new.cores) (sym none) ∙ all.home j c x at ex in
    subst (λ (e : Core). IsHome p c x e) (same_some (home_core old.slots c x.phase) d (sym now ∙ ed)) (ready_home p old.slots j c x (ready j c x ec ex)))

free_by : (old new : Patched) (xs : List Mind) (slot : ℕ) (o : Option SlotUse) → use_at new.slots slot ≡ o → ((s : ℕ) (u : SlotUse) → use_at old.slots s ≡ Some u → HasSlot xs u.hart s) → AllGoHome old new 0 xs → o ≡ None
free_by old new xs slot None e used all = refl
free_by old new xs slot (Some u) e used all =
    let a = all.out slot u e in
    let has = used slot u a.0 in
    let none : u.hart ≡ 0 + u.hart = omega arith in
    absurd (a.1 u.hart has.mind has.at none has.has)

-- no slot is out then
pub all_are_free : (old new : Patched) (xs : List Mind) → ((s : ℕ) (u : SlotUse) → use_at old.slots s ≡ Some u → HasSlot xs u.hart s) → AllGoHome old new 0 xs → AllFree new.slots
all_are_free old new xs used all slot = free_by old new xs slot (use_at new.slots slot) refl used all

-- a hart that comes home as it is
stays_known : (old new : Patched) (h : ℕ) (c : Core) → slice_get old.cores h ≡ Some c → new ≡ old → new.cores ≡ slice_set old.cores h c
stays_known old new h c at g = ap (λ (m : Patched). m.cores) g ∙ sym (set_known old.cores h c at)

leaves_known : (old new : Patched) (h slot : ℕ) (c : Core) (q : Phase) → slice_get old.cores h ≡ Some c → Leaves old new h slot q → new.cores ≡ slice_set old.cores h (home_core old.slots c q)
leaves_known old new h slot c q at g = ap (λ (m : Patched). m.cores) g.machine ∙ ap (λ e. slice_set old.cores h (home_core old.slots e q)) (same_some g.core c (sym g.at ∙ at))

-- the harts after one came home
pub home_known : (old new : Patched) (h : ℕ) (c : Core) (q : Phase) → slice_get old.cores h ≡ Some c → GoesHome old new h q → new.cores ≡ slice_set old.cores h (home_core old.slots c q)
home_known old new h c phase.Idle at g = stays_known old new h c at g
home_known old new h c (phase.Copied slot home) at g = leaves_known old new h slot c (phase.Copied slot home) at g
home_known old new h c (phase.Landed slot home) at g = leaves_known old new h slot c (phase.Landed slot home) at g
home_known old new h c (phase.Lifted home) at g = stays_known old new h c at g
home_known old new h c (phase.Ran home) at g = stays_known old new h c at g

-- the slots after a hart came home
pub home_slots : (p : Program) (cs : List Core) (old new : Patched) (xs : List Mind) (hold : Option Hold) (h : ℕ) (x : Mind) (q : Phase)
    → Harts p cs old.slots xs hold → slice_get xs h ≡ Some x → slot_of q ≡ slot_of x.phase → IsSlotted old h q → GoesHome old new h q
    → SlotChange old.slots new.slots h phase.Idle
home_slots p cs old new xs hold h x phase.Idle hs f alike own g =
    subst (λ (m : Patched). SlotChange old.slots m.slots h phase.Idle) (sym g) (slots_same p cs old.slots xs hold h x phase.Idle hs f alike)
home_slots p cs old new xs hold h x (phase.Copied slot home) hs f alike own g = slots_freed p cs old.slots new.slots xs hold h slot own.word x phase.Idle hs f (sym alike) own.out g.frees.one
home_slots p cs old new xs hold h x (phase.Landed slot home) hs f alike own g = slots_freed p cs old.slots new.slots xs hold h slot own.owns.word x phase.Idle hs f (sym alike) own.owns.out g.frees.one
home_slots p cs old new xs hold h x (phase.Lifted home) hs f alike own g =
    subst (λ (m : Patched). SlotChange old.slots m.slots h phase.Idle) (sym g) (slots_same p cs old.slots xs hold h x phase.Idle hs f alike)
home_slots p cs old new xs hold h x (phase.Ran home) hs f alike own g =
    subst (λ (m : Patched). SlotChange old.slots m.slots h phase.Idle) (sym g) (slots_same p cs old.slots xs hold h x phase.Idle hs f alike)

-- what else a hart that comes home leaves as it is
pub home_rest : (old new : Patched) (h : ℕ) (q : Phase) → GoesHome old new h q → OneHome old new h q
home_rest old new h q g = one_home old new h q g

running_or_idle : (x : Mind) (a : Activity) → x.activity ≡ a → (runs x ≡ false → x.phase ≡ phase.Idle) → x.activity ≡ activity.Running ⊎ (x.phase ≡ phase.Idle)
running_or_idle x activity.Stopped is idle = inr (idle (ap is_active is))
running_or_idle x activity.Running is idle = inl is
running_or_idle x activity.Exited is idle = inr (idle (ap is_active is))

-- each hart of which the facts are known can come home
pub all_ready : (p : Program) (cs : List Core) (slots : List (Option SlotUse)) (xs : List Mind) (hold : Option Hold) → Harts p cs slots xs hold
    → (h : ℕ) (c : Core) (x : Mind) → slice_get cs h ≡ Some c → slice_get xs h ≡ Some x → Ready p slots h c x
all_ready p cs slots xs hold hs h c x ec ex =
    let f = hs.each h c x ec ex in
    record { placed = f.placed; out = λ e. f.entered ∙ unslotted x.phase e; idle = running_or_idle x x.activity refl f.idle }

-- and has the slot of its phase
pub all_slotted : (p : Program) (m : Patched) (xs : List Mind) (hold : Option Hold) → Harts p m.cores m.slots xs hold → (j : ℕ) (x : Mind) → slice_get xs j ≡ Some x → IsSlotted m j x.phase
all_slotted p m xs hold hs j x ex =
    let low : j < length m.cores = omega (arith, slice_get_within xs j x ex, hs.len) in
    let c = get_within m.cores j low in
    slotted_by p m j c.0 x.phase (hs.each j c.0 x c.1 ex).placed
