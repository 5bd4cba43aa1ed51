-- One hart changes.
use Rattle.std.proofs.Common.{◌≡◌, ℕ, zero, suc, ◌<◌, Bool, true, false, cond, List, [], ◌∷◌, length, refl, sym, ap, ◌∙◌, subst, arith, inl, inr, length-set}
use Rattle.std.specs.Prelude.{Option, Some, None, slice_get, slice_set, map, ◌⊎◌, ◌==◌}
use Rattle.std.proofs.lemmas.Bool.Decides.{nat_tests}
use Rattle.std.proofs.lemmas.List.{length-map}
use Rattle.std.proofs.lemmas.Option.{slice_get_within}
use Rattle.elf32_read.specs.Program.{Program}
use Rattle.scratch_slots.specs.declared.slots.SlotUse.{SlotUse}
use Rattle.scratch_slots.specs.Table.{use_at}
use Rattle.step_over.specs.declared.phase.Phase.{Phase}
use Rattle.step_over.specs.declared.phase.Phase.TheVariants as phase
use Rattle.hart_machine.specs.declared.hart.Core.{Core}
use Rattle.hart_machine.proofs.Places.{same_some, same_place, set_known, at_set, get-set_same, get-set_other}
use Rattle.engine_parts.specs.declared.mind.Hold.{Hold}
use Rattle.engine_parts.specs.declared.mind.Mind.{Mind}
use Rattle.engine_parts.specs.Minds.{gone_mind, lifted_of, slot_of, entered_of}
use Rattle.engine_parts.specs.Facts.{HartFact, Harts, HasSlot, Slotted, Placed, held_by}
use Rattle.engine_parts.specs.Moves.{IsHome, AreHome, OneSlot}

-- the slots of the others stay; what is out is another's as before, or hart h's own by its phase
pub record SlotChange (old new : List (Option SlotUse)) (h : ℕ) (q : Phase) : Type 0 where
  pub kept : (slot : ℕ) (u : SlotUse) → use_at old slot ≡ Some u → (h ≡ u.hart → ⊥) → use_at new slot ≡ Some u
  pub out : (slot : ℕ) (u : SlotUse) → use_at new slot ≡ Some u → ((h ≡ u.hart → ⊥) × (use_at old slot ≡ Some u)) ⊎ ((h ≡ u.hart) × (slot_of q ≡ Some slot))

-- hart h changes, or the slots or the hold do
pub record Changes (p : Program) (old new : List (Option SlotUse)) (hold hold' : Option Hold) (h : ℕ) (c : Core) (x : Mind) : Type 0 where
  pub slots : SlotChange old new h x.phase
  pub holds : (k : ℕ) → (h ≡ k → ⊥) → held_by hold k ≡ held_by hold' k
  pub fact : HartFact p new hold' h c x
  pub holder : (d : Hold) → hold' ≡ Some d → (hold ≡ Some d) ⊎ (h ≡ d.hart)

abbrev slotted_kept : (p : Program) (old new : List (Option SlotUse)) (h k slot home : ℕ) (q : Phase) → SlotChange old new h q → (h ≡ k → ⊥) → Slotted p old k slot home → Slotted p new k slot home
slotted_kept p old new h k slot home q ch n s =
    record { word = s.word; out = ch.kept slot (record { hart = k; word = s.word }) s.out n; image = s.image; at_slot = s.at_slot; at_home = s.at_home }

placed_kept : (p : Program) (old new : List (Option SlotUse)) (h k : ℕ) (d : Core) (q' q : Phase) → SlotChange old new h q' → (h ≡ k → ⊥) → Placed p old k d q → Placed p new k d q
placed_kept p old new h k d q' phase.Idle ch n a = tt
placed_kept p old new h k d q' (phase.Copied slot home) ch n a = (slotted_kept p old new h k slot home q' ch n a.0, a.1)
placed_kept p old new h k d q' (phase.Landed slot home) ch n a = record { slotted = slotted_kept p old new h k slot home q' ch n a.slotted; decodes = a.decodes }
placed_kept p old new h k d q' (phase.Lifted home) ch n a = a
placed_kept p old new h k d q' (phase.Ran home) ch n a = a

each_updated : (p : Program) (cs : List Core) (old new : List (Option SlotUse)) (xs : List Mind) (hold hold' : Option Hold) (h : ℕ) (c' : Core) (x' : Mind) → Harts p cs old xs hold → Changes p old new hold hold' h c' x'
    → (k : ℕ) (d : Core) (y : Mind) → ((h ≡ k) × (c' ≡ d)) ⊎ ((h ≡ k → ⊥) × (slice_get cs k ≡ Some d)) → ((h ≡ k) × (x' ≡ y)) ⊎ ((h ≡ k → ⊥) × (slice_get xs k ≡ Some y)) → HartFact p new hold' k d y
each_updated p cs old new xs hold hold' h c' x' hs ch k d y (inl a) (inl b) =
    let P : ℕ → Type 0 = λ k. HartFact p new hold' k d y in
    let Q : Core → Type 0 = λ d. HartFact p new hold' h d y in
    let R : Mind → Type 0 = λ y. HartFact p new hold' h c' y in
    subst P a.0 (subst Q a.1 (subst R b.1 ch.fact))
each_updated p cs old new xs hold hold' h c' x' hs ch k d y (inl a) (inr b) = absurd (b.0 a.0)
each_updated p cs old new xs hold hold' h c' x' hs ch k d y (inr a) (inl b) = absurd (a.0 b.0)
each_updated p cs old new xs hold hold' h c' x' hs ch k d y (inr a) (inr b) =
    let f = hs.each k d y a.1 b.1 in
    record { placed = placed_kept p old new h k d x'.phase y.phase ch.slots a.0 f.placed; entered = f.entered; held = f.held ∙ ch.holds k a.0; idle = f.idle }

holder_updated : (xs : List Mind) (h : ℕ) (x x' : Mind) (hold : Option Hold) (d : Hold) → slice_get xs h ≡ Some x → ((d : Hold) → hold ≡ Some d → d.hart < length xs) → (hold ≡ Some d) ⊎ (h ≡ d.hart) → d.hart < length (slice_set xs h x')
holder_updated xs h x x' hold d f holder (inl e) = simp length-set (holder d e)
holder_updated xs h x x' hold d f holder (inr e) = simp length-set (subst (λ (k : ℕ). k < length xs) e (slice_get_within xs h x f))

used_updated : (p : Program) (cs : List Core) (old : List (Option SlotUse)) (xs : List Mind) (hold : Option Hold) (h : ℕ) (x x' : Mind) (slot : ℕ) (u : SlotUse) → Harts p cs old xs hold → slice_get xs h ≡ Some x
    → ((h ≡ u.hart → ⊥) × (use_at old slot ≡ Some u)) ⊎ ((h ≡ u.hart) × (slot_of x'.phase ≡ Some slot)) → HasSlot (slice_set xs h x') u.hart slot
used_updated p cs old xs hold h x x' slot u hs f (inl a) =
    let had = hs.used slot u a.1 in
    record { mind = had.mind; at = get-set_other xs h u.hart x' a.0 ∙ had.at; has = had.has }
used_updated p cs old xs hold h x x' slot u hs f (inr b) =
    let P : ℕ → Type 0 = λ k. HasSlot (slice_set xs h x') k slot in
    subst P b.0 (record { mind = x'; at = get-set_same xs h x' x f; has = b.1 })

pub updated : (p : Program) (cs : List Core) (old new : List (Option SlotUse)) (xs : List Mind) (hold hold' : Option Hold) (h : ℕ) (c' : Core)
    (x x' : Mind) → Harts p cs old xs hold → slice_get xs h ≡ Some x → Changes p old new hold hold' h c' x'
    → Harts p (slice_set cs h c') new (slice_set xs h x') hold'
updated p cs old new xs hold hold' h c' x x' hs f ch =
    record {
      len = simp length-set hs.len;
      each = λ k d y dk yk. each_updated p cs old new xs hold hold' h c' x' hs ch k d y (at_set cs h c' k d dk) (at_set xs h x' k y yk);
      holder = λ d e. holder_updated xs h x x' hold d f hs.holder (ch.holder d e);
      used = λ slot u e. used_updated p cs old xs hold h x x' slot u hs f (ch.slots.out slot u e);
    }

-- the same where only the mind changes
pub updated_mind : (p : Program) (cs : List Core) (slots : List (Option SlotUse)) (xs : List Mind) (hold hold' : Option Hold) (h : ℕ) (c : Core) (x x' : Mind) → Harts p cs slots xs hold → slice_get cs h ≡ Some c → slice_get xs h ≡ Some x
    → Changes p slots slots hold hold' h c x' → Harts p cs slots (slice_set xs h x') hold'
updated_mind p cs slots xs hold hold' h c x x' hs e f ch =
    subst (λ (ds : List Core). Harts p ds slots (slice_set xs h x') hold') (set_known cs h c e) (updated p cs slots slots xs hold hold' h c x x' hs f ch)

-- ---- what can happen to the slots

-- the slot that is out for hart h is its own by its phase
pub own_slot : (p : Program) (cs : List Core) (slots : List (Option SlotUse)) (xs : List Mind) (hold : Option Hold) (h : ℕ) (x : Mind) (slot : ℕ)
    (u : SlotUse) → Harts p cs slots xs hold → slice_get xs h ≡ Some x → use_at slots slot ≡ Some u → h ≡ u.hart
    → slot_of x.phase ≡ Some slot
own_slot p cs slots xs hold h x slot u hs f e is =
    let had = hs.used slot u e in
    let same : x ≡ had.mind = same_some x had.mind (sym f ∙ (ap (slice_get xs) is ∙ had.at)) in
    ap (λ (y : Mind). slot_of y.phase) same ∙ had.has

same_by : (p : Program) (cs : List Core) (slots : List (Option SlotUse)) (xs : List Mind) (hold : Option Hold) (h : ℕ) (x : Mind) (q : Phase)
    (slot : ℕ) (u : SlotUse) → Harts p cs slots xs hold → slice_get xs h ≡ Some x → slot_of q ≡ slot_of x.phase
    → use_at slots slot ≡ Some u → (h ≡ u.hart) ⊎ (h ≡ u.hart → ⊥) → ((h ≡ u.hart → ⊥) × (use_at slots slot ≡ Some u)) ⊎ ((h ≡ u.hart) × (slot_of q ≡ Some slot))
same_by p cs slots xs hold h x q slot u hs f alike e (inl is) = inr (is, alike ∙ own_slot p cs slots xs hold h x slot u hs f e is)
same_by p cs slots xs hold h x q slot u hs f alike e (inr n) = inl (n, e)

-- all stay
pub slots_same : (p : Program) (cs : List Core) (slots : List (Option SlotUse)) (xs : List Mind) (hold : Option Hold) (h : ℕ) (x : Mind) (q : Phase)
    → Harts p cs slots xs hold → slice_get xs h ≡ Some x → slot_of q ≡ slot_of x.phase → SlotChange slots slots h q
slots_same p cs slots xs hold h x q hs f alike =
    record { kept = λ slot u e n. e; out = λ slot u e. same_by p cs slots xs hold h x q slot u hs f alike e (same_place h u.hart) }

some_none : {A B : Type 0} (a : A) → Some a ≡ None → B
some_none a e = cc

taken_kept : (old new : List (Option SlotUse)) (slot s : ℕ) (u v : SlotUse) → use_at old slot ≡ None → OneSlot old new slot (Some v) → use_at old s ≡ Some u → (slot ≡ s) ⊎ (slot ≡ s → ⊥) → use_at new s ≡ Some u
taken_kept old new slot s u v was one e (inl is) = some_none u (sym e ∙ (ap (use_at old) (sym is) ∙ was))
taken_kept old new slot s u v was one e (inr n) = one.others s n ∙ e

taken_out : (p : Program) (cs : List Core) (old new : List (Option SlotUse)) (xs : List Mind) (hold : Option Hold) (h slot home word s : ℕ) (x : Mind) (u : SlotUse) → Harts p cs old xs hold → slice_get xs h ≡ Some x → slot_of x.phase ≡ None
    → OneSlot old new slot (Some (record { hart = h; word = word })) → use_at new s ≡ Some u → (slot ≡ s) ⊎ (slot ≡ s → ⊥) → (h ≡ u.hart) ⊎ (h ≡ u.hart → ⊥)
    → ((h ≡ u.hart → ⊥) × (use_at old s ≡ Some u)) ⊎ ((h ≡ u.hart) × (slot_of (phase.Copied slot home) ≡ Some s))
taken_out p cs old new xs hold h slot home word s x u hs f without one e (inl is) own =
    let v : SlotUse = record { hart = h; word = word } in
    let same : v ≡ u = same_some v u (sym one.here ∙ (ap (use_at new) is ∙ e)) in
    inr (ap (λ (w : SlotUse). w.hart) same, ap Some is)
taken_out p cs old new xs hold h slot home word s x u hs f without one e (inr n) (inl is) =
    some_none s (sym (own_slot p cs old xs hold h x s u hs f (sym (one.others s n) ∙ e) is) ∙ without)
taken_out p cs old new xs hold h slot home word s x u hs f without one e (inr n) (inr m) = inl (m, sym (one.others s n) ∙ e)

-- a hart without a slot takes one that is free
pub slots_taken : (p : Program) (cs : List Core) (old new : List (Option SlotUse)) (xs : List Mind) (hold : Option Hold) (h slot home word : ℕ)
    (x : Mind) → Harts p cs old xs hold → slice_get xs h ≡ Some x → slot_of x.phase ≡ None → use_at old slot ≡ None
    → OneSlot old new slot (Some (record { hart = h; word = word })) → SlotChange old new h (phase.Copied slot home)
slots_taken p cs old new xs hold h slot home word x hs f without was one =
    record {
      kept = λ s u e n. taken_kept old new slot s u (record { hart = h; word = word }) was one e (same_place slot s);
      out = λ s u e. taken_out p cs old new xs hold h slot home word s x u hs f without one e (same_place slot s) (same_place h u.hart);
    }

freed_kept : (old new : List (Option SlotUse)) (h slot s word : ℕ) (u : SlotUse) → use_at old slot ≡ Some (record { hart = h; word = word })
    → OneSlot old new slot None → use_at old s ≡ Some u → (h ≡ u.hart → ⊥) → (slot ≡ s) ⊎ (slot ≡ s → ⊥) → use_at new s ≡ Some u
freed_kept old new h slot s word u was one e n (inl is) =
    let v : SlotUse = record { hart = h; word = word } in
    absurd (n (ap (λ (w : SlotUse). w.hart) (same_some v u (sym was ∙ (ap (use_at old) is ∙ e)))))
freed_kept old new h slot s word u was one e n (inr m) = one.others s m ∙ e

freed_out : (p : Program) (cs : List Core) (old new : List (Option SlotUse)) (xs : List Mind) (hold : Option Hold) (h slot s : ℕ) (x : Mind)
    (q : Phase) (u : SlotUse) → Harts p cs old xs hold → slice_get xs h ≡ Some x → slot_of x.phase ≡ Some slot
    → OneSlot old new slot None → use_at new s ≡ Some u → (slot ≡ s) ⊎ (slot ≡ s → ⊥) → (h ≡ u.hart) ⊎ (h ≡ u.hart → ⊥) → ((h ≡ u.hart → ⊥) × (use_at old s ≡ Some u)) ⊎ ((h ≡ u.hart) × (slot_of q ≡ Some s))
freed_out p cs old new xs hold h slot s x q u hs f has one e (inl is) own = some_none u (sym e ∙ (ap (use_at new) (sym is) ∙ one.here))
freed_out p cs old new xs hold h slot s x q u hs f has one e (inr n) (inl is) =
    absurd (n (same_some slot s (sym has ∙ own_slot p cs old xs hold h x s u hs f (sym (one.others s n) ∙ e) is)))
freed_out p cs old new xs hold h slot s x q u hs f has one e (inr n) (inr m) = inl (m, sym (one.others s n) ∙ e)

-- a hart gives its slot back
pub slots_freed : (p : Program) (cs : List Core) (old new : List (Option SlotUse)) (xs : List Mind) (hold : Option Hold) (h slot word : ℕ) (x : Mind)
    (q : Phase) → Harts p cs old xs hold → slice_get xs h ≡ Some x → slot_of x.phase ≡ Some slot
    → use_at old slot ≡ Some (record { hart = h; word = word }) → OneSlot old new slot None → SlotChange old new h q
slots_freed p cs old new xs hold h slot word x q hs f has was one =
    record {
      kept = λ s u e n. freed_kept old new h slot s word u was one e n (same_place slot s);
      out = λ s u e. freed_out p cs old new xs hold h slot s x q u hs f has one e (same_place slot s) (same_place h u.hart);
    }

-- ---- all harts have exited

-- a hart that is home, and what it was
pub record HomeAt (p : Program) (cs : List Core) (xs : List Mind) (k : ℕ) (d : Core) : Type 0 where
  pub core : Core
  pub mind : Mind
  pub core_at : slice_get cs k ≡ Some core
  pub mind_at : slice_get xs k ≡ Some mind
  pub home : IsHome p core mind d

pub home_at : (p : Program) (cs : List Core) (xs : List Mind) (ds : List Core) (k : ℕ) (d : Core) → AreHome p cs xs ds → slice_get ds k ≡ Some d → HomeAt p cs xs k d
home_at p [] xs [] k d h at = cc
home_at p [] xs (e ∷ ds) k d h at = absurd h
home_at p (c ∷ cs) xs [] k d h at = absurd h
home_at p (c ∷ cs) [] (e ∷ ds) k d h at = absurd h
home_at p (c ∷ cs) (x ∷ xs) (e ∷ ds) zero d h at =
    record { core = c; mind = x; core_at = refl; mind_at = refl; home = subst (λ (y : Core). IsHome p c x y) (same_some e d at) h.0 }
home_at p (c ∷ cs) (x ∷ xs) (e ∷ ds) (suc k) d h at =
    let a = home_at p cs xs ds k d h.1 at in
    record { core = a.core; mind = a.mind; core_at = a.core_at; mind_at = a.mind_at; home = a.home }

-- a hart that has exited steps over nothing
pub record IsGone (y : Mind) : Type 0 where
  pub phase_is : y.phase ≡ phase.Idle

pub gone_by : (xs : List Mind) (k : ℕ) (y : Mind) → slice_get (map gone_mind xs) k ≡ Some y → IsGone y
gone_by [] k y e = cc
gone_by (x ∷ xs) zero y e = record { phase_is = ap (λ (z : Mind). z.phase) (sym (same_some (gone_mind x) y e)) }
gone_by (x ∷ xs) (suc k) y e = gone_by xs k y e

gone_as : (p : Program) (slots : List (Option SlotUse)) (k : ℕ) (c : Core) (y : Mind) (q : Phase) → y.phase ≡ q → q ≡ phase.Idle → c.entered ≡ None → HartFact p slots None k c y
gone_as p slots k c y q is idle out =
    let P : Phase → Type 0 = λ r. Placed p slots k c r in
    let same : y.phase ≡ phase.Idle = is ∙ idle in
    record { placed = subst P (sym same) tt; entered = out ∙ sym (ap entered_of same); held = ap lifted_of same; idle = λ a. same }

gone_fact : (p : Program) (slots : List (Option SlotUse)) (xs : List Mind) (k : ℕ) (c : Core) (y : Mind) → c.entered ≡ None → slice_get (map gone_mind xs) k ≡ Some y → HartFact p slots None k c y
gone_fact p slots xs k c y out e = gone_as p slots k c y y.phase refl (gone_by xs k y e).phase_is out

pub none_some : {A : Type 0} (d : Hold) → None ≡ Some d → A
none_some d e = cc

-- no slot is out
abbrev pub AllFree : List (Option SlotUse) → Type 0
AllFree slots = (slot : ℕ) → use_at slots slot ≡ None

free_use : (slots : List (Option SlotUse)) (slot : ℕ) (u : SlotUse) → {A : Type 0} → AllFree slots → use_at slots slot ≡ Some u → A
free_use slots slot u free e = some_none u (sym e ∙ free slot)

-- each hart has exited
pub all_updated : (p : Program) (cs : List Core) (slots : List (Option SlotUse)) (xs : List Mind) (ds : List Core) → length ds ≡ length xs → AreHome p cs xs ds → AllFree slots → Harts p ds slots (map gone_mind xs) None
all_updated p cs slots xs ds len home free =
    record {
      len = simp length-map len;
      each = λ k d y dk yk. gone_fact p slots xs k d y (home_at p cs xs ds k d home dk).home.entered yk;
      holder = λ d e. none_some d e;
      used = λ slot u e. free_use slots slot u free e;
    }

holds_as : (d : Hold) (h home : ℕ) (b : Bool) → (d.hart == h) ≡ b → Some home ≡ cond b (Some d.home) None → Some d ≡ Some (record { hart = h; home = home })
holds_as d h home true is e =
    let hart : d.hart ≡ h = grind (arith, nat_tests) in
    let same : d.home ≡ home = same_some d.home home (sym e) in
    ap Some (ap (λ (n : ℕ). let x : Hold = record { hart = n; home = d.home } in x) hart ∙ ap (λ (n : ℕ). let x : Hold = record { hart = h; home = n } in x) same)
holds_as d h home false is e = cc

-- who holds, where a patch is lifted for a hart
pub holds_by : (hold : Option Hold) (h home : ℕ) → Some home ≡ held_by hold h → hold ≡ Some (record { hart = h; home = home })
holds_by None h home e = cc
holds_by (Some d) h home e = holds_as d h home (d.hart == h) refl e

pub differs : (a b : ℕ) → (a ≡ b → ⊥) → (a == b) ≡ false
differs a b n = grind (arith, nat_tests)

pub equals : (a : ℕ) → (a == a) ≡ true
equals a = grind (arith, nat_tests)

-- others hold nothing, before and after
pub holds_own : (h home k : ℕ) → (h ≡ k → ⊥) → held_by None k ≡ held_by (Some (record { hart = h; home = home })) k
holds_own h home k n = rw (differs h k n) refl

-- a hart has either nobody's patch lifted, or its own
pub none_held : (hold : Option Hold) (h : ℕ) (q : Phase) → lifted_of q ≡ held_by hold h → q ≡ phase.Idle → held_by hold h ≡ None
none_held hold h q held is = sym held ∙ ap lifted_of is
