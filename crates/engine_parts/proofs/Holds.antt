-- The other moves of a hart, as the code makes them, and the end of an engine.
use Rattle.std.proofs.Common.{◌≡◌, ◌≢◌, ◌<◌, ℕ, suc, ◌%◌, ◌^◌, Bool, true, false, cond, List, [], ◌∷◌, length, refl, sym, ap, ◌∙◌, subst, arith, length-set}
use Rattle.std.specs.Prelude.{Option, Some, None, map, slice_get, slice_set, ◌==◌}
use Rattle.std.specs.Option.{option_map}
use Rattle.std.proofs.lemmas.Bool.Decides.{nat_tests}
use Rattle.text_words.specs.Words.{Words, shown}
use Rattle.elf32_read.specs.Program.{Program, text_word}
use Rattle.displaced_fix.specs.Fix.{IsWordAddress}
use Rattle.scratch_slots.specs.declared.slots.SlotUse.{SlotUse}
use Rattle.scratch_slots.specs.Table.{slot_address, use_at, least_free, with_use}
use Rattle.step_over.specs.declared.phase.Phase.{Phase}
use Rattle.step_over.specs.declared.phase.Phase.TheVariants as phase
use Rattle.hart_machine.specs.declared.hart.Core.{Core}
use Rattle.hart_machine.specs.Patched.{Patched}
use Rattle.hart_machine.specs.Copying.{Begins, entered_core, with_core}
use Rattle.hart_machine.proofs.Copying.{slot_is_word}
use Rattle.hart_machine.proofs.Places.{same_some}
use Rattle.break_table.specs.Entry.{Entry as BreakEntry}
use Rattle.dbg_model.specs.declared.opening.Opening.{Opening}
use Rattle.dbg_model.specs.State.{is_off}
use Rattle.engine_parts.specs.declared.mind.Activity.TheVariants as activity
use Rattle.engine_parts.specs.declared.mind.Hold.{Hold}
use Rattle.engine_parts.specs.declared.mind.Mind.{Mind}
use Rattle.engine_parts.specs.Minds.{awaited, slot_of, with_phase}
use Rattle.engine_parts.specs.Seen.{Engine, seen}
use Rattle.engine_parts.specs.Facts.{Facts, Sound, wants_of, other_holder}
use Rattle.engine_parts.specs.Moves.{Repatched, Released, HeldInText, Takes}
use Rattle.engine_parts.specs.Homecoming.{GoesHome}
use Rattle.engine_parts.proofs.Awaiting.{waits_same}
use Rattle.engine_parts.proofs.Holding.{core_at, planted_text}
use Rattle.engine_parts.proofs.Copying.{copies}
use Rattle.engine_parts.proofs.CopyCounts.{copies_home, copies_set}
use Rattle.engine_parts.proofs.Homecoming.{unwound, home_rest}
use Rattle.engine_parts.proofs.Planting.{shown_image}
use Rattle.engine_parts.proofs.Stepping.{lifts}
use Rattle.engine_parts.specs.Calls.{AtPlanted, Rephases, Lifts, Copies}
use Rattle.engine_parts.proofs.Executing.{of_hart, own_pc}

-- the facts hold after a move of one hart, which waits where it did before
phase_facts : (r new : Engine) (h : ℕ) (x : Mind) (q : Phase) → Facts r → slice_get r.minds h ≡ Some x → Sound new → new.opening ≡ r.opening → new.waits ≡ r.waits → new.minds ≡ slice_set r.minds h (with_phase x q) → Facts new
phase_facts r new h x q f at s opening waits minds =
    record {
      sound = s;
      waits = waits ∙ (waits_same r h x (with_phase x q) f at refl ∙ (ap (λ (o : Opening). map (awaited o.image) (slice_set r.minds h (with_phase x q))) (sym opening) ∙ ap (map (awaited new.opening.image)) (sym minds)));
    }

-- the facts hold after a move that did this
pub record Moved (new : Engine) (Did : Type 0) : Type 0 where
  pub facts : Facts new
  pub does : Did

-- a machine whose text alone changed
abbrev pub Retexted : Engine → Patched → Type 0
Retexted r m = m ≡ record r.machine { text = m.text }

-- a hart's slot is free after it came home
freed_by : (old new : Patched) (h slot : ℕ) (q : Phase) → GoesHome old new h q → slot_of q ≡ Some slot → use_at new.slots slot ≡ None
freed_by old new h slot phase.Idle g e = cc
freed_by old new h slot (phase.Copied s home) g e = ap (use_at new.slots) (sym (same_some s slot e)) ∙ g.frees.one.here
freed_by old new h slot (phase.Landed s home) g e = ap (use_at new.slots) (sym (same_some s slot e)) ∙ g.frees.one.here
freed_by old new h slot (phase.Lifted home) g e = cc
freed_by old new h slot (phase.Ran home) g e = cc

-- what a hart that steps over nothing any more leaves
pub record Unwinds (old new : Engine) (h : ℕ) (x : Mind) : Type 0 where
  pub home : Rephases old new h x phase.Idle None
  pub freed : (slot : ℕ) → slot_of x.phase ≡ Some slot → use_at new.machine.slots slot ≡ None

unwound_by : (r : Engine) (h : ℕ) (x : Mind) (g m : Patched) → Facts r → slice_get r.minds h ≡ Some x → x.activity ≡ activity.Running
    → other_holder r.hold h ≡ None → GoesHome r.machine g h x.phase → Released g.text m.text r.breaks r.waits r.hold → m ≡ record g { text = m.text }
    → (let new : Engine = record r { machine = m; minds = slice_set r.minds h (with_phase x phase.Idle); hold = None } in Moved new (Unwinds r new h x))
unwound_by r h x g m f at runs free goes w same =
    let k = core_at r h x f.sound at in
    let N : Patched → Engine = λ n. record r { machine = n; minds = slice_set r.minds h (with_phase x phase.Idle); hold = None } in
    let P : Patched → Type 0 = λ n. Moved (N n) (Unwinds r (N n) h x) in
    let s = unwound r h k.0 x g m.text f.sound k.1 runs free goes w in
    subst P (sym same)
    (record {
      facts = phase_facts r (N (record g { text = m.text })) h x phase.Idle f at s.facts refl refl refl;
      does = record { home = record { journal = refl; seen = s.seen; opening = refl; spare = refl; minds = refl; hold = refl; copies = copies_home r.machine g h x.phase goes }; freed = λ slot e. freed_by r.machine g h slot x.phase goes e };
    })

-- a hart steps over nothing any more
pub unwound_to : (r : Engine) (h : ℕ) (x y : Mind) (g m : Patched) (bs : List BreakEntry) → Facts r → slice_get r.minds h ≡ Some x
    → x.activity ≡ activity.Running → other_holder r.hold h ≡ None → GoesHome r.machine g h x.phase → Released g.text m.text bs r.waits r.hold → bs ≡ r.breaks
    → m ≡ record g { text = m.text } → y ≡ with_phase x phase.Idle → (let new : Engine = record r { machine = m; minds = slice_set r.minds h y; hold = None } in Moved new (Unwinds r new h x))
unwound_to r h x y g m bs f at runs free goes w' are same is =
    let w = subst (λ (cs : List BreakEntry). Released g.text m.text cs r.waits r.hold) are w' in
    let Q : Mind → Type 0 = λ z. (let new : Engine = record r { machine = m; minds = slice_set r.minds h z; hold = None } in Moved new (Unwinds r new h x)) in
    subst Q (sym is) (unwound_by r h x g m f at runs free goes w same)

-- the patches stay where a hart comes home
pub home_held : (old new : Patched) (h : ℕ) (q : Phase) (hold : Option Hold) → GoesHome old new h q → HeldInText old.text hold → HeldInText new.text hold
home_held old new h q hold g t = subst (λ (u : Words). HeldInText u hold) (ap (λ (m : Patched). m.text) (sym (home_rest old new h q g).rest)) t

lifted_by : (r : Engine) (h pc : ℕ) (x : Mind) (m : Patched) → Facts r → AtPlanted r h x pc → x.activity ≡ activity.Running
    → (0 < r.opening.settings.slots → is_off r.displaced ≡ true) → Repatched r.machine.text m.text pc false → Retexted r m
    → (let new : Engine = record r { machine = m; minds = slice_set r.minds h (with_phase x (phase.Lifted pc)); hold = Some (record { hart = h; home = pc }) } in Moved new (Lifts r new h))
lifted_by r h pc x m f b runs only w same =
    let k = core_at r h x f.sound b.at in
    let here : k.0.regs.pc ≡ pc = sym (own_pc r k.0 x b.idle) ∙ of_hart r h k.0 x (λ y. y.regs.pc ≡ pc) k.1 b.pc in
    let N : Patched → Engine = λ n. record r { machine = n; minds = slice_set r.minds h (with_phase x (phase.Lifted pc)); hold = Some (record { hart = h; home = pc }) } in
    let P : Patched → Type 0 = λ n. Moved (N n) (Lifts r (N n) h) in
    let s = lifts r h k.0 x pc m.text f.sound k.1 runs b.idle only b.free here (planted_text r pc f.sound b.planted) w in
    subst P (sym same) (record {
      facts = phase_facts r (N (record r.machine { text = m.text })) h x (phase.Lifted pc) f b.at s.facts refl refl refl;
      does = record {
        mind = x;
        home = pc;
        before = b;
        only = only;
        rephases = record
            { journal = refl; seen = s.seen; opening = refl; spare = refl; minds = refl; hold = refl; copies = refl };
      };
    })

-- a patch was lifted for a hart
pub lifted : (r : Engine) (h pc : ℕ) (x y : Mind) (m : Patched) → Facts r → AtPlanted r h x pc → x.activity ≡ activity.Running
    → (0 < r.opening.settings.slots → is_off r.displaced ≡ true) → Repatched r.machine.text m.text pc false → Retexted r m → y ≡ with_phase x (phase.Lifted pc)
    → (let new : Engine = record r { machine = m; minds = slice_set r.minds h y; hold = Some (record { hart = h; home = pc }) } in Moved new (Lifts r new h))
lifted r h pc x y m f b runs only w same e =
    let Q : Mind → Type 0 = λ z. (let new : Engine = record r { machine = m; minds = slice_set r.minds h z; hold = Some (record { hart = h; home = pc }) } in Moved new (Lifts r new h)) in
    subst Q (sym e) (lifted_by r h pc x m f b runs only w same)

-- ---- a copy

least_more : (slots : List (Option SlotUse)) (k : ℕ) (o : Option ℕ) → option_map suc o ≡ Some k → ((j : ℕ) → o ≡ Some j → j < length slots) → k < suc (length slots)
least_more slots k None e ih = cc
least_more slots k (Some j) e ih = let z : suc j ≡ k = same_some (suc j) k e in let l = ih j refl in omega (arith, z, l)

least_within : (slots : List (Option SlotUse)) (k : ℕ) → least_free slots ≡ Some k → k < length slots
least_within [] k e = cc
least_within (None ∷ slots) k e = let z : 0 ≡ k = same_some 0 k e in omega arith
least_within (Some u ∷ slots) k e = least_more slots k (least_free slots) e (λ j f. least_within slots j f)

-- the word at a planted address is the image's
planted_word : (r : Engine) (pc word : ℕ) → Sound r → pc < 2 ^ 32 → Some word ≡ shown r.machine.text pc → text_word r.opening.image pc ≡ Some word
planted_word r pc word f low is = sym (shown_image r.opening.image r.machine.text (wants_of r) pc f.planted low) ∙ sym is

aligned_by : (a w : ℕ) (o : Option ℕ) (b : Bool) → (a % 4 == 0) ≡ b → cond b o None ≡ Some w → a % 4 ≡ 0
aligned_by a w o true is e = grind (arith, nat_tests)
aligned_by a w o false is e = cc

-- which is at a multiple of 4
word_aligned : (p : Program) (a w : ℕ) → text_word p a ≡ Some w → a % 4 ≡ 0
word_aligned p a w e = aligned_by a w _ (a % 4 == 0) refl e

slots_after : (old : List (Option SlotUse)) (o : Option ℕ) (u : SlotUse) → length (with_use old o u) ≡ length old
slots_after old None u = refl
slots_after old (Some k) u = length-set old k (Some u)

-- the slot that is claimed has a number
record Numbered (slots : List (Option SlotUse)) (slot : ℕ) : Type 0 where
  number : ℕ
  within : number < length slots
  is : slot_address number ≡ slot

numbered_by : (slots : List (Option SlotUse)) (slot : ℕ) (o : Option ℕ) → least_free slots ≡ o → Some slot ≡ option_map slot_address o → Numbered slots slot
numbered_by slots slot None least e = cc
numbered_by slots slot (Some k) least e = record { number = k; within = least_within slots k least; is = sym (same_some slot (slot_address k) e) }

-- the machine after a hart began a copy
pub record Claims (old new : Patched) (h word slot : ℕ) : Type 0 where
  pub least : Some slot ≡ option_map slot_address (least_free old.slots)
  pub begins : Begins old h word slot new
  pub was : use_at old.slots slot ≡ None
  pub taken : use_at new.slots slot ≡ Some (record { hart = h; word = word })
  pub others : (s : ℕ) → Some slot ≢ Some s → use_at new.slots s ≡ use_at old.slots s

-- what that does to the slots
claim_takes : (old new : Patched) (h word slot : ℕ) (k : Core) → slice_get old.cores h ≡ Some k → Claims old new h word slot → Takes old.slots (with_use old.slots (least_free old.slots) (record { hart = h; word = word })) h slot word
claim_takes old new h word slot k at c =
    let u : SlotUse = record { hart = h; word = word } in
    let slots : new.slots ≡ with_use old.slots (least_free old.slots) u = ap (λ (m : Patched). m.slots) (c.begins k at) in
    record {
      was = c.was;
      one = record {
        here = ap (λ ss. use_at ss slot) (sym slots) ∙ c.taken;
        others = λ s apart. ap (λ ss. use_at ss s) (sym slots) ∙ c.others s (λ e. apart (same_some slot s e));
      };
      len = slots_after old.slots (least_free old.slots) u;
    }

copied_by : (r : Engine) (h pc word slot : ℕ) (x : Mind) (n : Patched) → Facts r → AtPlanted r h x pc → x.activity ≡ activity.Running
    → is_off r.displaced ≡ false → pc < 2 ^ 32 → Some word ≡ shown r.machine.text pc → Claims r.machine n h word slot
    → (let new : Engine = record r { machine = n; minds = slice_set r.minds h (with_phase x (phase.Copied slot pc)) } in Moved new (Copies r new h))
copied_by r h pc word slot x n f b runs on low is claims =
    let k = core_at r h x f.sound b.at in
    let c = k.0 in
    let u : SlotUse = record { hart = h; word = word } in
    let slots = with_use r.machine.slots (least_free r.machine.slots) u in
    let here : c.regs.pc ≡ pc = sym (own_pc r c x b.idle) ∙ of_hart r h c x (λ y. y.regs.pc ≡ pc) k.1 b.pc in
    let image = planted_word r pc word f.sound low is in
    let number = numbered_by r.machine.slots slot (least_free r.machine.slots) refl claims.least in
    let few : number.number < 512 = omega (arith, number.within, f.sound.slots, f.sound.settings.slots) in
    let at_slot : IsWordAddress slot = subst IsWordAddress number.is (slot_is_word number.number few) in
    let at_home : IsWordAddress pc = record { fits = low; aligned = word_aligned r.opening.image pc word image } in
    let takes = claim_takes r.machine n h word slot c k.1.core claims in
    let s = copies r h slot pc word c x slots f.sound k.1 runs b.idle here image at_slot at_home takes in
    let n_is : n ≡ record (with_core r.machine h (entered_core c slot)) { slots = slots } = claims.begins c k.1.core in
    let N : Patched → Engine = λ q. record r { machine = q; minds = slice_set r.minds h (with_phase x (phase.Copied slot pc)) } in
    let P : Patched → Type 0 = λ q. Moved (N q) (Copies r (N q) h) in
    subst P (sym n_is)
    (record {
      facts = phase_facts r (N (record (with_core r.machine h (entered_core c slot)) { slots = slots })) h x (phase.Copied slot pc) f b.at s.facts refl refl refl;
      does = record {
        mind = x;
        home = pc;
        slot = slot;
        word = word;
        before = b;
        on = on;
        image = image;
        was = claims.was;
        out = takes.one.here;
        rephases = record { journal = refl; seen = s.seen; opening = refl; spare = refl; minds = refl; hold = b.free; copies = copies_set r.machine.cores h c (entered_core c slot) k.1.core refl };
      };
    })

-- a hart entered a slot with a copy of its word
pub copied : (r : Engine) (h pc word slot : ℕ) (x y : Mind) (n : Patched) → Facts r → AtPlanted r h x pc → x.activity ≡ activity.Running
    → is_off r.displaced ≡ false → pc < 2 ^ 32 → Some word ≡ shown r.machine.text pc → Claims r.machine n h word slot
    → y ≡ with_phase x (phase.Copied slot pc) → (let new : Engine = record r { machine = n; minds = slice_set r.minds h y } in Moved new (Copies r new h))
copied r h pc word slot x y n f b runs on low is claims e =
    let Q : Mind → Type 0 = λ z. (let new : Engine = record r { machine = n; minds = slice_set r.minds h z } in Moved new (Copies r new h)) in
    subst Q (sym e) (copied_by r h pc word slot x n f b runs on low is claims)
