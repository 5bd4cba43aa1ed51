-- A step over a word by a copy: a claim, a step in the slot, and the way home.
use Rattle.std.proofs.Common.{◌≡◌, ◌≢◌, ℕ, suc, ◌<◌, ◌^◌, true, List, [], ◌∷◌, refl, ap, sym, ◌∙◌, subst, arith}
use Rattle.std.specs.Prelude.{Option, Some, None, is_some, slice_get, slice_set, if◌then◌else◌}
use Rattle.std.specs.Option.{option_map}
use Rattle.rv_decode.specs.declared.instr.Instr.{Instr}
use Rattle.rv_decode.specs.Decode.{decode}
use Rattle.rv_exec.specs.Memory.{Memory}
use Rattle.rv_exec.specs.declared.effect.Stepped.TheVariants as stepped
use Rattle.text_words.specs.Words.{decoded_as}
use Rattle.text_words.specs.declared.fetch.Fetch.{Fetch}
use Rattle.scratch_slots.specs.declared.slots.SlotUse.{SlotUse}
use Rattle.scratch_slots.specs.Table.{slot_address, slot_number, least_free, with_use, use_at}
use Rattle.hart_machine.specs.declared.hart.Core.{Core}
use Rattle.hart_machine.specs.Patched.{Patched}
use Rattle.hart_machine.specs.Stepping.{CoreSteps, FetchGives, Steps, StepsTo, counted, fetch_of}
use Rattle.hart_machine.specs.Copying.{Begins, Finishes, CopiesCore, StepsByCopy, entered_core, fixed, settled_core, with_core}
use Rattle.hart_machine.proofs.Copying.{fetch_slot, in_slot}
use Rattle.hart_machine.proofs.Places.{same_some, set_known, set_twice, get-set_same}

least_more : (slots : List (Option SlotUse)) (u : SlotUse) (k : ℕ) (o : Option ℕ) → option_map suc o ≡ Some k → ((j : ℕ) → o ≡ Some j → slice_get slots j ≡ Some None) → slice_get (Some u ∷ slots) k ≡ Some None
least_more slots u k None e ih = cc
least_more slots u k (Some j) e ih = ap (slice_get (Some u ∷ slots)) (sym (same_some (suc j) k e)) ∙ ih j refl

-- the least free slot is free
least_is_free : (slots : List (Option SlotUse)) (k : ℕ) → least_free slots ≡ Some k → slice_get slots k ≡ Some None
least_is_free [] k e = cc
least_is_free (None ∷ slots) k e = ap (slice_get (None ∷ slots)) (sym (same_some 0 k e))
least_is_free (Some u ∷ slots) k e = least_more slots u k (least_free slots) e (λ j f. least_is_free slots j f)

number_of : (k : ℕ) → slot_number (slot_address k) ≡ k
number_of k = omega arith

-- a slot that was claimed and given back leaves the slots as they were
pub slots_back : (slots : List (Option SlotUse)) (slot : ℕ) (u : SlotUse) (o : Option ℕ) → least_free slots ≡ o → Some slot ≡ option_map slot_address o → slice_set (with_use slots o u) (slot_number slot) None ≡ slots
slots_back slots slot u None least e = cc
slots_back slots slot u (Some k) least e =
    let number : slot_number slot ≡ k = ap slot_number (same_some slot (slot_address k) e) ∙ number_of k in
    ap (λ j. slice_set (slice_set slots k (Some u)) j None) number ∙ (set_twice slots k (Some u) None ∙ set_known slots k None (least_is_free slots k least))

-- a hart that executed a copy at the slot that it claimed stepped over the word
pub stepped_by_copy : (old : Patched) (h word slot : ℕ) (i : Instr) (c d : Core) (q : Memory) (taken freed : List (Option SlotUse)) → slice_get old.cores h ≡ Some c → slot < 2 ^ 32 → Some i ≡ decode word → CopiesCore i slot c d old.memory q
    → Some slot ≡ option_map slot_address (least_free old.slots)
    → taken ≡ with_use old.slots (least_free old.slots) (record { hart = h; word = word }) → use_at old.slots slot ≡ None
    → use_at taken slot ≡ Some (record { hart = h; word = word })
    → ((other : ℕ) → Some slot ≢ Some other → use_at taken other ≡ use_at old.slots other) → freed ≡ slice_set taken (slot_number slot) None → use_at freed slot ≡ None → ((other : ℕ) → other ≢ slot → use_at freed other ≡ use_at taken other)
    → StepsByCopy old h word (record old { cores = slice_set old.cores h d; memory = q; slots = freed })
stepped_by_copy old h word slot i c d q taken freed at low found k least taken_is was out others freed_is free left =
    let home = c.regs.pc in
    let u : SlotUse = record { hart = h; word = word } in
    let b : Core = entered_core c slot in
    let begun : Patched = record (with_core old h b) { slots = taken } in
    let mid : Core = record { regs = k.regs; retired = counted stepped.Ran c.retired; copied = counted stepped.Ran c.copied; entered = None } in
    let ran : Patched = record begun { cores = slice_set begun.cores h mid; memory = q } in
    let new : Patched = record old { cores = slice_set old.cores h d; memory = q; slots = freed } in
    let at_b : slice_get begun.cores h ≡ Some b = get-set_same old.cores h b c at in
    let at_mid : slice_get ran.cores h ≡ Some mid = get-set_same begun.cores h mid b at_b in
    let fetch : fetch_of begun b ≡ decoded_as (Some i) = fetch_slot begun b slot u refl refl out ∙ ap decoded_as (sym found) in
    let G : Fetch → Type 0 = λ f. FetchGives stepped.Ran f b.regs k.regs old.memory q in
    let goes : CoreSteps stepped.Ran (fetch_of begun b) b mid old.memory q = record {
      gives = subst G (sym fetch) k.gives;
      retired = refl;
      copied = sym (ap (λ t. if t then counted stepped.Ran c.copied else c.copied) (in_slot b slot refl refl));
      entered = refl;
    } in
    let steps : Steps stepped.Ran begun h ran = λ e seen.
    let S : Core → Type 0 = λ x. StepsTo stepped.Ran begun h x ran in
    subst S (same_some b e (sym at_b ∙ seen)) (record { core = mid; memory = q; below = low; steps = goes; machine = refl }) in
    let begins : Begins old h word slot begun = λ e seen.
    ap (λ ss. record (with_core old h b) { slots = ss }) taken_is
    ∙ ap (λ (x : Core). record (with_core old h (entered_core x slot)) { slots = with_use old.slots (least_free old.slots) u }) (same_some c e (sym at ∙ seen)) in
    let settled = settled_core word slot home mid true in
    let is : d ≡ settled = k.core ∙ ap (λ o. let x : Core = record { regs = fixed o slot home k.regs true; retired = counted stepped.Ran c.retired; copied = counted stepped.Ran c.copied; entered = None } in x) found in
    let twice : slice_set (slice_set begun.cores h mid) h settled ≡ slice_set old.cores h settled = set_twice begun.cores h mid settled ∙ set_twice old.cores h b settled in
    let behind = slice_set taken (slot_number slot) None in
    let base : new ≡ record (with_core ran h settled) { slots = behind } =
    ap (λ (x : Core). let m : Patched = record old { cores = slice_set old.cores h x; memory = q; slots = freed } in m) is
    ∙ (ap (λ ss. let m : Patched = record old { cores = slice_set old.cores h settled; memory = q; slots = ss } in m) freed_is
    ∙ ap (λ (cs : List Core). let m : Patched = record old { cores = cs; memory = q; slots = behind } in m) (sym twice)) in
    let finishes : Finishes ran h slot home true new = λ e v seen there.
    let F : Core → Type 0 = λ x. new ≡ record (with_core ran h (settled_core v.word slot home x true)) { slots = behind } in
    let V : SlotUse → Type 0 = λ w. new ≡ record (with_core ran h (settled_core w.word slot home mid true)) { slots = behind } in
    subst F (same_some mid e (sym at_mid ∙ seen)) (subst V (same_some u v (sym out ∙ there)) base) in
    record {
      slot = slot;
      home = home;
      begun = begun;
      ran = ran;
      here = λ e seen. let same = same_some c e (sym at ∙ seen) in (ap (λ (x : Core). x.regs.pc) (sym same), ap (λ (x : Core). x.entered) (sym same) ∙ k.out);
      least = least;
      was_free = was;
      taken = out;
      begun_others = λ other n. others other (λ e. n (sym (same_some slot other e)));
      begins = begins;
      decodes = ap is_some (sym found);
      steps = steps;
      finishes = finishes;
      freed = free;
      others = left;
    }

-- where the copy was not executed, nothing has changed
pub nothing_copied : (old : Patched) (h slot : ℕ) (u : SlotUse) (c d : Core) (q : Memory) (taken freed : List (Option SlotUse)) → slice_get old.cores h ≡ Some c → d ≡ c → q ≡ old.memory
    → Some slot ≡ option_map slot_address (least_free old.slots) → taken ≡ with_use old.slots (least_free old.slots) u → freed ≡ slice_set taken (slot_number slot) None
    → record old { cores = slice_set old.cores h d; memory = q; slots = freed } ≡ old
nothing_copied old h slot u c d q taken freed at same still least taken_is freed_is =
    let back : freed ≡ old.slots = freed_is ∙ (ap (λ ss. slice_set ss (slot_number slot) None) taken_is ∙ slots_back old.slots slot u (least_free old.slots) refl least) in
    ap (λ (x : Core). let m : Patched = record old { cores = slice_set old.cores h x; memory = q; slots = freed } in m) same
    ∙ (ap (λ (n : Memory). let m : Patched = record old { cores = slice_set old.cores h c; memory = n; slots = freed } in m) still
    ∙ (ap (λ ss. let m : Patched = record old { cores = slice_set old.cores h c; slots = ss } in m) back
    ∙ ap (λ (cs : List Core). let m : Patched = record old { cores = cs } in m) (set_known old.cores h c at)))
