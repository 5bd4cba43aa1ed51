-- Several steps of one hart, as steps of the machine.
use Rattle.std.proofs.Common.{◌≡◌, ℕ, zero, suc, ◌+◌, ◌<◌, ◌^◌, List, ap, sym, ◌∙◌, subst, false, refl, add-one}
use Rattle.std.specs.Prelude.{Option, Some, None, is_some, slice_get, slice_set, if◌then◌else◌}
use Rattle.rv_exec.specs.declared.effect.Stepped.{Stepped}
use Rattle.rv_exec.specs.declared.effect.Stepped.TheVariants as stepped
use Rattle.rv_exec.specs.Memory.{Memory}
use Rattle.rv_exec.specs.Registers.{Registers}
use Rattle.text_words.specs.Words.{Words, fetched}
use Rattle.text_words.specs.declared.fetch.Fetch.TheVariants.{Instruction}
use Rattle.rv_decode.specs.declared.instr.Instr.{Instr}
use Rattle.scratch_slots.specs.declared.slots.SlotUse.{SlotUse}
use Rattle.scratch_slots.specs.Table.{use_at}
use Rattle.hart_machine.specs.declared.hart.Core.{Core}
use Rattle.hart_machine.specs.Patched.{Patched}
use Rattle.hart_machine.specs.Stepping.{CoreSteps, StepsTo, Steps, FetchGives, InstructionGives, copy_fetched, counted, fetched_by, is_at, is_in_slot}
use Rattle.hart_machine.specs.Running.{AllRan, CoreAllRan, RegistersAllRan}
use Rattle.hart_machine.proofs.Places.{same_some, set_known, set_twice, get-set_same}

-- one more step of the registers of a hart that has run
pub one_more : (n : ℕ) (t : Words) (old mid new : Registers) (m q m' : Memory) → RegistersAllRan n t old m mid q → mid.pc < 2 ^ 32
    → FetchGives stepped.Ran (fetched t mid.pc) mid new q m' → RegistersAllRan (n + 1) t old m new m'
one_more n t old mid new m q m' ran low gives = rw add-one (record { regs = mid; memory = q; before = ran; below = low; gives = gives })

pub none_there : {A : Type 0} (o : Option A) → false ≡ is_some o → o ≡ None
none_there None e = refl
none_there (Some x) e = absurd (cc)

-- what stands at pc in the text, for a hart that has entered no slot
pub fetched_step : (t : Words) (slots : List (Option SlotUse)) (c c' : Core) (m m' : Memory) → c.entered ≡ None → FetchGives stepped.Ran (fetched t c.regs.pc) c.regs c'.regs m m'
    → c'.retired ≡ counted stepped.Ran c.retired → c'.copied ≡ c.copied → c'.entered ≡ c.entered → CoreSteps stepped.Ran (fetched_by t slots c) c c' m m'
fetched_step t slots c c' m m' none gives retired copied entered =
    let out : is_in_slot c ≡ false = ap (is_at c.regs.pc) none in
    let finds : fetched_by t slots c ≡ fetched t c.regs.pc = ap (λ b. if b then copy_fetched (use_at slots c.regs.pc) else fetched t c.regs.pc) out in
    record {
      gives = subst (λ f. FetchGives stepped.Ran f c.regs c'.regs m m') (sym finds) gives;
      retired = retired;
      copied = copied ∙ sym (ap (λ b. if b then counted stepped.Ran c.copied else c.copied) out);
      entered = entered ∙ none;
    }

-- an instruction of the text, executed by such a hart
pub text_step : (t : Words) (slots : List (Option SlotUse)) (c c' : Core) (m m' : Memory) (i : Instr) → c.entered ≡ None → fetched t c.regs.pc ≡ Instruction i → InstructionGives stepped.Ran i c.regs c'.regs m m'
    → c'.retired ≡ counted stepped.Ran c.retired → c'.copied ≡ c.copied → c'.entered ≡ c.entered → CoreSteps stepped.Ran (fetched_by t slots c) c c' m m'
text_step t slots c c' m m' i none found gives retired copied entered =
    fetched_step t slots c c' m m' none (subst (λ f. FetchGives stepped.Ran f c.regs c'.regs m m') (sym found) gives) retired copied entered

module _ (old : Patched) (h : ℕ) (c : Core) (at : slice_get old.cores h ≡ Some c) where
  -- the machine with this hart and this memory
  abbrev with_hart : Core → Memory → Patched
  with_hart d m = record old { cores = slice_set old.cores h d; memory = m }

  -- a step of the hart is a step of the machine
  pub lifted : (s : Stepped) (d d' : Core) (m m' : Memory) → d.regs.pc < 2 ^ 32 → CoreSteps s (fetched_by old.text old.slots d) d d' m m' → Steps s (with_hart d m) h (with_hart d' m')
  lifted s d d' m m' low k b seen =
      let same : d ≡ b = same_some d b (sym (get-set_same old.cores h d c at) ∙ seen) in
      subst (λ (e : Core). StepsTo s (with_hart d m) h e (with_hart d' m')) same
      (record { core = d'; memory = m'; below = low; steps = k; machine = ap (λ (cs : List Core). record old { cores = cs; memory = m' }) (sym (set_twice old.cores h d d')) })

  pub all_ran : (n : ℕ) (d : Core) (m : Memory) → CoreAllRan n old.text old.slots c old.memory d m → AllRan n old h (with_hart d m)
  all_ran zero d m k =
      ap (λ (e : Core). with_hart e m) k.0 ∙ ap (λ (q : Memory). with_hart c q) k.1 ∙ ap (λ (cs : List Core). record old { cores = cs }) (set_known old.cores h c at)
  all_ran (suc n) d m k =
      record { machine = with_hart k.core k.memory; before = all_ran n k.core k.memory k.before; step = lifted stepped.Ran k.core d k.memory m k.below k.step }

-- the same where the machine is known by another name
pub machine_ran : (m m' : Patched) (h : ℕ) (c d : Core) (q : Memory) (n : ℕ) → m ≡ m' → slice_get m.cores h ≡ Some c
    → CoreAllRan n m.text m.slots c m.memory d q → AllRan n m' h (record m { cores = slice_set m.cores h d; memory = q })
machine_ran m m' h c d q n e at k = subst (λ (b : Patched). AllRan n b h (record m { cores = slice_set m.cores h d; memory = q })) e (all_ran m h c at n d q k)

-- where nothing has changed, nothing more has run
pub none_more : (n : ℕ) (t : Words) (slots : List (Option SlotUse)) (old c d : Core) (m q q' : Memory) → d ≡ c → q' ≡ q → CoreAllRan n t slots old m c q → CoreAllRan n t slots old m d q'
none_more n t slots old c d m q q' same same' k =
    subst (λ (e : Core). CoreAllRan n t slots old m e q') (sym same) (subst (λ (u : Memory). CoreAllRan n t slots old m c u) (sym same') k)
