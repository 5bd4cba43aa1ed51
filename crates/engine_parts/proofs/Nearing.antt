-- A step of a hart that doesn't write where a watch has its bytes makes none fire.
use Rattle.std.proofs.Common.{◌≡◌, ◌<◌, ◌≤◌, ℕ, zero, suc, ◌+◌, ◌-◌, ◌/◌, ◌%◌, ◌^◌, Bool, true, false, cond, List, [], ◌∷◌, refl, sym, ap, ◌∙◌, subst, arith, inl, inr}
use Rattle.std.proofs.lemmas.Bool.{cases_lt}
use Rattle.std.proofs.lemmas.Bool.Decides.{nat_tests}
use Rattle.std.specs.Prelude.{◌⊎◌, Option, Some, None, Result, Ok, Err, is_some, ◌||◌, ◌==◌, length, min, slice_get}
use Rattle.std.specs.Option.{option_map}
use Rattle.std.specs.FinMap as map
use Rattle.rv_decode.specs.declared.instr.AmoOp.{AmoOp}
use Rattle.rv_decode.specs.declared.instr.Instr.{Instr}
use Rattle.rv_decode.specs.declared.instr.Instr.TheVariants.{Lui, Auipc, Jal, Jalr, Branch, Load, Store, OpImm, Op, MulDiv, Amo, Fence, FenceI, Ecall, Ebreak}
use Rattle.rv_decode.specs.declared.instr.LoadOp.{LoadOp}
use Rattle.rv_exec.specs.Arithmetic.{amo_value, is_taken}
use Rattle.rv_exec.specs.declared.effect.Cause.{Cause}
use Rattle.rv_exec.specs.declared.effect.Cause.TheVariants.{FetchAlign, FetchFault, StoreAlign, StoreFault}
use Rattle.rv_exec.specs.declared.effect.Cause.TheVariants as causes
use Rattle.rv_exec.specs.declared.effect.Stepped.{Stepped}
use Rattle.rv_exec.specs.declared.effect.Stepped.TheVariants as stepped
use Rattle.rv_exec.specs.Memory.{Byte, Memory, all_writable, amo, load, number_at, store, swapped, with_number}
use Rattle.rv_exec.specs.Registers.{Registers, get, plus, set, set_pc}
use Rattle.rv_exec.specs.Step.{Outcome, Done, Call, Trap, load_len, on_amo, on_load, on_store, step, store_len}
use Rattle.data_memory.specs.Ranges.{bytes_at}
use Rattle.data_memory.proofs.Maps.{get_insert_other}
use Rattle.plain_machine.specs.Environment.{Answer, Traps, Goes, call, is_output, wrote}
use Rattle.plain_machine.specs.Plain.{on_instruction, on_outcome}
use Rattle.text_words.specs.declared.fetch.Fetch.{Fetch}
use Rattle.text_words.specs.declared.fetch.Fetch.TheVariants.{Absent, Planted, Illegal, Instruction}
use Rattle.text_words.specs.Words.{Words, fetched}
use Rattle.hart_machine.specs.declared.hart.Core.{Core}
use Rattle.hart_machine.specs.Patched.{Patched}
use Rattle.hart_machine.specs.Running.{AllRan}
use Rattle.hart_machine.specs.Stepping.{FetchGives, StepGives, Steps, StepsTo}
use Rattle.hart_machine.proofs.Copying.{fetch_text}
use Rattle.watch_points.specs.declared.watchpoint.Watch.{Watch}
use Rattle.watch_points.specs.Watches.{IsKeptBut, behind, fired_by}
use Rattle.watch_points.proofs.Firing.{apart_fires, none_fires}
use Rattle.engine_parts.specs.Watching.{is_near, meets_stored, stored_at, stored_by, written}

-- ---- the memory behind an instruction

abbrev behind_answer : Answer → Memory → Memory
behind_answer (Traps cause) m = m
behind_answer (Goes r k out leave) m = k

gives_memory : (s : Stepped) (a : Answer) (r q : Registers) (m k : Memory) → StepGives s a r q m k → k ≡ behind_answer a m
gives_memory stepped.Ran a r q m k g = sym (ap (λ b. behind_answer b m) g)
gives_memory (stepped.Wrote addr len) a r q m k g = sym (ap (λ b. behind_answer b m) g.3)
gives_memory (stepped.HartExit code) a r q m k g = sym (ap (λ b. behind_answer b m) g)
gives_memory (stepped.AllExit code) a r q m k g = sym (ap (λ b. behind_answer b m) g)
gives_memory stepped.Hit a r q m k g = absurd g
gives_memory (stepped.Trap cause) a r q m k g = g.2 ∙ sym (ap (λ b. behind_answer b m) g.0)

abbrev behind_outcome : Outcome → Memory → Memory
behind_outcome (Done r k) m = k
behind_outcome Call m = m
behind_outcome (Trap cause) m = m

-- the environment writes no memory
wrote_same : (r : Registers) (m : Memory) (o : Option (List ℕ)) → behind_answer (wrote r m o) m ≡ m
wrote_same r m None = refl
wrote_same r m (Some bytes) = refl

write_by : (r : Registers) (m : Memory) (a b : Answer) (c : Bool) → behind_answer a m ≡ m → behind_answer b m ≡ m → behind_answer (cond c a b) m ≡ m
write_by r m a b true e f = e
write_by r m a b false e f = f

call_same : (r : Registers) (m : Memory) → behind_answer (call r m) m ≡ m
unfolding call
call_same r m =
    write_by r m _ _ (get r 17 == 64) (write_by r m _ _ (is_output (get r 10)) (wrote_same r m (bytes_at m (get r 11) (min (get r 12) 4096))) refl)
    (write_by r m _ _ (get r 17 == 93) refl (write_by r m _ _ (get r 17 == 94) refl refl))

outcome_memory : (r : Registers) (m : Memory) (o : Outcome) → behind_answer (on_outcome r m o) m ≡ behind_outcome o m
outcome_memory r m (Done q k) = refl
outcome_memory r m Call = call_same r m
outcome_memory r m (Trap cause) = refl

-- ---- which instructions leave it as it is

jump_same : (target : ℕ) (q : Registers) (m : Memory) (b : Bool) → behind_outcome (cond b (Done (set_pc q target) m) (Trap FetchAlign)) m ≡ m
jump_same target q m true = refl
jump_same target q m false = refl

branch_same : (a b : Outcome) (m : Memory) (c : Bool) → behind_outcome a m ≡ m → behind_outcome b m ≡ m → behind_outcome (cond c a b) m ≡ m
branch_same a b m true e f = e
branch_same a b m false e f = f

load_same : (op : LoadOp) (rd : ℕ) (r : Registers) (m : Memory) (o : Result ℕ Cause) → behind_outcome (on_load op rd r m o) m ≡ m
load_same op rd r m (Ok n) = refl
load_same op rd r m (Err c) = refl

-- ---- which bytes a store leaves as they are

put_below : (m : Memory) (a len v q : ℕ) → q < a → map.get (with_number m a len v) q ≡ map.get m q
put_below m a zero v q low = refl
put_below m a (suc len) v q low =
    let b : Byte = record { value = v % 256; is_writable = true } in
    let apart : q ≡ a → ⊥ = λ same. omega (arith, same, low) in
    let next : q < a + 1 = omega (arith, low) in
    get_insert_other (with_number m (a + 1) len (v / 256)) a q b apart ∙ put_below m (a + 1) len (v / 256) q next

put_above : (m : Memory) (a len v q : ℕ) → a + len ≤ q → map.get (with_number m a len v) q ≡ map.get m q
put_above m a zero v q high = refl
put_above m a (suc len) v q high =
    let b : Byte = record { value = v % 256; is_writable = true } in
    let apart : q ≡ a → ⊥ = λ same. omega (arith, same, high) in
    let next : (a + 1) + len ≤ q = omega (arith, high) in
    get_insert_other (with_number m (a + 1) len (v / 256)) a q b apart ∙ put_above m (a + 1) len (v / 256) q next

put_by : (m : Memory) (a len v q : ℕ) → q < 2 ^ 32 → len ≤ behind a q → (q < a) ⊎ (a ≤ q) → map.get (with_number m a len v) q ≡ map.get m q
put_by m a len v q low far (inl below) = put_below m a len v q below
put_by m a len v q low far (inr above) = let high : a + len ≤ q = omega (arith, low, far, above) in put_above m a len v q high

put_kept : (m : Memory) (a len v : ℕ) → IsKeptBut a len m (with_number m a len v)
put_kept m a len v q low far = ap (option_map (λ (b : Byte). b.value)) (sym (put_by m a len v q low far (cases_lt q a)))

same_kept : (a len : ℕ) (m : Memory) → IsKeptBut a len m m
same_kept a len m q low far = refl

store_by : (m : Memory) (r : Registers) (a len v : ℕ) (aligned writable : Bool)
    → IsKeptBut a len m (behind_outcome (on_store r (cond aligned (cond writable (Ok (with_number m a len v)) (Err StoreFault)) (Err StoreAlign))) m)
store_by m r a len v true true = put_kept m a len v
store_by m r a len v true false = same_kept a len m
store_by m r a len v false w = same_kept a len m

store_kept : (m : Memory) (r : Registers) (a len v : ℕ) → IsKeptBut a len m (behind_outcome (on_store r (store m a len v)) m)
unfolding store
store_kept m r a len v = store_by m r a len v (a % len == 0) (all_writable m a len)

swap_kept : (m : Memory) (r : Registers) (op : AmoOp) (rd a v : ℕ) (o : Option ℕ) → IsKeptBut a 4 m (behind_outcome (on_amo rd r (swapped m op a v o)) m)
swap_kept m r op rd a v None = same_kept a 4 m
swap_kept m r op rd a v (Some old) = put_kept m a 4 (amo_value op old v)

amo_by : (m : Memory) (r : Registers) (op : AmoOp) (rd a v : ℕ) (aligned writable : Bool)
    → IsKeptBut a 4 m (behind_outcome (on_amo rd r (cond aligned (cond writable (swapped m op a v (number_at m a 4)) (Err StoreFault)) (Err StoreAlign))) m)
amo_by m r op rd a v true true = swap_kept m r op rd a v (number_at m a 4)
amo_by m r op rd a v true false = same_kept a 4 m
amo_by m r op rd a v false w = same_kept a 4 m

amo_kept : (m : Memory) (r : Registers) (op : AmoOp) (rd a v : ℕ) → IsKeptBut a 4 m (behind_outcome (on_amo rd r (amo m op a v)) m)
unfolding amo
amo_kept m r op rd a v = amo_by m r op rd a v (a % 4 == 0) (all_writable m a 4)

-- ---- what fires

-- where memory stays nothing fires
same_fires : (vs : List Watch) (m k : Memory) → k ≡ m → fired_by vs m k ≡ None
same_fires vs m k same = ap (fired_by vs m) same ∙ none_fires vs m

step_fires : (vs : List Watch) (r : Registers) (m : Memory) (i : Instr) → meets_stored vs (stored_by r i) ≡ false → fired_by vs m (behind_outcome (step i r m) m) ≡ None
step_fires vs r m (Lui rd imm) off = none_fires vs m
step_fires vs r m (Auipc rd imm) off = none_fires vs m
step_fires vs r m (Jal rd imm) off = same_fires vs m _ (let target = plus r.pc imm in jump_same target (set r rd (plus r.pc 4)) m (target % 4 == 0))
step_fires vs r m (Jalr rd rs1 imm) off =
    same_fires vs m _ (let target = plus (get r rs1) imm in jump_same (target - target % 2) (set r rd (plus r.pc 4)) m ((target - target % 2) % 4 == 0))
step_fires vs r m (Branch op rs1 rs2 imm) off =
    same_fires vs m _ (let target = plus r.pc imm in branch_same _ _ m (is_taken op (get r rs1) (get r rs2)) (jump_same target r m (target % 4 == 0)) refl)
step_fires vs r m (Load op rd rs1 imm) off = same_fires vs m _ (load_same op rd r m (load m (plus (get r rs1) imm) (load_len op)))
step_fires vs r m (Store op rs1 rs2 imm) off =
    apart_fires vs (plus (get r rs1) imm) (store_len op) m (behind_outcome (step (Store op rs1 rs2 imm) r m) m) (store_kept m r (plus (get r rs1) imm) (store_len op) (get r rs2)) off
step_fires vs r m (OpImm op rd rs1 imm) off = none_fires vs m
step_fires vs r m (Op op rd rs1 rs2) off = none_fires vs m
step_fires vs r m (MulDiv op rd rs1 rs2) off = none_fires vs m
step_fires vs r m (Amo op rd rs1 rs2) off =
    apart_fires vs (get r rs1) 4 m (behind_outcome (step (Amo op rd rs1 rs2) r m) m) (amo_kept m r op rd (get r rs1) (get r rs2)) off
step_fires vs r m Fence off = none_fires vs m
step_fires vs r m FenceI off = none_fires vs m
step_fires vs r m Ecall off = none_fires vs m
step_fires vs r m Ebreak off = none_fires vs m

instruction_fires : (vs : List Watch) (s : Stepped) (r q : Registers) (m k : Memory) (i : Instr) → StepGives s (on_instruction r m (Some i)) r q m k → meets_stored vs (stored_by r i) ≡ false → fired_by vs m k ≡ None
instruction_fires vs s r q m k i g off =
    ap (fired_by vs m) (gives_memory s (on_outcome r m (step i r m)) r q m k g ∙ outcome_memory r m (step i r m)) ∙ step_fires vs r m i off

fetched_fires : (vs : List Watch) (s : Stepped) (r q : Registers) (m k : Memory) (f : Fetch) → FetchGives s f r q m k → meets_stored vs (stored_at r f) ≡ false → fired_by vs m k ≡ None
fetched_fires vs s r q m k Absent g off = same_fires vs m k (gives_memory s (Traps FetchFault) r q m k g)
fetched_fires vs s r q m k Planted g off = same_fires vs m k g.2
fetched_fires vs s r q m k Illegal g off = same_fires vs m k (gives_memory s (Traps causes.Illegal) r q m k g)
fetched_fires vs s r q m k (Instruction i) g off = instruction_fires vs s r q m k i g off

none_entered : (o : Option ℕ) (b : Bool) → (is_some o || b) ≡ false → (o ≡ None) × (b ≡ false)
none_entered None b e = (refl, e)
none_entered (Some n) b e = cc

-- a step of a hart that isn't near a watch
far_by : (vs : List Watch) (s : Stepped) (m new : Patched) (h : ℕ) (c : Core) → is_near m.text c vs ≡ false → (t : StepsTo s m h c new) → fired_by vs m.memory t.memory ≡ None
far_by [] s m new h c far t = refl
far_by (w ∷ vs) s m new h c far t =
    let e = none_entered c.entered _ far in
    let G : Fetch → Type 0 = λ f. FetchGives s f c.regs t.core.regs m.memory t.memory in
    fetched_fires (w ∷ vs) s c.regs t.core.regs m.memory t.memory (fetched m.text c.regs.pc) (subst G (fetch_text m c e.0) t.steps.gives) e.1

pub far_fires : (vs : List Watch) (s : Stepped) (m new : Patched) (h : ℕ) (c : Core) → is_near m.text c vs ≡ false → StepsTo s m h c new → fired_by vs m.memory new.memory ≡ None
far_fires vs s m new h c far t = ap (λ (q : Patched). fired_by vs m.memory q.memory) t.machine ∙ far_by vs s m new h c far t

-- the same of one that the machine ran
pub ran_far : (vs : List Watch) (m new : Patched) (h n : ℕ) (c : Core) → n ≡ 1 → AllRan n m h new → slice_get m.cores h ≡ Some c → is_near m.text c vs ≡ false → fired_by vs m.memory new.memory ≡ None
ran_far vs m new h n c one ran at far =
    let r : AllRan 1 m h new = subst (λ k. AllRan k m h new) one ran in
    let step : Steps stepped.Ran m h new = subst (λ (q : Patched). Steps stepped.Ran q h new) r.before r.step in
    far_fires vs stepped.Ran m new h c far (step c at)

-- no hart is near where nothing is watched
pub near_none : (t : Words) (c : Core) (vs : List Watch) → (length vs == 0) ≡ true → is_near t c vs ≡ false
near_none t c [] none = refl
near_none t c (w ∷ vs) none = let e : length (w ∷ vs) ≡ 0 = grind (arith, nat_tests) in absurd (omega (arith, e))

pub near_some : (t : Words) (c : Core) (vs : List Watch) → (length vs == 0) ≡ false → is_near t c vs ≡ (is_some c.entered || meets_stored vs (written t c.regs))
near_some t c [] some = cc
near_some t c (w ∷ vs) some = refl
