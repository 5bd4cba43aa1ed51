-- For what an instruction traps.
use Rattle.std.proofs.Common.{◌≡◌, ◌≤◌, ◌<◌, ◌+◌, ◌%◌, ◌^◌, ℕ, zero, suc, Bool, true, false, cond, refl, sym, ap, ◌∙◌, subst, inl, inr, arith, ◌&&◌}
use Rattle.std.specs.Prelude.{Option, Some, None, is_some, Ok, Err, ◌==◌, List, []}
use Rattle.std.specs.Option.{is_none}
use Rattle.std.specs.Result.{result_err}
use Rattle.std.specs.FinMap as map
use Rattle.rv_decode.specs.declared.instr.AmoOp.{AmoOp}
use Rattle.rv_decode.specs.declared.instr.Instr.{Instr}
use Rattle.rv_decode.specs.Decode.{decode}
use Rattle.rv_exec.specs.declared.effect.Cause.{Cause}
use Rattle.rv_exec.specs.declared.effect.Cause.TheVariants.{StoreAlign, StoreFault}
use Rattle.rv_exec.specs.Registers.{Registers, get}
use Rattle.rv_exec.specs.Memory.{Memory, Byte, IsLen, all_writable, amo, is_writable, number_at, store, swapped, with_byte, with_number}
use Rattle.rv_exec.specs.Step.{Outcome, Done, Call, Trap, on_amo, step}
use Rattle.elf32_read.specs.Program.{Program, text_word}
use Rattle.data_memory.specs.Ranges.{bytes_at, first_unwritable}
use Rattle.plain_machine.specs.Environment.{Answer, call, is_output, wrote}
use Rattle.plain_machine.specs.Plain.{on_instruction, on_outcome, on_word, plain}
use Rattle.unpatched_machine.specs.Instruction.{outcome_trap, trap_of}

-- ---- stores

within : (addr len : ℕ) → IsLen len → addr % len ≡ 0 → addr < 2 ^ 32 → addr + len ≤ 2 ^ 32
within addr len (inl e) aligned low = omega arith
within addr len (inr (inl e)) aligned low = let b : addr % 2 ≡ 0 = subst (λ n. addr % n ≡ 0) e aligned in omega arith
within addr len (inr (inr e)) aligned low = let b : addr % 4 ≡ 0 = subst (λ n. addr % n ≡ 0) e aligned in omega arith

next_by : (b rest : Bool) (r : Option ℕ) (at : ℕ) → rest ≡ is_none r → (b && rest) ≡ is_none (cond b r (Some at))
next_by true rest r at e = e
next_by false rest r at e = refl

-- below the last address, bytes are all writable where no first one isn't
writable_is : (m : Memory) (addr n : ℕ) → addr + n ≤ 2 ^ 32 → all_writable m addr n ≡ is_none (first_unwritable m addr n)
writable_is m addr zero le = refl
writable_is m addr (suc n) le =
    let low : addr % 2 ^ 32 ≡ addr = omega arith in
    let rest = writable_is m (addr + 1) n (omega arith) in
    subst (λ a. (is_writable (map.get m addr) && all_writable m (addr + 1) n) ≡ is_none (cond (is_writable (map.get m a)) (first_unwritable m (addr + 1) n) (Some a))) (sym low)
    (next_by (is_writable (map.get m addr)) (all_writable m (addr + 1) n) (first_unwritable m (addr + 1) n) addr rest)

pub misaligned : (m : Memory) (addr len v : ℕ) → (addr % len == 0) ≡ false → Some StoreAlign ≡ result_err (store m addr len v)
unfolding store
misaligned m addr len v is = rw is refl

writes_by : (m : Memory) (addr len v : ℕ) (b : Bool) → (addr % len == 0) ≡ true → all_writable m addr len ≡ b → cond b None (Some StoreFault) ≡ result_err (store m addr len v)
unfolding store
writes_by m addr len v true aligned is = rw (aligned, is) refl
writes_by m addr len v false aligned is = rw (aligned, is) refl

pub unwritable : (m : Memory) (addr len v at : ℕ) → IsLen len → addr % len ≡ 0 → (addr % len == 0) ≡ true → addr < 2 ^ 32 → Some at ≡ first_unwritable m addr len → Some StoreFault ≡ result_err (store m addr len v)
unwritable m addr len v at is_len rest aligned low is = writes_by m addr len v false aligned (writable_is m addr len (within addr len is_len rest low) ∙ ap is_none (sym is))

pub writable : (m : Memory) (addr len v : ℕ) → IsLen len → addr % len ≡ 0 → (addr % len == 0) ≡ true → addr < 2 ^ 32 → None ≡ first_unwritable m addr len → None ≡ result_err (store m addr len v)
writable m addr len v is_len rest aligned low is = writes_by m addr len v true aligned (writable_is m addr len (within addr len is_len rest low) ∙ ap is_none (sym is))

-- ---- AMOs

second : (p q : Bool) → (p && q) ≡ true → q ≡ true
second true q e = e
second false q e = cc

number_by : (b : Option Byte) (rest : Bool) (n : Option ℕ) → (is_writable b && rest) ≡ true → (rest ≡ true → is_some n ≡ true) → is_some (with_byte b n) ≡ true
number_by None rest n e some = cc
number_by (Some b) rest None e some = some (second b.is_writable rest e)
number_by (Some b) rest (Some n) e some = refl

has_number : (m : Memory) (addr n : ℕ) → all_writable m addr n ≡ true → is_some (number_at m addr n) ≡ true
has_number m addr zero e = refl
has_number m addr (suc n) e = number_by (map.get m addr) (all_writable m (addr + 1) n) (number_at m (addr + 1) n) e (has_number m (addr + 1) n)

trap_by : (m : Memory) (op : AmoOp) (addr w v rd : ℕ) (r : Registers) (b c : Bool) (n : Option ℕ) → (c ≡ true → is_some n ≡ true)
    → result_err {T = Memory} {E = Cause} (cond b (cond c (Ok (with_number m addr 4 v)) (Err StoreFault)) (Err StoreAlign)) ≡ outcome_trap (on_amo rd r (cond b (cond c (swapped m op addr w n) (Err StoreFault)) (Err StoreAlign)))
trap_by m op addr w v rd r true true None some = let no : false ≡ true = some refl in cc
trap_by m op addr w v rd r true true (Some n) some = refl
trap_by m op addr w v rd r true false n some = refl
trap_by m op addr w v rd r false c n some = refl

-- an AMO traps as a store of its word does
pub amo_trap : (m : Memory) (op : AmoOp) (addr w v rd : ℕ) (r : Registers) → result_err (store m addr 4 v) ≡ outcome_trap (on_amo rd r (amo m op addr w))
unfolding store amo
amo_trap m op addr w v rd r = trap_by m op addr w v rd r (addr % 4 == 0) (all_writable m addr 4) (number_at m addr 4) (has_number m addr 4)

-- ---- the environment

either : (b : Bool) (x y : Answer) → trap_of x ≡ None → trap_of y ≡ None → trap_of (cond b x y) ≡ None
either true x y e f = e
either false x y e f = f

wrote_goes : (r : Registers) (m : Memory) (o : Option (List ℕ)) → trap_of (wrote r m o) ≡ None
wrote_goes r m None = refl
wrote_goes r m (Some bytes) = refl

call_goes : (r : Registers) (m : Memory) → trap_of (call r m) ≡ None
unfolding call
call_goes r m =
    either (get r 17 == 64) _ _ (either (is_output (get r 10)) _ _ (wrote_goes r m _) refl) (either (get r 17 == 93) _ _ refl (either (get r 17 == 94) _ _ refl refl))

outcome_is : (r : Registers) (m : Memory) (o : Outcome) → trap_of (on_outcome r m o) ≡ outcome_trap o
outcome_is r m (Done s n) = refl
outcome_is r m Call = call_goes r m
outcome_is r m (Trap cause) = refl

pub plain_trap : (p : Program) (r : Registers) (m : Memory) (w : ℕ) (i : Instr) → Some w ≡ text_word p r.pc → Some i ≡ decode w → trap_of (plain p r m) ≡ outcome_trap (step i r m)
unfolding plain
plain_trap p r m w i at is = ap (λ o. trap_of (on_word r m o)) (sym at) ∙ (ap (λ o. trap_of (on_instruction r m o)) (sym is) ∙ outcome_is r m (step i r m))
