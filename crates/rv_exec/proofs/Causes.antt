-- A refused access has one of the causes 2 to 5.
use Rattle.std.proofs.Common.{◌≡◌, ℕ, ◌%◌, ◌≤◌, Bool, true, false, Option, Some, None, Ok, Err, IfErr, arith}
use Rattle.std.proofs.lemmas.Result.{IfErr-at_err}
use Rattle.std.specs.Prelude.{if◌then◌else◌, ◌==◌}
use Rattle.rv_decode.specs.declared.instr.AmoOp.{AmoOp}
use Rattle.rv_exec.specs.declared.effect.Cause.{Cause}
use Rattle.rv_exec.specs.declared.effect.Cause.TheVariants.{StoreFault, LoadAlign, StoreAlign}
use Rattle.rv_exec.specs.Causes.{cause_number}
use Rattle.rv_exec.specs.Memory.{Memory, load, store, amo, number_at, all_writable, with_number, swapped, or_fault, old_word, without_memory}

abbrev IsOwn : Cause → Type 0
IsOwn c = cause_number c ≤ 6

of_load : (b : Bool) (n : Option ℕ) → IfErr (if b then or_fault n else Err LoadAlign) IsOwn
of_load true (Some n) = tt
of_load true None = omega arith
of_load false n = omega arith

of_store : (b d : Bool) (m : Memory) → IfErr (without_memory (if b then (if d then Ok m else Err StoreFault) else Err StoreAlign)) IsOwn
of_store true true m = tt
of_store true false m = omega arith
of_store false d m = omega arith

of_amo : (b d : Bool) (m : Memory) (op : AmoOp) (addr value : ℕ) (n : Option ℕ) → IfErr (old_word (if b then (if d then swapped m op addr value n else Err StoreFault) else Err StoreAlign)) IsOwn
of_amo true true m op addr value (Some n) = tt
of_amo true true m op addr value None = omega arith
of_amo true false m op addr value n = omega arith
of_amo false d m op addr value n = omega arith

pub refused_load : (m : Memory) (addr len : ℕ) (c : Cause) → load m addr len ≡ Err c → cause_number c ≤ 6
unfolding load
refused_load m addr len c h = IfErr-at_err IsOwn h (of_load (addr % len == 0) (number_at m addr len))

pub refused_store : (m : Memory) (addr len value : ℕ) (c : Cause) → without_memory (store m addr len value) ≡ Err c → cause_number c ≤ 6
unfolding store
refused_store m addr len value c h = IfErr-at_err IsOwn h (of_store (addr % len == 0) (all_writable m addr len) (with_number m addr len value))

pub refused_amo : (m : Memory) (op : AmoOp) (addr value : ℕ) (c : Cause) → old_word (amo m op addr value) ≡ Err c → cause_number c ≤ 6
unfolding amo
refused_amo m op addr value c h = IfErr-at_err IsOwn h (of_amo (addr % 4 == 0) (all_writable m addr 4) m op addr value (number_at m addr 4))
