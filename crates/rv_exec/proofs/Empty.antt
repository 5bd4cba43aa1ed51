-- A memory with no byte answers each access by a fault.
use Rattle.std.proofs.Common.{◌≡◌, ℕ, suc, zero, ◌%◌, refl, cond, eqb, None, Err, arith, inl, inr}
use Rattle.std.specs.FinMap as map
use Rattle.std.specs.FinMap.{get-empty}
use Rattle.std.specs.Ordering.{nat_cmp}
use Rattle.rv_decode.specs.declared.instr.AmoOp.{AmoOp}
use Rattle.rv_exec.specs.declared.effect.Cause.TheVariants.{LoadFault, StoreFault, LoadAlign, StoreAlign}
use Rattle.rv_exec.specs.Memory.{IsLen, no_bytes, load, store, amo}

none : (k : ℕ) → map.get no_bytes k ≡ None
unfolding no_bytes
none k = get-empty nat_cmp k

pub loaded_no_bytes : (k n : ℕ) → IsLen n → load no_bytes k n ≡ cond (eqb (k % n) 0) (Err LoadFault) (Err LoadAlign)
unfolding load
loaded_no_bytes k zero len = absurd (elim len [ inl e ↦ omega arith | inr r ↦ elim r [ inl e ↦ omega arith | inr e ↦ omega arith ] ])
loaded_no_bytes k (suc n) len = rw none refl

pub stored_no_bytes : (k n v : ℕ) → IsLen n → store no_bytes k n v ≡ cond (eqb (k % n) 0) (Err StoreFault) (Err StoreAlign)
unfolding store
stored_no_bytes k zero v len = absurd (elim len [ inl e ↦ omega arith | inr r ↦ elim r [ inl e ↦ omega arith | inr e ↦ omega arith ] ])
stored_no_bytes k (suc n) v len = rw none refl

pub swapped_no_bytes : (op : AmoOp) (k v : ℕ) → amo no_bytes op k v ≡ cond (eqb (k % 4) 0) (Err StoreFault) (Err StoreAlign)
unfolding amo
swapped_no_bytes op k v = rw none refl

pub ruleset empties = (loaded_no_bytes, stored_no_bytes, swapped_no_bytes)
