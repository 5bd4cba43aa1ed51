-- Loads, stores and AMOs over bytes in pages.
use Rattle.std.proofs.Common.{◌≡◌, ℕ, suc, zero, ◌+◌, ◌%◌, ◌^◌, ◌<◌, inr, List, refl, ap, sym, arith, true, false, Some, None, Option, Ok, Err, ok_or}
use Rattle.std.specs.Prelude.{◌==◌}
use Rattle.std.proofs.lemmas.Bool.Decides.{nat_tests}
use Rattle.rv_decode.specs.declared.instr.AmoOp.{AmoOp}
use Rattle.rv_exec.specs.declared.effect.Cause.TheVariants.{LoadFault, StoreFault}
use Rattle.rv_exec.specs.Arithmetic.{amo_value}
use Rattle.rv_exec.specs.Memory.{Byte, load, store, amo, or_fault, with_byte, is_writable, IsLen}
use Rattle.data_memory.specs.Blocks.{spot}
use Rattle.data_memory.specs.Paged.{byte, paged, IsPaged, spelled, are_writable, with_number_at}
use Rattle.data_memory.proofs.Pages.{Along, along, and_first, and_second, room, number_along, writable_along, store_along}

pub load_is : (pages : List ℕ) (bytes : List (Option Byte)) (k n : ℕ) → IsLen n → k % n ≡ 0 → k < 2 ^ 32
    → load (paged pages bytes) k n ≡ or_fault (spelled bytes (spot pages k) n)
unfolding load
load_is pages bytes k n len a l = rw (a, number_along pages bytes k (spot pages k) n (along pages k n len a l)) refl

pub store_no : (pages : List ℕ) (bytes : List (Option Byte)) (k n v : ℕ) → IsLen n → k % n ≡ 0 → k < 2 ^ 32 → are_writable bytes (spot pages k) n ≡ false
    → store (paged pages bytes) k n v ≡ Err StoreFault
unfolding store
store_no pages bytes k n v len a l w = rw (a, writable_along pages bytes k (spot pages k) n (along pages k n len a l), w) refl

pub store_yes : (pages : List ℕ) (bytes : List (Option Byte)) (k n v : ℕ) → IsPaged pages bytes → IsLen n → k % n ≡ 0 → k < 2 ^ 32 → are_writable bytes (spot pages k) n ≡ true
    → store (paged pages bytes) k n v ≡ Ok (paged pages (with_number_at bytes (spot pages k) n v))
unfolding store
store_yes pages bytes k n v h len a l w =
    let al : Along pages k (spot pages k) n = along pages k n len a l in
    rw (a, writable_along pages bytes k (spot pages k) n al, w)
    (ap Ok (sym (store_along pages bytes k (spot pages k) n v h al (room pages bytes k n h len a l) w)))

pub amo_no : (pages : List ℕ) (bytes : List (Option Byte)) (op : AmoOp) (k v : ℕ) → k % 4 ≡ 0 → k < 2 ^ 32 → are_writable bytes (spot pages k) 4 ≡ false
    → amo (paged pages bytes) op k v ≡ Err StoreFault
unfolding amo
amo_no pages bytes op k v a l w = rw (a, writable_along pages bytes k (spot pages k) 4 (along pages k 4 (inr (inr refl)) a l), w) refl

pub amo_yes : (pages : List ℕ) (bytes : List (Option Byte)) (op : AmoOp) (k v old : ℕ) → IsPaged pages bytes → k % 4 ≡ 0 → k < 2 ^ 32 → are_writable bytes (spot pages k) 4 ≡ true
    → spelled bytes (spot pages k) 4 ≡ Some old → amo (paged pages bytes) op k v ≡ Ok (old, paged pages (with_number_at bytes (spot pages k) 4 (amo_value op old v)))
unfolding amo
amo_yes pages bytes op k v old h a l w is =
    let al : Along pages k (spot pages k) 4 = along pages k 4 (inr (inr refl)) a l in
    rw (a, writable_along pages bytes k (spot pages k) 4 al, w, number_along pages bytes k (spot pages k) 4 al, is)
    (ap (λ m. Ok (old, m)) (sym (store_along pages bytes k (spot pages k) 4 (amo_value op old v) h al (room pages bytes k 4 h (inr (inr refl)) a l) w)))

-- writable bytes spell a number
spells : (b : Option Byte) (o : Option ℕ) → is_writable b ≡ true → (o ≡ None → ⊥) → with_byte b o ≡ None → ⊥
spells None o w n e = cc
spells (Some b) None w n e = n refl
spells (Some b) (Some k) w n e = cc

pub writable_spells : (bytes : List (Option Byte)) (i n : ℕ) → are_writable bytes i n ≡ true → spelled bytes i n ≡ None → ⊥
writable_spells bytes i zero w e = cc
writable_spells bytes i (suc n) w e =
    spells (byte bytes i) (spelled bytes (i + 1) n) (and_first (is_writable (byte bytes i)) (are_writable bytes (i + 1) n) w)
    (writable_spells bytes (i + 1) n (and_second (is_writable (byte bytes i)) (are_writable bytes (i + 1) n) w)) e

pub or_fault_is : (o : Option ℕ) → ok_or o LoadFault ≡ or_fault o
or_fault_is None = refl
or_fault_is (Some n) = refl

-- a test of alignment that held
pub aligned : (k n : ℕ) → true ≡ (k % n == 0) → k % n ≡ 0
aligned k n e = grind (arith, nat_tests)
