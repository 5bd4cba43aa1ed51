-- Bytes and ranges that are read.
use Rattle.std.proofs.Common.{true, false, ◌≡◌, ℕ, suc, zero, ◌+◌, ◌%◌, ◌^◌, ◌<◌, List, [], ◌∷◌, length, refl, ap, sym, ◌∙◌, subst, arith, Some, None, Option, Ok, Err, Result}
use Rattle.std.specs.Prelude.{slice_index, IsSome}
use Rattle.std.specs.Option.{is_some}
use Rattle.std.specs.Result.{result_ok}
use Rattle.std.specs.FinMap as map
use Rattle.rv_exec.specs.Memory.{Memory, Byte}
use Rattle.data_memory.specs.Blocks.{spot}
use Rattle.data_memory.specs.Paged.{byte, byte_at, paged}
use Rattle.data_memory.specs.Ranges.{value_at, then_range, range_at, bytes_at}
use Rattle.data_memory.proofs.Maps.{get_below}

pub got : (pages : List ℕ) (bytes : List (Option Byte)) (k i : ℕ) → k < 2 ^ 32 → i ≡ spot pages k → map.get (paged pages bytes) k ≡ byte bytes i
got pages bytes k i l e = get_below (byte_at pages bytes) (2 ^ 32) k l ∙ ap (λ j. byte bytes j) (sym e)

some_then : (addr at : ℕ) (o : Option ℕ) (rest : Result (List ℕ) ℕ) → IsSome o → rest ≡ Err at → then_range addr o rest ≡ Err at
some_then addr at None rest s e = absurd (cc)
some_then addr at (Some v) rest s e = ap (then_range addr (Some v)) e

-- the first byte that isn't mapped ends the reading
pub unread : (m : Memory) (addr n i at : ℕ) → i < n → at ≡ (addr + i) % 2 ^ 32 → ((k : ℕ) → k < i → IsSome (value_at m ((addr + k) % 2 ^ 32))) → value_at m at ≡ None
    → range_at m addr n ≡ Err at
unread m addr zero i at l e before none = absurd (omega arith)
unread m addr (suc n) zero at l e before none =
    let here : addr % 2 ^ 32 ≡ at = omega arith in
    ap (λ a. then_range a (value_at m a) (range_at m (addr + 1) n)) here ∙ ap (λ o. then_range at o (range_at m (addr + 1) n)) none
unread m addr (suc n) (suc i) at l e before none =
    some_then (addr % 2 ^ 32) at (value_at m (addr % 2 ^ 32)) (range_at m (addr + 1) n)
    (let zeroth : (addr + 0) % 2 ^ 32 ≡ addr % 2 ^ 32 = omega arith in subst (λ a. IsSome (value_at m a)) zeroth (before 0 (omega arith)))
    (unread m (addr + 1) n i at (omega arith) (omega arith)
    (λ k s. let step : (addr + suc k) % 2 ^ 32 ≡ (addr + 1 + k) % 2 ^ 32 = omega arith in subst (λ a. IsSome (value_at m a)) step (before (suc k) (omega arith))) none)

pub all_read : (m : Memory) (addr : ℕ) (xs : List ℕ) → ((k : ℕ) → k < length xs → value_at m ((addr + k) % 2 ^ 32) ≡ Some (slice_index xs k)) → range_at m addr (length xs) ≡ Ok xs
all_read m addr [] h = refl
all_read m addr (x ∷ xs) h =
    let zeroth : addr % 2 ^ 32 ≡ (addr + 0) % 2 ^ 32 = omega arith in
    ap (λ o. then_range (addr % 2 ^ 32) o (range_at m (addr + 1) (length xs))) (ap (value_at m) zeroth ∙ h 0 (omega arith))
    ∙ ap (then_range (addr % 2 ^ 32) (Some x)) (all_read m (addr + 1) xs (λ k s.
    let step : (addr + 1 + k) % 2 ^ 32 ≡ (addr + suc k) % 2 ^ 32 = omega arith in ap (value_at m) step ∙ h (suc k) (omega arith)))

pub none_from_test : (o : Option ℕ) → is_some o ≡ false → o ≡ None
none_from_test None e = refl
none_from_test (Some v) e = absurd (cc)

then_some : (at : ℕ) (o : Option ℕ) (rest : Result (List ℕ) ℕ) → IsSome o → is_some (result_ok rest) ≡ true → is_some (result_ok (then_range at o rest)) ≡ true
then_some at None rest s e = absurd (cc)
then_some at (Some v) (Ok vs) s e = refl
then_some at (Some v) (Err a) s e = absurd (cc)

pub none_read : (m : Memory) (addr n at : ℕ) → range_at m addr n ≡ Err at → is_some (bytes_at m addr n) ≡ false
none_read m addr n at e = ap (λ r. is_some (result_ok r)) e

pub some_read : (m : Memory) (addr n : ℕ) → ((k : ℕ) → k < n → IsSome (value_at m ((addr + k) % 2 ^ 32))) → is_some (bytes_at m addr n) ≡ true
some_read m addr zero h = refl
some_read m addr (suc n) h =
    then_some (addr % 2 ^ 32) (value_at m (addr % 2 ^ 32)) (range_at m (addr + 1) n)
    (let zeroth : (addr + 0) % 2 ^ 32 ≡ addr % 2 ^ 32 = omega arith in subst (λ a. IsSome (value_at m a)) zeroth (h 0 (omega arith)))
    (some_read m (addr + 1) n (λ k s. let step : (addr + suc k) % 2 ^ 32 ≡ (addr + 1 + k) % 2 ^ 32 = omega arith in subst (λ a. IsSome (value_at m a)) step (h (suc k) (omega arith))))
