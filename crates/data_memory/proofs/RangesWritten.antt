-- Ranges that are written.
use Rattle.std.proofs.Common.{◌≡◌, ℕ, suc, zero, ◌+◌, ◌%◌, ◌^◌, ◌<◌, List, length, drop, refl, ap, sym, ◌∙◌, subst, arith, inl, inr, Bool, true, false, cond, ◌&&◌, Some, None, Option}
use Rattle.std.specs.Prelude.{slice_index, slice_set}
use Rattle.std.specs.FinMap as map
use Rattle.std.proofs.lemmas.Bool.{cases_eq}
use Rattle.std.proofs.lemmas.List.{drop_more}
use Rattle.rv_exec.specs.Memory.{Memory, Byte, is_writable}
use Rattle.data_memory.specs.Blocks.{spot}
use Rattle.data_memory.specs.Paged.{byte, paged, IsPaged}
use Rattle.data_memory.specs.Ranges.{first_unwritable, with_byte, with_bytes}
use Rattle.data_memory.proofs.Maps.{get_insert_same, get_insert_other}
use Rattle.data_memory.proofs.Blocked.{spot_within}
use Rattle.data_memory.proofs.RangesRead.{got}
use Rattle.data_memory.proofs.Pages.{paged_set, paged_kept, not_absent}

-- the first byte that isn't writable
pub unwritable : (m : Memory) (addr n i at : ℕ) → i < n → at ≡ (addr + i) % 2 ^ 32 → ((k : ℕ) → k < i → is_writable (map.get m ((addr + k) % 2 ^ 32)) ≡ true) → is_writable (map.get m at) ≡ false
    → Some at ≡ first_unwritable m addr n
unwritable m addr zero i at l e before not = absurd (omega arith)
unwritable m addr (suc n) zero at l e before not =
    let here : at ≡ addr % 2 ^ 32 = omega arith in
    ap Some here ∙ sym (ap (λ b. cond b (first_unwritable m (addr + 1) n) (Some (addr % 2 ^ 32))) (ap (λ a. is_writable (map.get m a)) (sym here) ∙ not))
unwritable m addr (suc n) (suc i) at l e before not =
    let zeroth : addr % 2 ^ 32 ≡ (addr + 0) % 2 ^ 32 = omega arith in
    unwritable m (addr + 1) n i at (omega arith) (omega arith)
    (λ k s. let step : (addr + 1 + k) % 2 ^ 32 ≡ (addr + suc k) % 2 ^ 32 = omega arith in ap (λ a. is_writable (map.get m a)) step ∙ before (suc k) (omega arith)) not
    ∙ sym (ap (λ b. cond b (first_unwritable m (addr + 1) n) (Some (addr % 2 ^ 32))) (ap (λ a. is_writable (map.get m a)) zeroth ∙ before 0 (omega arith)))

pub none_unwritable : (m : Memory) (addr n : ℕ) → ((k : ℕ) → k < n → is_writable (map.get m ((addr + k) % 2 ^ 32)) ≡ true) → None ≡ first_unwritable m addr n
none_unwritable m addr zero all = refl
none_unwritable m addr (suc n) all =
    let zeroth : addr % 2 ^ 32 ≡ (addr + 0) % 2 ^ 32 = omega arith in
    none_unwritable m (addr + 1) n (λ k s. let step : (addr + 1 + k) % 2 ^ 32 ≡ (addr + suc k) % 2 ^ 32 = omega arith in ap (λ a. is_writable (map.get m a)) step ∙ all (suc k) (omega arith))
    ∙ sym (ap (λ b. cond b (first_unwritable m (addr + 1) n) (Some (addr % 2 ^ 32))) (ap (λ a. is_writable (map.get m a)) zeroth ∙ all 0 (omega arith)))

is_then : (b : Bool) (o : Option ℕ) (a : ℕ) → cond b o (Some a) ≡ None → (b ≡ true) × (o ≡ None)
is_then true o a e = (refl, e)
is_then false o a e = cc

-- where there is no such byte, each is writable
pub each_writable : (m : Memory) (addr n : ℕ) → first_unwritable m addr n ≡ None → (k : ℕ) → k < n → is_writable (map.get m ((addr + k) % 2 ^ 32)) ≡ true
each_writable m addr zero e k l = absurd (omega arith)
each_writable m addr (suc n) e zero l =
    let zeroth : (addr + 0) % 2 ^ 32 ≡ addr % 2 ^ 32 = omega arith in
    ap (λ a. is_writable (map.get m a)) zeroth ∙ (is_then (is_writable (map.get m (addr % 2 ^ 32))) (first_unwritable m (addr + 1) n) (addr % 2 ^ 32) e).0
each_writable m addr (suc n) e (suc k) l =
    let step : (addr + suc k) % 2 ^ 32 ≡ (addr + 1 + k) % 2 ^ 32 = omega arith in
    ap (λ a. is_writable (map.get m a)) step ∙ each_writable m (addr + 1) n (is_then (is_writable (map.get m (addr % 2 ^ 32))) (first_unwritable m (addr + 1) n) (addr % 2 ^ 32) e).1 k (omega arith)

-- writable bytes stay so
pub still_writable : (m : Memory) (at v q : ℕ) → is_writable (map.get m q) ≡ true → is_writable (map.get (with_byte m at v) q) ≡ true
still_writable m at v q w =
    elim (cases_eq q at) [
      | inl e ↦ ap is_writable (get_insert_same m at q (record { value = v; is_writable = true }) e)
      | inr d ↦ ap is_writable (get_insert_other m at q (record { value = v; is_writable = true }) d) ∙ w
    ]

-- one byte of pages is written
module _ (pages : List ℕ) (bytes : List (Option Byte)) (addr i v : ℕ) (h : IsPaged pages bytes) (l : addr < 2 ^ 32) (e : i ≡ spot pages addr) (w : is_writable (map.get (paged pages bytes) addr) ≡ true) where
  there : is_writable (byte bytes i) ≡ true
  there = ap is_writable (sym (got pages bytes addr i l e)) ∙ w

  pub put_memory : paged pages (slice_set bytes i (Some (record { value = v; is_writable = true }))) ≡ with_byte (paged pages bytes) addr v
  put_memory =
      paged_set pages bytes bytes addr i v h l (sym e)
      (omega (arith, e, spot_within None 8388608 pages bytes addr h (omega (arith, l))))
      (not_absent (byte bytes i) there)

  pub put_paged : v < 256 → IsPaged pages (slice_set bytes i (Some (record { value = v; is_writable = true })))
  put_paged small =
      let low : v % 256 ≡ v = omega arith in
      subst (λ k. IsPaged pages (slice_set bytes i (Some (record { value = k; is_writable = true })))) low
      (paged_kept pages bytes i 1 v h (ap (λ b. b && true) there))

-- one more byte of the range
pub one_more : (m : Memory) (addr i at v : ℕ) (values : List ℕ) → i < length values → at ≡ (addr + i) % 2 ^ 32 → v ≡ slice_index values i
    → with_bytes (with_byte m at v) (addr + (i + 1)) (drop (i + 1) values) ≡ with_bytes m (addr + i) (drop i values)
one_more m addr i at v values l e is =
    let step : addr + (i + 1) ≡ addr + i + 1 = omega arith in
    ap (λ a. with_bytes (with_byte m at v) a (drop (i + 1) values)) step
    ∙ ap (λ a. with_bytes (with_byte m a v) (addr + i + 1) (drop (i + 1) values)) e
    ∙ ap (λ b. with_bytes (with_byte m ((addr + i) % 2 ^ 32) b) (addr + i + 1) (drop (i + 1) values)) is
    ∙ sym (ap (with_bytes m (addr + i)) (drop_more values i 0 l))
