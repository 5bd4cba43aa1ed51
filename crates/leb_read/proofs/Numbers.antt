-- Bounds of the numbers that bytes spell.
use Rattle.std.proofs.Common.{◌-◌, ◌≡◌, ◌<◌, ◌≤◌, ◌+◌, ◌*◌, ◌%◌, ◌^◌, ℕ, zero, suc, List, [], ◌∷◌, length, drop, get_or, arith, take, Bool, Err, length-drop, refl, ap, ◌∙◌, pow-add, true, false, ◌⊎◌, inl, inr, sym, subst}
use Rattle.std.proofs.Math.Nat.{eq-or-lt_of_le, mul-le-mul_left, pow-succ'}
use Rattle.std.proofs.lemmas.Bool.Decides.{nat_tests}
use Rattle.std.proofs.lemmas.Bool.{lt-ltb}
use Rattle.std.proofs.lemmas.List.{length-take-le, length-take}
use Rattle.std.proofs.lemmas.List.Sums.{take_while-cons}
use Rattle.std.specs.List.{take_while}
use lib.Dec.{ltb}
use Rattle.leb_read.specs.declared.fault.Leb.TheVariants.{Short}
use Rattle.leb_read.specs.Leb.{HasFit, goes_on, is_wide, last_byte, leb_at, leb_length, spelled}

some_power : (n : ℕ) → 1 ≤ 128 ^ n
some_power zero = omega arith
some_power (suc n) = omega (arith, some_power n)

pub powers : (k n : ℕ) → k ≤ n → 128 ^ k ≤ 128 ^ n
powers zero n h = some_power n
powers (suc k) zero h = absurd (omega arith)
powers (suc k) (suc n) h = omega (arith, powers k n (omega arith))

spelled_bound : (n : ℕ) (bs : List ℕ) → length bs ≡ n → spelled bs < 128 ^ n
spelled_bound zero [] h = omega arith
spelled_bound (suc n) [] h = absurd (omega arith)
spelled_bound zero (b ∷ bs) h = absurd (omega arith)
spelled_bound (suc n) (b ∷ bs) h = omega (arith, spelled_bound n bs (omega arith))

-- of at most ten bytes
pub spelled_fits : (bs : List ℕ) → length bs ≤ 10 → spelled bs < 2 ^ 70
spelled_fits bs h = omega (arith, spelled_bound (length bs) bs refl, powers (length bs) 10 h)

times : (q m : ℕ) → 128 * q * m ≡ 128 * (q * m)
times q m = omega arith

-- what the last byte says
last_above : (n m : ℕ) (bs : List ℕ) → length bs ≡ suc n → m ≡ get_or bs n 0 % 128 → 128 ^ n * m ≤ spelled bs
last_above n m [] h e = absurd (omega arith)
last_above zero m (b ∷ bs) h e = omega arith
last_above (suc n) m (b ∷ bs) h e =
    let p : 128 ^ suc n * m ≡ 128 * (128 ^ n * m) = ap (λ (x : ℕ). x * m) (pow-succ' 128 n) ∙ times (128 ^ n) m in
    omega (arith, last_above n m bs (omega arith) e)

last_below : (n m : ℕ) (bs : List ℕ) → length bs ≡ suc n → m ≡ get_or bs n 0 % 128 → spelled bs < 128 ^ n * m + 128 ^ n
last_below n m [] h e = absurd (omega arith)
last_below zero m (b ∷ []) h e = omega arith
last_below zero m (b ∷ c ∷ bs) h e = absurd (omega arith)
last_below (suc n) m (b ∷ bs) h e =
    let p : 128 ^ suc n * m ≡ 128 * (128 ^ n * m) = ap (λ (x : ℕ). x * m) (pow-succ' 128 n) ∙ times (128 ^ n) m in
    omega (arith, last_below n m bs (omega arith) e)

pub leb_some : (bytes : List ℕ) → 0 < leb_length bytes
unfolding leb_length
leb_some bytes = omega arith

run_by : (x n : ℕ) (xs : List ℕ) (t : Bool) → goes_on x ≡ t → length (take_while goes_on xs) ≤ n → length (take_while goes_on (x ∷ xs)) ≤ suc n
run_by x n xs true e h = rw (take_while-cons goes_on x xs, e) (omega (arith, h))
run_by x n xs false e h = rw (take_while-cons goes_on x xs, e) (omega arith)

run_most : (xs : List ℕ) → length (take_while goes_on xs) ≤ length xs
run_most [] = omega arith
run_most (x ∷ xs) = run_by x (length xs) xs (goes_on x) refl (run_most xs)

pub leb_most : (bytes : List ℕ) → leb_length bytes ≤ 10
unfolding leb_length
leb_most bytes = omega (arith, run_most (take 9 bytes), length-take 9 bytes)

tenth_unsigned : (bs : List ℕ) → is_wide false bs ≡ false → length bs ≡ 10 → get_or bs 9 0 ≤ 1
tenth_unsigned bs h e = grind (arith, nat_tests)

tenth_signed : (bs : List ℕ) → is_wide true bs ≡ false → length bs ≡ 10 → (get_or bs 9 0 ≡ 0) ⊎ (get_or bs 9 0 ≡ 0x7F)
tenth_signed bs h e = grind (arith, nat_tests)

pub unsigned_fits : (bs : List ℕ) → HasFit false bs → spelled bs < 2 ^ 64
unsigned_fits bs h = elim (eq-or-lt_of_le h.at_most) [
  | inl e ↦ omega (arith, tenth_unsigned bs h.narrow e, last_below 9 (get_or bs 9 0 % 128) bs e refl)
  | inr l ↦ omega (arith, spelled_bound (length bs) bs refl, powers (length bs) 9 (omega arith))
]

-- two to the power of seven bits a byte
pub bits : (n : ℕ) → 2 ^ (7 * n) ≡ 128 ^ n
bits zero = refl
bits (suc n) =
    let e : 7 * suc n ≡ 7 + 7 * n = omega arith in
    ap (λ (k : ℕ). 2 ^ k) e ∙ pow-add 2 7 (7 * n) ∙ ap (λ (x : ℕ). 128 * x) (bits n) ∙ sym (pow-succ' 128 n)

-- the numbers with a sign
pub record Signed (bs : List ℕ) : Type 0 where
  pub below : spelled bs < 128 ^ length bs
  pub negative : 64 ≤ last_byte bs % 128 → 128 ^ length bs ≤ spelled bs + 2 ^ 63
  pub positive : last_byte bs % 128 < 64 → spelled bs < 2 ^ 63

shorter : (k m v : ℕ) → k ≤ 8 → 128 ^ k * m ≤ v → v < 128 ^ k * m + 128 ^ k → (64 ≤ m → 128 ^ suc k ≤ v + 2 ^ 63) × (m < 64 → v < 2 ^ 63)
shorter k m v h above below =
    let most = powers k 8 h in
    let p = pow-succ' 128 k in
    ((λ s. omega (arith, mul-le-mul_left (128 ^ k) s)), (λ s. let t : m ≤ 63 = omega arith in omega (arith, mul-le-mul_left (128 ^ k) t)))

longest : (m v : ℕ) → (m ≡ 0) ⊎ (m ≡ 0x7F) → 128 ^ 9 * m ≤ v → v < 128 ^ 9 * m + 128 ^ 9 → (64 ≤ m → 128 ^ 10 ≤ v + 2 ^ 63) × (m < 64 → v < 2 ^ 63)
longest m v (inl e) above below = ((λ s. omega arith), (λ s. omega arith))
longest m v (inr e) above below = ((λ s. omega arith), (λ s. omega arith))

rest_of : (m b : ℕ) → m ≡ b % 128 → (b ≡ 0) ⊎ (b ≡ 0x7F) → (m ≡ 0) ⊎ (m ≡ 0x7F)
rest_of m b e (inl f) = inl (omega arith)
rest_of m b e (inr f) = inr (omega arith)

signed_ten : (k : ℕ) (bs : List ℕ) → k ≡ 9 → length bs ≡ suc k → HasFit true bs → (64 ≤ get_or bs k 0 % 128 → 128 ^ suc k ≤ spelled bs + 2 ^ 63) × (get_or bs k 0 % 128 < 64 → spelled bs < 2 ^ 63)
signed_ten k bs nine n h =
    subst (λ (k : ℕ). (64 ≤ get_or bs k 0 % 128 → 128 ^ suc k ≤ spelled bs + 2 ^ 63) × (get_or bs k 0 % 128 < 64 → spelled bs < 2 ^ 63)) (sym nine)
    (let ten : length bs ≡ 10 = omega arith in
    longest (get_or bs 9 0 % 128) (spelled bs) (rest_of (get_or bs 9 0 % 128) (get_or bs 9 0) refl (tenth_signed bs h.narrow ten))
    (last_above 9 (get_or bs 9 0 % 128) bs ten refl) (last_below 9 (get_or bs 9 0 % 128) bs ten refl))

signed_by : (k : ℕ) (bs : List ℕ) → length bs ≡ suc k → HasFit true bs → (64 ≤ get_or bs k 0 % 128 → 128 ^ suc k ≤ spelled bs + 2 ^ 63) × (get_or bs k 0 % 128 < 64 → spelled bs < 2 ^ 63)
signed_by k bs n h = elim (eq-or-lt_of_le h.at_most) [
  | inl e ↦ signed_ten k bs (omega arith) n h
  | inr l ↦ shorter k (get_or bs k 0 % 128) (spelled bs) (omega arith) (last_above k (get_or bs k 0 % 128) bs n refl) (last_below k (get_or bs k 0 % 128) bs n refl)
]

pub signed : (bs : List ℕ) → HasFit true bs → Signed bs
signed bs h =
    let n : length bs ≡ suc (length bs - 1) = (let some = h.some in omega arith) in
    let p = signed_by (length bs - 1) bs n h in
    record {
      below = spelled_bound (length bs) bs refl;
      negative = λ s. subst (λ (k : ℕ). 128 ^ k ≤ spelled bs + 2 ^ 63) (sym n) (p.0 s);
      positive = p.1;
    }

pub past_end : (s : Bool) (bytes : List ℕ) (at : ℕ) → length bytes < at → leb_at s bytes at ≡ Err Short
unfolding leb_at
past_end s bytes at h =
    let e : length (drop at bytes) ≡ 0 = simp length-drop (omega arith) in
    let t : ltb (length (drop at bytes)) (leb_length (drop at bytes)) ≡ true = lt-ltb _ _ (omega (arith, leb_some (drop at bytes))) in
    rw t refl

pub fit : (s : Bool) (front number : List ℕ) (n : ℕ) → number ≡ take n front → n ≡ leb_length front → n ≤ length front → is_wide s number ≡ false → HasFit s number
fit s front number n e at h w =
    let l : length number ≡ n = ap length e ∙ length-take-le n front h in
    let some = leb_some front in
    let most = leb_most front in
    record { some = omega arith; at_most = omega arith; narrow = w }
