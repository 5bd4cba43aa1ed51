-- A distance that is turned round by two bits.
use Rattle.std.proofs.Common.{◌≡◌, ℕ, ◌+◌, ◌*◌, ◌/◌, ◌%◌, ◌^◌, ◌<◌, ◌≤◌, ap, ◌∙◌, arith}
use Rattle.std.specs.Int.Bits.{bit_or, or_zero_r}
use Rattle.std.proofs.lemmas.Nat.{le_or_r}

-- it is small only where it is a multiple of 4
pub turned : (n k : ℕ) → n < 2 ^ 32 → k ≡ bit_or (n / 4) (n * 2 ^ 30 % 2 ^ 32) → k < 2 ^ 30 → n ≡ 4 * k
turned n k low is small =
    let least : n * 2 ^ 30 % 2 ^ 32 ≤ k = omega (arith, is, le_or_r (n / 4) (n * 2 ^ 30 % 2 ^ 32)) in
    let none : n * 2 ^ 30 % 2 ^ 32 ≡ 0 = omega (arith, least, small) in
    let four : n % 4 ≡ 0 = omega (arith, none) in
    let same : k ≡ n / 4 = is ∙ (ap (bit_or (n / 4)) none ∙ or_zero_r (n / 4)) in
    omega (arith, four, same)

-- and a fourth where it is one
pub turned_back : (n k : ℕ) → n % 4 ≡ 0 → k ≡ bit_or (n / 4) (n * 2 ^ 30 % 2 ^ 32) → k ≡ n / 4
turned_back n k four is =
    let none : n * 2 ^ 30 % 2 ^ 32 ≡ 0 = omega (arith, four) in
    is ∙ (ap (bit_or (n / 4)) none ∙ or_zero_r (n / 4))
