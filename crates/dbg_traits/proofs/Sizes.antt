-- What few bytes count at most.
use Rattle.std.proofs.Common.{ℕ, zero, suc, ◌^◌, ◌<◌, ◌≤◌, ◌+◌, ◌*◌, ◌-◌, ◌≡◌, arith, subst}
use Rattle.std.proofs.lemmas.Grind.{pow_more}

-- what three bytes spell at most
pub three_bytes : (n : ℕ) → n ≤ 3 → 256 ^ n ≤ 16777216
three_bytes zero le = omega arith
three_bytes (suc zero) le = omega arith
three_bytes (suc (suc zero)) le = omega arith
three_bytes (suc (suc (suc zero))) le = omega arith
three_bytes (suc (suc (suc (suc n)))) le = absurd (omega arith)

-- one byte below the others
pub one_more : (count low high : ℕ) → 0 < count → low < 256 → high < 256 ^ (count - 1) → low + 256 * high < 256 ^ count
one_more count low high some l h =
    let e : count - 1 + 1 ≡ count = omega arith in
    let more : low + 256 * high < 256 ^ (count - 1 + 1) = omega (arith, pow_more 256 (count - 1)) in
    subst (λ (k : ℕ). low + 256 * high < 256 ^ k) e more
