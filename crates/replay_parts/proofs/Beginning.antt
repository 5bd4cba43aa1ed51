-- Where a session begins.
use Rattle.std.proofs.Common.{◌≡◌, ◌≤◌, ℕ, zero, suc, length, replicate, refl, ◌∙◌, arith}
use Rattle.std.specs.Prelude.{slice_index}
use Rattle.elf32_read.specs.Program.{Program}
use Rattle.dbg_model.specs.State.{first_harts}
use Rattle.dbg_model.proofs.Counting.{length-both}

-- nothing is counted at first
pub none_counted : (n k : ℕ) → slice_index (replicate n 0) k ≤ 0
none_counted zero k = omega arith
none_counted (suc n) zero = omega arith
none_counted (suc n) (suc k) = none_counted n k

pub length_first : (p : Program) (harts n : ℕ) → length (first_harts p harts n) ≡ n
length_first p harts zero = refl
length_first p harts (suc n) = let before = length_first p harts n in length-both (first_harts p harts n) _ ∙ omega (arith, before)
