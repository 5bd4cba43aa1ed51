-- A row that is put behind those with a lesser number stands by its own.
use Rattle.std.proofs.Common.{◌≡◌, ℕ, ◌+◌, suc, Bool, true, false, cond, List, [], ◌∷◌, ◌++◌, take, drop, refl, ap, arith, nat_lt}
use Rattle.dbg_model.specs.declared.row.Row.{Row}
use Rattle.dbg_model.specs.Breakpoints.{row_number, with_row}
use Rattle.dbg_answers.specs.Rows.{rows_below}

by : (r x : Row) (xs : List Row) (k : ℕ) (b : Bool) → take k xs ++ r ∷ drop k xs ≡ with_row r xs
    → take (cond b (1 + k) 0) (x ∷ xs) ++ r ∷ drop (cond b (1 + k) 0) (x ∷ xs) ≡ cond b (x ∷ with_row r xs) (r ∷ x ∷ xs)
by r x xs k true rest = let next : 1 + k ≡ suc k = omega arith in rw next (ap (λ t. x ∷ t) rest)
by r x xs k false rest = refl

pub inserted : (r : Row) (xs : List Row) → take (rows_below (row_number r) xs) xs ++ r ∷ drop (rows_below (row_number r) xs) xs ≡ with_row r xs
inserted r [] = refl
inserted r (x ∷ xs) = by r x xs (rows_below (row_number r) xs) (nat_lt (row_number x) (row_number r)) (inserted r xs)
