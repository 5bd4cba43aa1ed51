-- Numbers that are passed over, one after another.
use Rattle.std.proofs.Common.{◌≡◌, ◌<◌, ◌+◌, ◌-◌, ℕ, suc, zero, List, Ok, Err, refl, arith}
use Rattle.leb_read.specs.Leb.{uleb_at}
use Rattle.leb_read.specs.declared.fault.Leb.{Leb}
use Rattle.line_rows.specs.Reading.{fault_of}
use Rattle.line_programs.specs.Operations.{behind_numbers}

pub numbers_more : (n m : ℕ) (bytes : List ℕ) (at v next : ℕ) → m < n → uleb_at bytes at ≡ Ok (v, next) → behind_numbers (n - m) bytes at ≡ behind_numbers (n - (m + 1)) bytes next
unfolding behind_numbers
numbers_more n m bytes at v next h e =
    let k : n - m ≡ suc (n - (m + 1)) = omega arith in
    rw (k, e) refl

pub numbers_end : (n m : ℕ) (bytes : List ℕ) (at : ℕ) (f : Leb) → m < n → uleb_at bytes at ≡ Err f → behind_numbers (n - m) bytes at ≡ Err (fault_of f)
unfolding behind_numbers
numbers_end n m bytes at f h e =
    let k : n - m ≡ suc (n - (m + 1)) = omega arith in
    rw (k, e) refl

pub numbers_all : (n m : ℕ) (bytes : List ℕ) (at : ℕ) → m ≡ n → behind_numbers (n - m) bytes at ≡ Ok at
unfolding behind_numbers
numbers_all n m bytes at h =
    let k : n - m ≡ zero = omega arith in
    rw k refl
