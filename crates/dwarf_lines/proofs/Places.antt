-- The units of a section.
use Rattle.std.proofs.Common.{◌≡◌, ℕ, zero, suc, ◌+◌, ◌-◌, ◌<◌, ◌≤◌, Bool, true, false, List, [], ◌∷◌, length, refl, arith, ◌∙◌, ap}
use Rattle.std.specs.Prelude.{Ok, Err, Result, if◌then◌else◌, nat_le}
use Rattle.leb_read.specs.Leb.{behind_run, number_at}
use Rattle.leb_read.specs.Reading.{◌>>=◌, found}
use Rattle.leb_read.specs.declared.fault.Leb.TheVariants.{Short}
use Rattle.std.proofs.lemmas.Bool.Decides.{nat_tests}
use Rattle.line_rows.specs.declared.fault.LineFault.{LineFault}
use Rattle.line_rows.specs.declared.fault.LineFault.TheVariants as fault
use Rattle.dwarf_lines.specs.Units.{Unit, and_behind, unit_end, units_from}
use Rattle.line_rows.specs.Reading.{read}

-- by whether a length is reserved, and whether so many bytes are left
end_by : (next size end : ℕ) (reserved within : Bool) → (if reserved then Err fault.Header else read (if within then Ok (next + size) else Err Short)) ≡ Ok end → next ≤ end
end_by next size end true within e = absurd (cc)
end_by next size end false true e = let same : next + size ≡ end = cc in omega arith
end_by next size end false false e = absurd (cc)

-- a unit ends behind its length
unit_behind : (section : List ℕ) (at end : ℕ) → unit_end section at ≡ Ok end → at + 4 ≤ end
unfolding unit_end number_at behind_run
unit_behind section at end e = by_length (nat_le (at + 4) (length section)) _ (at + 4) e
  where
    by_length : (b : Bool) (size next : ℕ)
        → (read (if b then found size next else Err Short) >>= (λ r. if nat_le 0xFFFFFFF0 r.0 then Err fault.Header else read (if nat_le r.0 (length section - r.1) then Ok (r.1 + r.0) else Err Short))) ≡ Ok end → next ≤ end
    by_length true size next e = end_by next size end _ _ e
    by_length false size next e = absurd (cc)

-- by where the unit at the place ends
enough_by : (n m : ℕ) (section : List ℕ) (at : ℕ) (end : Result ℕ LineFault) → unit_end section at ≡ end → ((next : ℕ) → end ≡ Ok next → units_from n section next ≡ units_from m section next)
    → and_behind at end (units_from n section) ≡ and_behind at end (units_from m section)
enough_by n m section at (Ok next) e others = ap (λ (us : List Unit). record { place = at; end = Ok next } ∷ us) (others next refl)
enough_by n m section at (Err f) e others = refl

-- more units than there is room for are the same
enough : (n m : ℕ) (section : List ℕ) (at : ℕ) → length section ≤ n + at → length section ≤ m + at → units_from n section at ≡ units_from m section at
enough zero zero section at h k = refl
enough zero (suc m) section at h k = let past : nat_le (length section) at ≡ true = grind (arith, nat_tests) in rw past refl
enough (suc n) zero section at h k = let past : nat_le (length section) at ≡ true = grind (arith, nat_tests) in rw past refl
enough (suc n) (suc m) section at h k =
    ap (λ (us : List Unit). if nat_le (length section) at then [] else us)
    (enough_by n m section at (unit_end section at) refl
    (λ next e. enough n m section next (omega (arith, unit_behind section at next e)) (omega (arith, unit_behind section at next e))))

-- the units from a place on that isn't the end
pub units_at : (section : List ℕ) (at : ℕ) (end : Result ℕ LineFault) → at < length section → unit_end section at ≡ end
    → units_from (length section - at) section at ≡ and_behind at end (units_from (length section - (at + 1)) section)
units_at section at end h e =
    let n : length section - at ≡ suc (length section - (at + 1)) = omega arith in
    let within : nat_le (length section) at ≡ false = grind (arith, nat_tests) in
    ap (λ (k : ℕ). units_from k section at) n ∙ rw (within, e) refl

pub units_behind : (section : List ℕ) (at end : ℕ) → at < length section → at + 4 ≤ end
    → units_from (length section - (at + 1)) section end ≡ units_from (length section - end) section end
units_behind section at end h behind = enough _ _ section end (omega arith) (omega arith)
