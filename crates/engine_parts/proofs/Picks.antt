-- The pick of a hart where no job is out.
use Rattle.std.proofs.Common.{◌≡◌, ℕ, Bool, true, false, List, [], ◌∷◌, refl, ap, ◌∙◌}
use Rattle.std.specs.Prelude.{Option, Some, None, find, nat_le, not, ◌&&◌, if◌then◌else◌}
use Rattle.engine_parts.specs.declared.mind.Mind.{Mind}
use Rattle.engine_parts.specs.Steps.{NoneOut, is_out, least_running, next_running, running_harts, some_or}

-- the first running hart from a number on; one whose job is out counts too
abbrev pub least_of_all : List Mind → ℕ → Option ℕ
least_of_all xs from = find (nat_le from) (running_harts 0 xs)

-- the next running hart round the harts
abbrev pub next_of_all : List Mind → ℕ → Option ℕ
next_of_all xs from = some_or (least_of_all xs from) (least_of_all xs 0)

found_by : (b : Bool) (k : ℕ) (o p : Option ℕ) → o ≡ p → (if b && true then Some k else o) ≡ (if b then Some k else p)
found_by true k o p same = refl
found_by false k o p same = same

found : (out : List Bool) → NoneOut out → (from : ℕ) (ks : List ℕ) → find (λ h. nat_le from h && not (is_out out h)) ks ≡ find (nat_le from) ks
found out none from [] = refl
found out none from (k ∷ ks) =
    ap (λ m. if nat_le from k && not m then Some k else find (λ h. nat_le from h && not (is_out out h)) ks) (none k)
    ∙ found_by (nat_le from k) k (find (λ h. nat_le from h && not (is_out out h)) ks) (find (nat_le from) ks) (found out none from ks)

least_is : (xs : List Mind) (out : List Bool) (from : ℕ) → NoneOut out → least_running xs out from ≡ least_of_all xs from
least_is xs out from none = found out none from (running_harts 0 xs)

-- then it is the next of all
pub next_is : (xs : List Mind) (out : List Bool) (from : ℕ) → NoneOut out → next_running xs out from ≡ next_of_all xs from
next_is xs out from none = ap (λ o. some_or o (least_running xs out 0)) (least_is xs out from none) ∙ ap (some_or (least_of_all xs from)) (least_is xs out 0 none)

-- where none is at or above the number, it is the least of all
pub next_by : (xs ys : List Mind) (out : List Bool) (from : ℕ) (o : Option ℕ) → xs ≡ ys → None ≡ least_running xs out from → o ≡ least_running xs out 0 → o ≡ next_running ys out from
next_by xs ys out from o same none is =
    is ∙ (ap (λ (zs : List Mind). least_running zs out 0) same ∙ ap (λ p. some_or p (least_running ys out 0)) (none ∙ ap (λ (zs : List Mind). least_running zs out from) same))
