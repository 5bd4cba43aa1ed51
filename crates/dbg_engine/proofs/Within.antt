-- A hart of an engine is within its lists, and the numbers of an engine that isn't over have room.
use Rattle.std.proofs.Common.{◌≡◌, ◌<◌, ◌≤◌, ◌+◌, ℕ, true, length, sym, ap, ◌∙◌, subst, arith, Fits, w64}
use Rattle.std.specs.Prelude.{Some, slice_get}
use Rattle.std.proofs.lemmas.Option.{slice_get_within}
use Rattle.engine_parts.specs.declared.mind.Mind.{Mind}
use Rattle.dbg_model.specs.Journals.{last_count}
use Rattle.dbg_model.specs.Lawful.{may_go}
use Rattle.engine_parts.specs.Seen.{Engine, seen}
use Rattle.engine_parts.specs.Facts.{Sound}
use Rattle.engine_parts.proofs.Aheads.{small_of}
use Rattle.engine_parts.proofs.Bounding.{below}

pub has_mind : (r q : Engine) (h : ℕ) (x : Mind) → r ≡ q → slice_get q.minds h ≡ Some x → h < length r.minds
has_mind r q h x same at = slice_get_within r.minds h x (ap (λ (q : Engine). slice_get q.minds h) same ∙ at)

pub has_core : (r q : Engine) (h : ℕ) (x : Mind) → r ≡ q → Sound r → slice_get q.minds h ≡ Some x → h < length r.machine.cores
has_core r q h x same f at = subst (λ (n : ℕ). h < n) (sym f.harts.len) (has_mind r q h x same at)

pub within_budget : (r q : Engine) → r ≡ q → may_go q.opening (seen q) ≡ true → r.retired ≤ r.opening.settings.budget
within_budget r q same may = let low = (below r (ap (λ (q : Engine). may_go q.opening (seen q)) same ∙ may)).0 in omega arith

pub fits_next : (n : ℕ) → n < 1000000000000 → Fits w64 (n + 1)
fits_next n low = omega arith

pub fits_some : (n k : ℕ) → n < 4194304 → k ≤ 16 → Fits w64 (n + k)
fits_some n k low few = omega arith

pub has_room : (r q : Engine) → r ≡ q → 32 ≤ q.spare → 0 < r.spare
has_room r q same low = let e = ap (λ (q : Engine). q.spare) same in omega arith

-- so many instructions more as the budget has left
pub fits_left : (r q : Engine) (n k : ℕ) → r ≡ q → Sound r → may_go q.opening (seen q) ≡ true → n ≡ k → q.retired + k ≤ q.opening.settings.budget
    → (last_count r.journal + n < 18446744073709551616) × Fits w64 (r.retired + n)
fits_left r q n k same f may is left =
    let s = small_of r q same f may in
    let b = f.settings.budget.1 in
    let e = ap (λ (q : Engine). q.opening.settings.budget) same in (omega (arith, s.last), omega (arith, s.retired))
