-- Tests, one behind another, in rising order of their numbers.
use Rattle.std.proofs.Common.{◌≡◌, ℕ, ◌<◌, ◌≤◌, List, [], ◌∷◌, ◌++◌, refl, ap, ◌∙◌, arith, append_assoc}
use Rattle.std.specs.Prelude.{Bool, true, false, not, Result, Ok, Err}
use Rattle.std.specs.List.{All}
use Rattle.std.proofs.lemmas.List.Elements.{All-nil, All-cons, All-append, All-weaker}
use Rattle.dbg_model.specs.declared.reply.Obstacle.{Obstacle}
use Rattle.dbg_model.specs.declared.reply.Refused.{Refused}
use Rattle.dbg_model.specs.declared.reply.Refused.TheVariants as refused
use Rattle.dbg_model.specs.Outcome.{and_then}
use Rattle.dbg_model.specs.Breakpoints.{ensured}
use Rattle.dbg_model.specs.Refusals.{IsLeast, Judges, failed, number, when}

-- no number is less
abbrev pub From : ℕ → List Refused → Type 0
From k rs = All (λ x. k ≤ number x) rs

-- where it is refused, the number is no greater
abbrev pub UpTo : {A : Type 0} → ℕ → Result A Refused → Type 0
UpTo k (Ok x) = Unit {0}
UpTo k (Err r) = number r ≤ k

pub none_from : (k : ℕ) → From k []
none_from k = All-nil (λ x. k ≤ number x)

pub one_from : (k : ℕ) (r : Refused) → k ≤ number r → From k (r ∷ [])
one_from k r le = All-cons (λ x. k ≤ number x) r [] le (none_from k)

pub both_from : (k : ℕ) (rs qs : List Refused) → From k rs → From k qs → From k (rs ++ qs)
both_from k rs qs f g = All-append (λ x. k ≤ number x) rs qs f g

pub less_from : (j k : ℕ) (rs : List Refused) → j ≤ k → From k rs → From j rs
less_from j k rs le f = All-weaker (λ x. k ≤ number x) (λ x. j ≤ number x) (λ x h. omega (arith, le, h)) rs f

pub when_from : (k : ℕ) (b : Bool) (o : Obstacle) → k ≤ number (refused.Hindered o) → From k (when b o)
when_from k true o le = one_from k _ le
when_from k false o le = none_from k

pub first : (r : Refused) (rs : List Refused) → From (number r) rs → IsLeast r (r ∷ rs)
first r rs f = record { before = []; behind = rs; stands = refl; above = All-nil (λ x. number r < number x); least = f }

pub alone : (r : Refused) → IsLeast r (r ∷ [])
alone r = first r [] (none_from (number r))

-- what is done behind the last test refuses nothing
pub then_done : {A B : Type 0} (a : Result A Refused) (done : A → B) (rs : List Refused) → Judges a rs → Judges (and_then a (λ x. Ok (done x))) rs
then_done (Ok x) done rs j = j
then_done (Err r) done rs j = j

-- one test behind another, whose numbers are no less
pub chain : {A B : Type 0} (k : ℕ) (a : Result A Refused) (next : A → Result B Refused) (rs qs : List Refused) → UpTo k a → From k qs → Judges a rs → ((x : A) → a ≡ Ok x → Judges (next x) qs) → Judges (and_then a next) (rs ++ qs)
chain k (Ok x) next rs qs lo hi j n = rw j (n x refl)
chain k (Err r) next rs qs lo hi j n = record {
  before = j.before;
  behind = j.behind ++ qs;
  stands = ap (λ l. l ++ qs) j.stands ∙ append_assoc j.before (r ∷ j.behind) qs;
  above = j.above;
  least = both_from (number r) j.behind qs j.least (less_from (number r) k qs lo hi);
}

pub up_then : {A B : Type 0} (k : ℕ) (a : Result A Refused) (next : A → Result B Refused) → UpTo k a → ((x : A) → UpTo k (next x)) → UpTo k (and_then a next)
up_then k (Ok x) next u n = n x
up_then k (Err r) next u n = u

pub failed_judged : {A : Type 0} (a : Result A Refused) → Judges a (failed a)
failed_judged (Ok x) = refl
failed_judged (Err r) = alone r

pub ensured_judged : (b : Bool) (o : Obstacle) → Judges (ensured b o) (when (not b) o)
ensured_judged true o = refl
ensured_judged false o = alone _

pub ensured_up : (k : ℕ) (b : Bool) (o : Obstacle) → number (refused.Hindered o) ≤ k → UpTo k (ensured b o)
ensured_up k true o le = tt
ensured_up k false o le = le
