-- A run of operations: what a function of those from a place on gives is the answer that is looked for.
use Rattle.std.proofs.Common.{◌≡◌, ◌<◌, ◌≤◌, ◌+◌, ℕ, zero, suc, List, length, Err, refl, arith, sym, ◌∙◌, ap}
use Rattle.std.proofs.lemmas.Bool.Decides.{nat_tests}
use Rattle.dwarf_frames.specs.Reading.{found}
use Rattle.dwarf_frames.specs.Marks.{Gives}
use Rattle.dwarf_frames.specs.Operations.{Operations, Ends, Fails, Then, then_rest, operations, operations_from, operation_at}
use Rattle.dwarf_frames.specs.declared.fault.FrameFault.{FrameFault}
use Rattle.dwarf_frames.specs.declared.operation.Factors.{Factors}
use Rattle.dwarf_frames.specs.declared.operation.Operation.{Operation}

pub gives_start : {X : Type 0} (f : Operations → X) (factors : Factors) (bytes : List ℕ) → Gives (f (operations factors bytes)) f factors bytes 0
unfolding operations
gives_start f factors bytes = record { most = length bytes; enough = omega arith; same = refl }

from_end : (most : ℕ) (factors : Factors) (bytes : List ℕ) (at : ℕ) → length bytes ≤ at → operations_from most factors bytes at ≡ Ends
from_end zero factors bytes at h = refl
from_end (suc most) factors bytes at h = grind (arith, nat_tests)

pub gives_end : {X : Type 0} (answer : X) (f : Operations → X) (factors : Factors) (bytes : List ℕ) (at : ℕ) → length bytes ≤ at → Gives answer f factors bytes at → answer ≡ f Ends
gives_end answer f factors bytes at h r = sym r.same ∙ ap f (from_end r.most factors bytes at h)

-- whatever operations are left
pub gives_always : {X : Type 0} (answer x : X) (f : Operations → X) (factors : Factors) (bytes : List ℕ) (at : ℕ) → ((rest : Operations) → f rest ≡ x) → Gives answer f factors bytes at → answer ≡ x
gives_always answer x f factors bytes at here r = sym r.same ∙ here (operations_from r.most factors bytes at)

from_step : (most : ℕ) (factors : Factors) (bytes : List ℕ) (at : ℕ) → at < length bytes → operations_from (suc most) factors bytes at ≡ then_rest (operation_at factors bytes at) (operations_from most factors bytes)
from_step most factors bytes at h = grind (arith, nat_tests)

-- where an operation can begin, one more may follow
record Counted {X : Type 0} (answer : X) (f : Operations → X) (factors : Factors) (bytes : List ℕ) (at : ℕ) : Type 0 where
  more : ℕ
  enough : length bytes ≤ at + suc more
  same : f (then_rest (operation_at factors bytes at) (operations_from more factors bytes)) ≡ answer

counted_from : {X : Type 0} (answer : X) (f : Operations → X) (factors : Factors) (bytes : List ℕ) (at most : ℕ) → at < length bytes
    → length bytes ≤ at + most → f (operations_from most factors bytes at) ≡ answer → Counted answer f factors bytes at
counted_from answer f factors bytes at zero h enough same = absurd (omega arith)
counted_from answer f factors bytes at (suc most) h enough same = record { more = most; enough = enough; same = ap f (sym (from_step most factors bytes at h)) ∙ same }

counted : {X : Type 0} (answer : X) (f : Operations → X) (factors : Factors) (bytes : List ℕ) (at : ℕ) → at < length bytes → Gives answer f factors bytes at → Counted answer f factors bytes at
counted answer f factors bytes at h r = counted_from answer f factors bytes at r.most h r.enough r.same

pub gives_fault : {X : Type 0} (answer : X) (f : Operations → X) (factors : Factors) (bytes : List ℕ) (at : ℕ) (e : FrameFault) → at < length bytes
    → operation_at factors bytes at ≡ Err e → Gives answer f factors bytes at → answer ≡ f (Fails e)
gives_fault answer f factors bytes at e h read r =
    let k = counted answer f factors bytes at h r in
    sym k.same ∙ ap (λ x. f (then_rest x (operations_from k.more factors bytes))) read

pub gives_found : {X : Type 0} (answer x : X) (f : Operations → X) (factors : Factors) (bytes : List ℕ) (at next : ℕ) (o : Operation)
    → at < length bytes → operation_at factors bytes at ≡ found o next → ((rest : Operations) → f (Then o rest) ≡ x) → Gives answer f factors bytes at → answer ≡ x
gives_found answer x f factors bytes at next o h read here r =
    let k = counted answer f factors bytes at h r in
    sym k.same ∙ ap (λ x. f (then_rest x (operations_from k.more factors bytes))) read ∙ here (operations_from k.more factors bytes next)

-- g is what f is behind the operation
pub gives_next : {X : Type 0} (answer : X) (f g : Operations → X) (factors : Factors) (bytes : List ℕ) (at next : ℕ) (o : Operation)
    → at < length bytes → at < next → operation_at factors bytes at ≡ found o next → ((rest : Operations) → f (Then o rest) ≡ g rest)
    → Gives answer f factors bytes at → Gives answer g factors bytes next
gives_next answer f g factors bytes at next o h later read here r =
    let k = counted answer f factors bytes at h r in
    record {
      most = k.more;
      enough = omega (arith, k.enough);
      same = sym (here (operations_from k.more factors bytes next)) ∙ ap (λ x. f (then_rest x (operations_from k.more factors bytes))) (sym read) ∙ k.same;
    }
