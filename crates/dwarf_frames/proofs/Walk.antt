-- A walk over the entries of a section: what a function of those from a place on gives is the answer that is looked for.
use Rattle.std.proofs.Common.{◌≡◌, ◌<◌, ◌≤◌, ◌+◌, ℕ, zero, suc, List, length, Err, refl, arith, sym, ◌∙◌, ap}
use Rattle.std.proofs.lemmas.Bool.Decides.{nat_tests}
use Rattle.dwarf_frames.specs.Reading.{found}
use Rattle.dwarf_frames.specs.Entries.{Entries, Ends, Breaks, Then, then_rest, entries, entries_from, entry_at}
use Rattle.dwarf_frames.specs.declared.fault.FrameFault.{FrameFault}

pub record Reaches {X : Type 0} (answer : X) (f : Entries → X) (section : List ℕ) (at : ℕ) : Type 0 where
  pub most : ℕ
  pub enough : length section ≤ at + most
  pub same : f (entries_from most section at) ≡ answer

pub reaches_start : {X : Type 0} (f : Entries → X) (section : List ℕ) → Reaches (f (entries section)) f section 0
unfolding entries
reaches_start f section = record { most = length section; enough = omega arith; same = refl }

from_end : (most : ℕ) (section : List ℕ) (at : ℕ) → length section ≤ at → entries_from most section at ≡ Ends
from_end zero section at h = refl
from_end (suc most) section at h = grind (arith, nat_tests)

pub reaches_end : {X : Type 0} (answer : X) (f : Entries → X) (section : List ℕ) (at : ℕ) → length section ≤ at → Reaches answer f section at → answer ≡ f Ends
reaches_end answer f section at h r = sym r.same ∙ ap f (from_end r.most section at h)

from_step : (most : ℕ) (section : List ℕ) (at : ℕ) → at < length section → entries_from (suc most) section at ≡ then_rest at (entry_at section at) (entries_from most section)
from_step most section at h = grind (arith, nat_tests)

-- where an entry can begin, one more may follow
record Counted {X : Type 0} (answer : X) (f : Entries → X) (section : List ℕ) (at : ℕ) : Type 0 where
  more : ℕ
  enough : length section ≤ at + suc more
  same : f (then_rest at (entry_at section at) (entries_from more section)) ≡ answer

counted_from : {X : Type 0} (answer : X) (f : Entries → X) (section : List ℕ) (at most : ℕ) → at < length section → length section ≤ at + most → f (entries_from most section at) ≡ answer → Counted answer f section at
counted_from answer f section at zero h enough same = absurd (omega arith)
counted_from answer f section at (suc most) h enough same = record { more = most; enough = enough; same = ap f (sym (from_step most section at h)) ∙ same }

counted : {X : Type 0} (answer : X) (f : Entries → X) (section : List ℕ) (at : ℕ) → at < length section → Reaches answer f section at → Counted answer f section at
counted answer f section at h r = counted_from answer f section at r.most h r.enough r.same

pub reaches_break : {X : Type 0} (answer : X) (f : Entries → X) (section : List ℕ) (at : ℕ) (e : FrameFault) → at < length section → entry_at section at ≡ Err e → Reaches answer f section at → answer ≡ f (Breaks e)
reaches_break answer f section at e h read r =
    let k = counted answer f section at h r in
    sym k.same ∙ ap (λ x. f (then_rest at x (entries_from k.more section))) read

-- whatever entries follow
pub reaches_found : {X : Type 0} (answer : X) (f : Entries → X) (x : X) (section body : List ℕ) (at next : ℕ) → at < length section
    → entry_at section at ≡ found body next → ((rest : Entries) → f (Then at body rest) ≡ x) → Reaches answer f section at → answer ≡ x
reaches_found answer f x section body at next h read here r =
    let k = counted answer f section at h r in
    sym k.same ∙ ap (λ x. f (then_rest at x (entries_from k.more section))) read ∙ here (entries_from k.more section next)

-- g is what f is behind the entry
pub reaches_next : {X : Type 0} (answer : X) (f g : Entries → X) (section body : List ℕ) (at next : ℕ) → at < length section → at < next
    → entry_at section at ≡ found body next → ((rest : Entries) → f (Then at body rest) ≡ g rest) → Reaches answer f section at → Reaches answer g section next
reaches_next answer f g section body at next h later read here r =
    let k = counted answer f section at h r in
    record {
      most = k.more;
      enough = omega (arith, k.enough);
      same = sym (here (entries_from k.more section next)) ∙ ap (λ x. f (then_rest at x (entries_from k.more section))) (sym read) ∙ k.same;
    }
