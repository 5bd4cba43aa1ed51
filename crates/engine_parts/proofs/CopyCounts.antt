-- Counts of copies stay where a hart's core alone changes, and not its count.
use Rattle.std.proofs.Common.{◌≡◌, ℕ, zero, suc, List, [], ◌∷◌, refl, sym, ap, ◌∙◌}
use Rattle.std.specs.Prelude.{Some, slice_get, slice_set}
use Rattle.step_over.specs.declared.phase.Phase.{Phase}
use Rattle.step_over.specs.declared.phase.Phase.TheVariants as phase
use Rattle.hart_machine.specs.declared.hart.Core.{Core}
use Rattle.hart_machine.specs.Patched.{Patched}
use Rattle.hart_machine.proofs.Places.{same_some}
use Rattle.engine_parts.specs.Moves.{copies_of}
use Rattle.engine_parts.specs.Homecoming.{GoesHome, home_core}
use Rattle.engine_parts.proofs.Homecoming.{home_counts}

pub copies_set : (cs : List Core) (h : ℕ) (c d : Core) → slice_get cs h ≡ Some c → d.copied ≡ c.copied → copies_of (slice_set cs h d) ≡ copies_of cs
copies_set [] h c d at same = refl
copies_set (b ∷ cs) zero c d at same = ap (λ n. n ∷ copies_of cs) (same ∙ ap (λ (k : Core). k.copied) (sym (same_some b c at)))
copies_set (b ∷ cs) (suc h) c d at same = ap (λ ns. b.copied ∷ ns) (copies_set cs h c d at same)

-- a hart that comes home executes nothing
pub copies_home : (old new : Patched) (h : ℕ) (q : Phase) → GoesHome old new h q → copies_of new.cores ≡ copies_of old.cores
copies_home old new h phase.Idle g = ap (λ (m : Patched). copies_of m.cores) g
copies_home old new h (phase.Copied slot home) g =
    let q = phase.Copied slot home in
    ap (λ (m : Patched). copies_of m.cores) g.machine ∙ copies_set old.cores h g.core (home_core old.slots g.core q) g.at (home_counts old.slots g.core q).1
copies_home old new h (phase.Landed slot home) g =
    let q = phase.Landed slot home in
    ap (λ (m : Patched). copies_of m.cores) g.machine ∙ copies_set old.cores h g.core (home_core old.slots g.core q) g.at (home_counts old.slots g.core q).1
copies_home old new h (phase.Lifted home) g = ap (λ (m : Patched). copies_of m.cores) g
copies_home old new h (phase.Ran home) g = ap (λ (m : Patched). copies_of m.cores) g
