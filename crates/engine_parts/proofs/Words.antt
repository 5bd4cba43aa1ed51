-- One word is patched anew.
use Rattle.std.proofs.Common.{◌≡◌, ℕ, Bool, true, false, sym, ap, subst}
use Rattle.std.specs.FinSet as set
use Rattle.text_words.specs.Words.{Words}
use Rattle.hart_machine.specs.Patched.{Patched}
use Rattle.engine_parts.specs.Moves.{Repatched}
use Rattle.engine_parts.proofs.Planting.{patched_in, patched_out}

pub repatched_in : (m n : Patched) (a : ℕ) (is : Bool) → is ≡ true → n ≡ record m { text = record m.text { planted = set.insert m.text.planted a } } → Repatched m.text n.text a is
repatched_in m n a is wants e =
    let P : Words → Bool → Type 0 = λ t b. Repatched m.text t a b in
    subst (λ (b : Bool). P n.text b) (sym wants) (subst (λ (t : Words). P t true) (sym (ap (λ (p : Patched). p.text) e)) (patched_in m.text a))

pub repatched_out : (m n : Patched) (a : ℕ) (is : Bool) → is ≡ false → n ≡ record m { text = record m.text { planted = set.remove m.text.planted a } } → Repatched m.text n.text a is
repatched_out m n a is wants e =
    let P : Words → Bool → Type 0 = λ t b. Repatched m.text t a b in
    subst (λ (b : Bool). P n.text b) (sym wants) (subst (λ (t : Words). P t false) (sym (ap (λ (p : Patched). p.text) e)) (patched_out m.text a))
