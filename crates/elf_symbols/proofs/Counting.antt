-- The entries of a table that pass a test, one entry after another.
use Rattle.std.proofs.Common.{◌≡◌, ℕ, ◌+◌, ◌*◌, Bool, true, false, List, [], ◌∷◌, ◌++◌, append-nil, ap, arith, filter, suc, sym, ◌∙◌}
use Rattle.std.specs.Prelude.{if◌then◌else◌}
use Rattle.std.proofs.lemmas.List.Elements.{filter-append}
use Rattle.elf32_read.specs.Fields.{entries}

behind : {A : Type 0} (p : A → Bool) (at : ℕ → A) (k : ℕ) (x : A) → x ≡ at (16 * k) → filter p (entries at 0 16 (k + 1)) ≡ filter p (entries at 0 16 k) ++ filter p (x ∷ [])
behind p at k x same =
    let more : k + 1 ≡ suc k = omega arith in
    let place : 16 * k ≡ 0 + 16 * k = omega arith in
    ap (λ (n : ℕ). filter p (entries at 0 16 n)) more ∙ (ap (λ y. filter p (entries at 0 16 k ++ y ∷ [])) (sym (same ∙ ap at place)) ∙ filter-append p (entries at 0 16 k) (x ∷ []))

pub passing : {A : Type 0} (p : A → Bool) (at : ℕ → A) (k : ℕ) (x : A) → x ≡ at (16 * k) → p x ≡ true → filter p (entries at 0 16 (k + 1)) ≡ filter p (entries at 0 16 k) ++ x ∷ []
passing p at k x same passes =
    behind p at k x same ∙ ap (λ (b : Bool). filter p (entries at 0 16 k) ++ (if b then x ∷ [] else [])) passes

pub failing : {A : Type 0} (p : A → Bool) (at : ℕ → A) (k : ℕ) (x : A) → x ≡ at (16 * k) → p x ≡ false → filter p (entries at 0 16 (k + 1)) ≡ filter p (entries at 0 16 k)
failing p at k x same fails =
    behind p at k x same ∙ (ap (λ (b : Bool). filter p (entries at 0 16 k) ++ (if b then x ∷ [] else [])) fails ∙ append-nil _)
