-- A text that is put piece by piece.
use Rattle.std.proofs.Common.{◌≡◌, ℕ, ◌+◌, List, ◌++◌, take, drop, sym, ap, ◌∙◌, append_assoc, refl}
use Rattle.std.specs.Prelude.{Option, Some, None}
use Rattle.std.proofs.Math.Seq.{take-add}
use Rattle.dbg_traits.specs.Told.{Told, more}
use Rattle.session_parts.specs.Puts.{with_text}

pub more_more : {A : Type 0} (o : Option (List A)) (xs ys : List A) → more (more o xs) ys ≡ more o (xs ++ ys)
more_more None xs ys = refl
more_more (Some zs) xs ys = ap Some (append_assoc zs xs ys)

pub with_more : (t u v : Told) (text : List ℕ) (at n : ℕ) → u ≡ with_text t (take at text) → v ≡ with_text u (take n (drop at text)) → v ≡ with_text t (take (at + n) text)
with_more t u v text at n first next =
    next ∙ (ap (λ w. with_text w (take n (drop at text))) first
    ∙ (ap (λ o. record t { written = o }) (more_more t.written (take at text) (take n (drop at text)))
    ∙ ap (with_text t) (sym (take-add at n text))))
