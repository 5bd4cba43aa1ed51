-- What was there before a writing stays at the front.
use Rattle.std.proofs.Common.{◌≡◌, ℕ, Bool, true, false, List, [], ◌∷◌, ◌++◌, sym, ap, ◌∙◌, append_assoc, take, length, refl}
use Rattle.std.proofs.lemmas.List.{append-nil}
use Rattle.std.specs.Prelude.{if◌then◌else◌}
use Rattle.mi_text.specs.Keeps.{Keeps}

pub keeps_same : (a b : List ℕ) → b ≡ a → Keeps a b
keeps_same a b e = record { more = []; is = e ∙ sym (append-nil a) }

pub keeps_more : (a b x : List ℕ) → b ≡ a ++ x → Keeps a b
keeps_more a b x e = record { more = x; is = e }

pub keeps_on : (a b c : List ℕ) → Keeps a b → Keeps b c → Keeps a c
keeps_on a b c k l = record { more = k.more ++ l.more; is = l.is ∙ ap (λ (x : List ℕ). x ++ l.more) k.is ∙ append_assoc a k.more l.more }

-- more came, or nothing changed
pub keeps_either : (a b x : List ℕ) (more : Bool) → b ≡ (if more then a ++ x else a) → Keeps a b
keeps_either a b x true e = keeps_more a b x e
keeps_either a b x false e = keeps_same a b e

-- cut to its old length, the list is the old one
pub keeps_front : (a b : List ℕ) → Keeps a b → take (length a) b ≡ a
keeps_front a b k = ap (take (length a)) k.is ∙ front a k.more
  where
    front : (xs ys : List ℕ) → take (length xs) (xs ++ ys) ≡ xs
    front [] ys = refl
    front (x ∷ xs) ys = ap (λ (l : List ℕ). x ∷ l) (front xs ys)
