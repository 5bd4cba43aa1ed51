use Rattle.std.proofs.Common.{◌≡◌, ◌∙◌, ℕ, List, [], ◌∷◌, length, false, eqb, refl}
use Rattle.mi_values.specs.Name.{is_name, are_name_bytes}
use Rattle.mi_values.proofs.name.is_name.Goals as goal

some_name : (bytes : List ℕ) → false ≡ eqb (length bytes) 0 → are_name_bytes bytes ≡ is_name bytes
some_name [] h = cc
some_name (b ∷ bs) h = refl

pub returns-then-not-is_empty : goal.returns-then-not-is_empty
returns-then-not-is_empty c = c.are_name_bytes.ensures ∙ some_name c.args.bytes.now c.if-not-is_empty.ensures
