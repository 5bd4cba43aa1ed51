-- What is known of a use by its name.
use Rattle.std.proofs.Common.{◌≡◌, true, List, [], ◌∷◌, codes, Option, Some, None}
use Rattle.std.specs.Str.{bytes_eq}
use Rattle.std.specs.List.{Contains}
use Rattle.dbg_words.specs.Uses.{Text, Use, file, log, set}
use Rattle.dbg_traits.specs.Names.{IsNamed}

pub record Known (ws : List Text) (u : Use) : Type 0 where
  pub is_set : bytes_eq u.0 log ≡ true → u.1 ≡ set
  pub is_word : bytes_eq u.0 file ≡ true → Contains ws u.1
  pub is_part : bytes_eq u.0 (codes "check") ≡ true → IsNamed ws u.1

abbrev pub Each : (Use → Type 0) → List Use → Type 0
Each P [] = Unit {0}
Each P (u ∷ us) = P u × Each P us

abbrev pub AllKnown : List Text → Option (List Use) → Type 0
AllKnown ws None = Unit {0}
AllKnown ws (Some us) = Each (Known ws) us
