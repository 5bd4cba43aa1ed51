-- What is said of a journal and a text.
use Rattle.std.specs.Prelude.{◌≡◌, ◌≢◌, ◌+◌, ℕ, List, [], ◌∷◌, ◌++◌, length, None, IsSome}
use Rattle.dbg_model.specs.declared.entry.Entry.{Entry}
use Rattle.dbg_model.specs.declared.opening.Opening.{Opening}
use Rattle.dbg_model.specs.Journals.{replay}
use Rattle.log_check.specs.declared.verdict.CheckVerdict.{CheckVerdict}
use Rattle.log_check.specs.declared.verdict.CheckVerdict.TheVariants.{Accepted, Unlawful, Differs}
use Rattle.log_check.specs.Speech.{Voice, speech}

abbrev pub IsLawful : Opening → List Entry → Type 0
IsLawful o j = IsSome (replay o j)

-- the entry of this number, from 1, is the first that may not come
pub record IsFirstUnlawful (o : Opening) (j : List Entry) (number : ℕ) : Type 0 where
  pub front : List Entry
  pub entry : Entry
  pub more : List Entry
  pub journal : j ≡ front ++ entry ∷ more
  pub number_is : number ≡ length front + 1
  pub lawful : IsLawful o front
  pub unlawful : replay o (front ++ entry ∷ []) ≡ None

-- they begin with different bytes, or one of them alone has ended
abbrev pub BeginApart : List ℕ → List ℕ → Type 0
BeginApart [] [] = ⊥
BeginApart [] (b ∷ bs) = Unit {0}
BeginApart (a ∷ xs) [] = Unit {0}
BeginApart (a ∷ xs) (b ∷ bs) = a ≢ b

-- the first place, from 0, at which one text isn't the other, or where one of them ends
pub record IsFirstPlace (one other : List ℕ) (place : ℕ) : Type 0 where
  pub front : List ℕ
  pub left : List ℕ
  pub right : List ℕ
  pub one_is : one ≡ front ++ left
  pub other_is : other ≡ front ++ right
  pub place_is : place ≡ length front
  pub apart : BeginApart left right

-- of a text that should be this one
abbrev pub Told : List ℕ → List ℕ → CheckVerdict → Type 0
Told text said Accepted = text ≡ said
Told text said (Unlawful number) = ⊥
Told text said (Differs place) = IsFirstPlace text said place

-- of a journal and a text, with this voice, over this opening: a journal that isn't lawful is told before all else
abbrev pub Checked : Voice → Opening → List Entry → List ℕ → CheckVerdict → Type 0
Checked v o j text (Unlawful number) = IsFirstUnlawful o j number
Checked v o j text verdict = IsLawful o j × Told text (speech v o j) verdict
