-- How far a text agrees with what was said so far.
use Rattle.std.specs.Prelude.{◌≡◌, ◌≢◌, ◌≤◌, ◌<◌, ℕ, zero, suc, Bool, true, false, List, [], ◌∷◌, ◌++◌, length, slice_index, Option, Some, None, Result, Ok, Err}
use Rattle.dbg_traits.specs.declared.text.NoMemory.{NoMemory}
use Rattle.dbg_model.specs.declared.entry.Entry.{Entry}
use Rattle.dbg_model.specs.declared.opening.Opening.{Opening}
use Rattle.dbg_model.specs.Journals.{Place}
use Rattle.dbg_model.specs.Lawful.{ran}
use Rattle.replay_parts.specs.Further.{lengthen}
use Rattle.dbg_replay.specs.Standing.{Standing}
use Rattle.log_check.specs.declared.hearing.Hearing.{Hearing}
use Rattle.log_check.specs.Speech.{Voice, ran_text, speech}
use Rattle.log_check.specs.Verdict.{BeginApart, IsFirstUnlawful, IsLawful}

-- two texts are the same so far, and no longer
pub record IsCommon (text piece : List ℕ) (n : ℕ) : Type 0 where
  pub text_has : n ≤ length text
  pub piece_has : n ≤ length piece
  pub same : (k : ℕ) → k < n → slice_index text k ≡ slice_index piece k
  pub longest : n < length text → n < length piece → slice_index text n ≢ slice_index piece n

-- the text begins with what was said
pub record GoesOn (text said : List ℕ) (at : ℕ) : Type 0 where
  pub rest : List ℕ
  pub text_is : text ≡ said ++ rest
  pub at_is : at ≡ length said

-- it isn't what was said, whatever else is said
pub record HasParted (text said : List ℕ) (at : ℕ) : Type 0 where
  pub front : List ℕ
  pub left : List ℕ
  pub next : ℕ
  pub more : List ℕ
  pub text_is : text ≡ front ++ left
  pub said_is : said ≡ front ++ next ∷ more
  pub at_is : at ≡ length front
  pub apart : BeginApart left (next ∷ more)

abbrev pub AgreesBy : Bool → List ℕ → List ℕ → ℕ → Type 0
AgreesBy true text said at = GoesOn text said at
AgreesBy false text said at = HasParted text said at

abbrev pub Agrees : List ℕ → Hearing → Type 0
Agrees said h = AgreesBy h.same h.text.now said h.at

abbrev pub IsWithin : Hearing → Type 0
IsWithin h = h.at ≤ length h.text.now

-- this was said behind all that was said before
pub record Hears (piece : List ℕ) (old new : Hearing) : Type 0 where
  pub text : new.text.now ≡ old.text.now
  pub within : IsWithin new
  pub agrees : (said : List ℕ) → Agrees said old → Agrees (said ++ piece) new

-- something came that leaves this place, and what it shows was said; or it may not come
abbrev pub Heard : Result Bool NoMemory → Option Place → List ℕ → Standing → Hearing → Hearing → Type 0
Heard (Ok true) after piece new old_hearing new_hearing = (after ≡ Some new.place) × Hears piece old_hearing new_hearing
Heard (Ok false) after piece new old_hearing new_hearing = after ≡ None
Heard (Err f) after piece new old_hearing new_hearing = Unit {0}

-- a piece, so many times
abbrev pub repeated : List ℕ → ℕ → List ℕ
repeated piece zero = []
repeated piece (suc n) = repeated piece n ++ piece

-- so many further instructions of the last `Ran` came, which lead from one place to another, and what they show was said; or none may come
abbrev pub HeardMore : Voice → Result ℕ NoMemory → Opening → ℕ → Place → Place → Hearing → Hearing → Type 0
HeardMore v (Ok zero) o h p q old new = lengthen o p h ≡ None
HeardMore v (Ok (suc n)) o h p q old new = (q.prev ≡ Some h) × (ran o h p.state (suc n) ≡ Some q.state) × Hears (ran_text v o h p.state (suc n)) old new
HeardMore v (Err f) o h p q old new = Unit {0}

-- all of a journal came, and was said; or the entry of that number is the first that may not come
abbrev pub Through : Voice → Opening → List Entry → Option ℕ → Hearing → Hearing → Type 0
Through v o j None old new = IsLawful o j × (new.text.now ≡ old.text.now) × Agrees (speech v o j) new
Through v o j (Some number) old new = IsFirstUnlawful o j number
