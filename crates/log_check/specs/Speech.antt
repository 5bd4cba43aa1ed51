-- What a speaker says of a session: a text for its opening, and one for each entry, by what that shows.
use Rattle.std.specs.Prelude.{◌≡◌, ◌==◌, ℕ, zero, suc, Bool, true, List, [], ◌∷◌, ◌++◌, Option, Some, None, unwrap_or}
use Rattle.std.specs.Option.{option_map}
use Rattle.dbg_model.specs.declared.entry.Entry.{Entry}
use Rattle.dbg_model.specs.declared.entry.Entry.TheVariants.{Ran, Counted, Stopped, Left, Did, Poked}
use Rattle.dbg_model.specs.declared.opening.Opening.{Opening}
use Rattle.dbg_model.specs.declared.shown.Shown.{Shown}
use Rattle.dbg_model.specs.State.{State}
use Rattle.dbg_model.specs.Lawful.{ran}
use Rattle.dbg_model.specs.Journals.{Place, come, first_place}
use Rattle.dbg_model.specs.Shown.{shown_of}

-- the meaning of a speaker
pub record Voice : Type 0 where
  pub opening : Opening → List ℕ
  pub entry : Entry → Shown → List ℕ

-- a `Ran` is of one instruction
abbrev pub is_one : Entry → Bool
is_one (Ran h n) = n == 1
is_one (Counted h) = true
is_one (Stopped h why) = true
is_one (Left h code) = true
is_one (Did line) = true
is_one (Poked p) = true

-- in some state this is what the entry shows
pub record CanShow (e : Entry) (shown : Shown) : Type 0 where
  pub opening : Opening
  pub state : State
  pub shows : shown ≡ shown_of opening state e
  pub one : is_one e ≡ true

-- of an instruction of a hart, in the state before it, if that is reached
abbrev pub instruction_text : Voice → Opening → ℕ → Option State → List ℕ
instruction_text v o h None = []
instruction_text v o h (Some s) = v.entry (Ran h 1) (shown_of o s (Ran h 1))

-- of n instructions of a hart, one by one
abbrev pub ran_text : Voice → Opening → ℕ → State → ℕ → List ℕ
ran_text v o h s zero = []
ran_text v o h s (suc n) = ran_text v o h s n ++ instruction_text v o h (ran o h s n)

-- of an entry that comes in a state
abbrev pub entry_text : Voice → Opening → State → Entry → List ℕ
entry_text v o s (Ran h n) = ran_text v o h s n
entry_text v o s e = v.entry e (shown_of o s e)

-- of entries that come at a place
abbrev pub text_from : Voice → Opening → Place → List Entry → List ℕ
text_from v o p [] = []
text_from v o p (e ∷ es) = entry_text v o p.state e ++ unwrap_or (option_map (λ q. text_from v o q es) (come o p e)) []

-- of a session
unfoldable pub speech : Voice → Opening → List Entry → List ℕ
speech v o j = v.opening o ++ text_from v o (first_place o) j
