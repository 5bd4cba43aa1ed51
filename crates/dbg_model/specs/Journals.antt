-- Which journals are lawful, and the state that one leaves. This project's own.
use Rattle.std.specs.Prelude.{◌≡◌, ℕ, zero, suc, ◌+◌, ◌-◌, Bool, true, List, [], ◌∷◌, ◌++◌, length, drop, Option, Some, None, option_and_then, if◌then◌else◌, ◌==◌, not}
use Rattle.std.specs.Option.{option_map}
use Rattle.dbg_model.specs.declared.entry.Entry.{Entry}
use Rattle.dbg_model.specs.declared.entry.Entry.TheVariants.{Ran, Counted, Stopped, Left, Did, Poked}
use Rattle.dbg_model.specs.declared.entry.Why.{Why}
use Rattle.dbg_model.specs.declared.opening.Opening.{Opening}
use Rattle.dbg_model.specs.State.{State, first_state}
use Rattle.dbg_model.specs.Lawful.{enter}

-- a place in a journal: the hart of the entry before, if that is a `Ran`, and the state
pub record Place : Type 0 where
  pub prev : Option ℕ
  pub state : State

abbrev pub ran_hart : Entry → Option ℕ
ran_hart (Ran h n) = Some h
ran_hart (Counted h) = None
ran_hart (Stopped h why) = None
ran_hart (Left h code) = None
ran_hart (Did line) = None
ran_hart (Poked p) = None

-- no two neighbouring `Ran` are of one hart
abbrev pub follows : Option ℕ → Entry → Bool
follows None e = true
follows (Some h) (Ran k n) = not (h == k)
follows (Some h) (Counted k) = true
follows (Some h) (Stopped k why) = true
follows (Some h) (Left k code) = true
follows (Some h) (Did line) = true
follows (Some h) (Poked p) = true

abbrev pub come : Opening → Place → Entry → Option Place
come o p e = if follows p.prev e then option_map (λ s. record { prev = ran_hart e; state = s }) (enter o p.state e) else None

abbrev pub replay_from : Opening → Place → List Entry → Option Place
replay_from o p [] = Some p
replay_from o p (e ∷ es) = option_and_then (λ q. replay_from o q es) (come o p e)

abbrev pub first_place : Opening → Place
first_place o = record { prev = None; state = first_state o }

-- the place at the end of a lawful journal
unfoldable pub replay : Opening → List Entry → Option Place
replay o j = replay_from o (first_place o) j

-- the journal is lawful, and leaves this state
pub record Leaves (o : Opening) (j : List Entry) (s : State) : Type 0 where
  pub prev : Option ℕ
  pub replays : replay o j ≡ Some (record { prev = prev; state = s })

-- how many instructions of the hart an entry has
abbrev pub ran_count : Entry → ℕ → Option ℕ
ran_count (Ran k n) h = if k == h then Some n else None
ran_count (Counted k) h = None
ran_count (Stopped k why) h = None
ran_count (Left k code) h = None
ran_count (Did line) h = None
ran_count (Poked p) h = None

-- one more instruction of a hart: it lengthens the last entry where that is a `Ran` of this hart
abbrev pub one_more_by : Option ℕ → Entry → ℕ → List Entry
one_more_by (Some n) e h = Ran h (n + 1) ∷ []
one_more_by None e h = e ∷ Ran h 1 ∷ []

abbrev pub one_more : Entry → ℕ → List Entry
one_more e h = one_more_by (ran_count e h) e h

abbrev pub lengthened : List Entry → ℕ → List Entry
lengthened [] h = Ran h 1 ∷ []
lengthened (e ∷ []) h = one_more e h
lengthened (e ∷ f ∷ es) h = e ∷ lengthened (f ∷ es) h

-- the journal after n more instructions of a hart
abbrev pub lengthened_by : ℕ → List Entry → ℕ → List Entry
lengthened_by zero j h = j
lengthened_by (suc n) j h = lengthened (lengthened_by n j h) h

-- how many instructions the last entry has
abbrev pub count_of : Entry → ℕ
count_of (Ran k n) = n
count_of (Counted k) = 0
count_of (Stopped k why) = 0
count_of (Left k code) = 0
count_of (Did line) = 0
count_of (Poked p) = 0

abbrev pub last_count : List Entry → ℕ
last_count [] = 0
last_count (e ∷ []) = count_of e
last_count (e ∷ f ∷ es) = last_count (f ∷ es)

-- the lines of the `Did` entries
abbrev pub did_one : Entry → List (List ℕ)
did_one (Ran h n) = []
did_one (Counted h) = []
did_one (Stopped h why) = []
did_one (Left h code) = []
did_one (Did line) = line ∷ []
did_one (Poked p) = []

abbrev pub did : List Entry → List (List ℕ)
did [] = []
did (e ∷ es) = did_one e ++ did es

-- how many entries other than `Ran` there are
abbrev pub noted_one : Entry → ℕ
noted_one (Ran h n) = 0
noted_one (Counted h) = 1
noted_one (Stopped h why) = 1
noted_one (Left h code) = 1
noted_one (Did line) = 1
noted_one (Poked p) = 1

abbrev pub noted : List Entry → ℕ
noted [] = 0
noted (e ∷ es) = noted_one e + noted es

-- the last n entries
abbrev pub last_entries : ℕ → List Entry → List Entry
last_entries n j = drop (length j - n) j

-- why a hart stopped, where the last entry says that one did
abbrev pub why_of : Entry → Option Why
why_of (Stopped h why) = Some why
why_of _ = None

abbrev pub last_why : List Entry → Option Why
last_why [] = None
last_why (e ∷ []) = why_of e
last_why (e ∷ f ∷ es) = last_why (f ∷ es)
