-- What a stop by a watch tells: which bytes its hart's last instruction changed, from which value to which (GDB manual, "Setting
-- Watchpoints").
use Rattle.std.specs.Prelude.{◌≡◌, ◌≢◌, ℕ, ◌+◌, ◌==◌, Bool, true, false, List, [], ◌∷◌, ◌++◌, Some, None}
use Rattle.dbg_model.specs.declared.entry.Entry.{Entry}
use Rattle.dbg_model.specs.declared.entry.Entry.TheVariants.{Ran, Stopped, Did}
use Rattle.dbg_model.specs.declared.entry.Why.TheVariants.{Watch as ByWatch}
use Rattle.dbg_model.specs.declared.opening.Opening.{Opening}
use Rattle.watch_points.specs.declared.watchpoint.Fired.{Fired}
use Rattle.watch_points.specs.declared.watchpoint.Watch.{Watch}
use Rattle.dbg_model.specs.State.{State}
use Rattle.dbg_model.specs.Lawful.{one, ran}
use Rattle.dbg_model.specs.Journals.{Leaves, ran_count}
use Rattle.dbg_model.specs.Outcome.{Change, deletes, enables}
use Rattle.dbg_model.specs.Reply.{answer_of}
use Rattle.watch_points.specs.Watches.{worth, fired_by, is_one_of}

-- an instruction of hart h led from s to t, and left the bytes of this enabled watch with another value, of those before it in the
-- list none
pub record Changes (o : Opening) (h : ℕ) (f : Fired) (s t : State) : Type 0 where
  pub step : one o h s ≡ Some t
  pub front : List Watch
  pub watch : Watch
  pub rest : List Watch
  pub among : s.watches ≡ front ++ watch ∷ rest
  pub number : watch.number ≡ f.number
  pub enabled : watch.enabled ≡ true
  pub old : worth s.memory watch ≡ Some f.old
  pub new : worth t.memory watch ≡ Some f.new
  pub another : f.old ≢ f.new
  pub first : fired_by front s.memory t.memory ≡ None

-- none of these entries is an instruction of hart h
abbrev pub AreOthers : ℕ → List Entry → Type 0
AreOthers h [] = Unit {0}
AreOthers h (e ∷ es) = (ran_count e h ≡ None) × AreOthers h es

-- the last instruction of hart h in a journal was such a one: it is the last of a `Ran`, behind which the journal has none of the hart
pub record LastChanged (o : Opening) (j : List Entry) (h : ℕ) (f : Fired) : Type 0 where
  pub front : List Entry
  pub count : ℕ
  pub rest : List Entry
  pub splits : j ≡ front ++ Ran h (count + 1) ∷ rest
  pub last : AreOthers h rest
  pub begins : State
  pub lawful : Leaves o front begins
  pub before : State
  pub comes : ran o h begins count ≡ Some before
  pub after : State
  pub changes : Changes o h f before after

-- each stop by a watch tells what its hart's last instruction changed
abbrev pub TellsChanges : Opening → List Entry → Type 0
TellsChanges o j = (front rest : List Entry) (h : ℕ) (f : Fired) → j ≡ front ++ Stopped h (ByWatch f) ∷ rest → LastChanged o front h f

-- a line that makes this change deletes or disables the watch of that number
abbrev pub drops : ℕ → Change → Bool
drops number (deletes ns) = is_one_of ns number
drops number (enables false ns) = is_one_of ns number
drops number _ = false

-- the entry stops hart h, or is of a line that, in this state, deletes or disables the watch of that number
abbrev pub lets_go : Opening → ℕ → ℕ → State → Entry → Bool
lets_go o h number s (Stopped k why) = k == h
lets_go o h number s (Did line) = drops number (answer_of o s line).outcome.change
lets_go o h number s _ = false

-- such an entry is among these, which come behind the others
pub record LetsGo (o : Opening) (h number : ℕ) (j es : List Entry) : Type 0 where
  pub front : List Entry
  pub entry : Entry
  pub rest : List Entry
  pub splits : es ≡ front ++ entry ∷ rest
  pub state : State
  pub lawful : Leaves o (j ++ front) state
  pub lets : lets_go o h number state entry ≡ true

-- A hart whose instruction made a watch fire executes nothing before it was stopped, unless that watch was deleted or disabled first.
pub record StopsFirst (o : Opening) (j : List Entry) : Type 0 where
  -- nothing directly behind it
  pub at_once : (h : ℕ) (f : Fired) (s t : State) → Changes o h f s t → one o h t ≡ None
  -- nor later, in another entry
  pub later :
      (front between rest : List Entry) (h n m : ℕ) (f : Fired) (s u t : State) → j ≡ (front ++ Ran h (n + 1) ∷ []) ++ (between ++ Ran h m ∷ rest) → AreOthers h between
      → Leaves o front s → ran o h s n ≡ Some u → Changes o h f u t → LetsGo o h f.number (front ++ Ran h (n + 1) ∷ []) between
