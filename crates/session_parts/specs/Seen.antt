-- What a session is seen as, and how much is left of it. This project's own.
use Rattle.std.specs.Prelude.{◌≡◌, ◌⊎◌, ◌<◌, ◌+◌, ◌-◌, ◌*◌, ◌||◌, ◌&&◌, not, min, ℕ, zero, suc, Bool, true, false, List, [], ◌∷◌, length, drop, Option, None, Some, if◌then◌else◌}
use Rattle.session_parts.specs.Stage.{Stage, moves_at}
use Rattle.session_parts.specs.Steps.{can_do}
use Rattle.session_parts.specs.Ties.{Taken, session_work}
use Rattle.session_parts.specs.Taking.{has_line}
use Rattle.session_parts.specs.declared.known.Known.{Known}
use Rattle.dbg_model.specs.State.{any_runs}
use Rattle.session_parts.specs.declared.status.Status.{Status}

-- a session as one value
pub record Seen (W : Type 0) : Type 0 where
  pub world : W
  -- the engine
  pub run : Stage
  -- the rest of the input
  pub input : Taken
  pub status : Option Status
  -- the hart after the one that was picked last
  pub next : ℕ
  -- the harts whose job is out
  pub out : List Bool
  -- what is known of the rest of the input
  pub known : Known
  -- for each hart, how many of its next slices the session works itself, with no copy for a worker
  pub near : List ℕ

-- all is as it was, except perhaps the world
pub record Same {W : Type 0} (old new : Seen W) : Type 0 where
  pub run : new.run ≡ old.run
  pub input : new.input ≡ old.input
  pub status : new.status ≡ old.status
  pub next : new.next ≡ old.next
  pub out : new.out ≡ old.out

-- of the harts from k on, as many as there are left, which can be moved
abbrev pub movers_from : Stage → ℕ → ℕ → List Bool
movers_from r k zero = []
movers_from r k (suc n) = moves_at r k ∷ movers_from r (k + 1) n

abbrev pub movers : Stage → List Bool
movers r = movers_from r 0 (length r.minds)

abbrev pub any_of : List Bool → Bool
any_of [] = false
any_of (b ∷ bs) = b || any_of bs

-- how many stand before the first
abbrev pub gap : List Bool → ℕ
gap [] = 0
gap (true ∷ bs) = 0
gap (false ∷ bs) = gap bs + 1

-- how many picks from hart `next` on find a hart that can't be moved, before one finds a hart that can
abbrev pub ahead : List Bool → ℕ → ℕ
ahead bs next = if any_of (drop next bs) then gap (drop next bs) else ((length bs - next) + 1 + gap bs)

-- how often harts are picked in vain at most, one after another: the last of 16 was picked, none is, then all are
abbrev pub most_picks : ℕ
most_picks = 33

-- what each part of a session's work counts beside the picks: more than all that come before it in vain
abbrev pub work_worth : ℕ
work_worth = 34

-- how much is left to do
abbrev pub work : {W : Type 0} → Seen W → ℕ
work s = work_worth * session_work s.status s.run s.input + min most_picks (ahead (movers s.run) s.next)

-- A step that got on leaves less to do. One that didn't left all as it was, where this holds.
abbrev pub GotOn : {W : Type 0} → Bool → Seen W → Seen W → Bool → Type 0
GotOn true old new why = work new < work old
GotOn false old new why = Same old new × (why ≡ true)

-- input need not be taken, a line can't be done, and no hart runs
abbrev pub no_input : {W : Type 0} → Seen W → Bool
no_input s = (s.input.ended || any_runs s.run.state.harts) || has_line s.input.ended s.input.rest

abbrev pub no_line : {W : Type 0} → Seen W → Bool
no_line s = not (can_do s.run s.input.ended s.input.rest)

abbrev pub no_move : {W : Type 0} → Seen W → Bool
no_move s = not (any_runs s.run.state.harts)

-- not all is done
abbrev pub is_open : {W : Type 0} → Seen W → Bool
is_open s = not ((s.input.ended && not (any_runs s.run.state.harts)) && not (has_line true s.input.rest))

-- the hart after the one that was picked
abbrev pub picked : Option ℕ → ℕ → ℕ
picked None next = next
picked (Some h) next = h + 1

-- A hart was turned: less is left to do; or it couldn't be moved, and all is as it was.
abbrev pub HasTurned : {W : Type 0} → ℕ → Seen W → Seen W → Type 0
HasTurned h old new = (session_work new.status new.run new.input < session_work old.status old.run old.input) ⊎ (Same old new × (moves_at old.run h ≡ false))
