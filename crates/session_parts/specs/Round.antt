-- What one round of a session does. This project's own.
use Rattle.std.specs.Prelude.{◌≡◌, ◌⊎◌, ◌<◌, ◌≤◌, ◌+◌, ◌&&◌, not, ℕ, zero, suc, Bool, true, false, List, drop, Option, None, Some}
use Rattle.dbg_traits.specs.Told.{Told}
use Rattle.dbg_model.specs.State.{any_runs}
use Rattle.engine_parts.specs.Steps.{next_running}
use Rattle.session_parts.specs.Stage.{Stage, stands}
use Rattle.session_parts.specs.Steps.{IsMove, Turns, Does, Inputs, can_do}
use Rattle.session_parts.specs.Taking.{has_line}
use Rattle.session_parts.specs.Ties.{Taken, OverBy}
use Rattle.session_parts.specs.Seen.{Seen}
use Rattle.session_parts.specs.declared.turn.Turn.{Turn}
use Rattle.session_parts.specs.declared.turn.Turn.TheVariants as turn
use Rattle.session_parts.specs.declared.line.Done.{Done}
use Rattle.session_parts.specs.declared.line.Done.TheVariants as done
use Rattle.session_parts.specs.declared.input.Input.{Input}
use Rattle.session_parts.specs.declared.input.Input.TheVariants as input
use Rattle.session_parts.specs.declared.status.Status.{Status}
use Rattle.session_parts.specs.declared.status.Status.TheVariants as status

-- a session at a moment: what its world tells in the place of the world
pub record Moment : Type 0 where
  pub told : Told
  pub run : Stage
  pub input : Taken
  pub status : Option Status
  pub next : ℕ
  pub out : List Bool

abbrev pub moment : {W : Type 0} → (W → Told) → Seen W → Moment
moment told s = record { told = told s.world; run = s.run; input = s.input; status = s.status; next = s.next; out = s.out }

-- ---- input is taken

-- what is left of the input after a poll
abbrev pub taken_by : Input → Taken → List ℕ → Taken
taken_by (input.Took n) i rest = record { rest = rest; count = i.count + n; ended = i.ended }
taken_by input.End i rest = record i { ended = true }
taken_by input.Nothing i rest = i
taken_by input.Failed i rest = i
taken_by input.NoMemory i rest = i

-- the status after a poll: the limit of the input is looked at once bytes came
abbrev pub AfterPoll : Input → Stage → ℕ → Option Status → Type 0
AfterPoll (input.Took n) r count s = OverBy s r (count + n)
AfterPoll input.End r count s = s ≡ None
AfterPoll input.Nothing r count s = s ≡ None
AfterPoll input.Failed r count s = s ≡ Some status.ReadFault
AfterPoll input.NoMemory r count s = s ≡ Some status.NoMemory

-- one poll, which may wait exactly where no hart runs
pub record Polls (p q : Moment) : Type 0 where
  pub answer : Input
  pub told : Told
  pub rest : List ℕ
  pub status : Option Status
  pub inputs : Inputs answer (not (any_runs p.run.state.harts)) p.told told p.input.rest rest
  pub after : AfterPoll answer p.run p.input.count status
  pub is : q ≡ record p { told = told; input = taken_by answer p.input rest; status = status }

-- Where no whole line is kept and the input hasn't ended there is one poll, else none.
abbrev pub TakesBy : Bool → Moment → Moment → Type 0
TakesBy true p q = Polls p q
TakesBy false p q = q ≡ p

abbrev pub Takes : Moment → Moment → Type 0
Takes p q = TakesBy (not p.input.ended && not (has_line false p.input.rest)) p q

-- ---- a line is done

-- how far a line reached
abbrev pub behind : Done → ℕ
behind (done.Done next) = next
behind (done.Unput next) = next
behind (done.Unsaid next) = next
behind done.Nothing = 0
behind done.Waits = 0
behind done.NoMemory = 0

-- the status after a line that could be done
abbrev pub AfterLine : Done → Stage → ℕ → Option Status → Type 0
AfterLine (done.Done next) r count s = OverBy s r count
AfterLine (done.Unput next) r count s = s ≡ Some status.WriteFault
AfterLine (done.Unsaid next) r count s = s ≡ Some status.NoMemory
AfterLine done.NoMemory r count s = ⊥
AfterLine done.Nothing r count s = ⊥
AfterLine done.Waits r count s = ⊥

-- one line, with its reply
pub record DoesOne (p q : Moment) : Type 0 where
  pub answer : Done
  pub told : Told
  pub run : Stage
  pub status : Option Status
  pub opening : run.opening ≡ p.run.opening
  pub does : Does answer p.input.ended p.input.rest p.told told p.run run
  pub after : AfterLine answer run p.input.count status
  pub is : q ≡ record p { told = told; run = run; input = record p.input { rest = drop (behind answer) p.input.rest }; status = status }

-- A line that is kept is done, but for one that waits while a hart runs.
abbrev pub LinesBy : Bool → Moment → Moment → Type 0
LinesBy true p q = DoesOne p q
LinesBy false p q = q ≡ p

-- there was no memory to read or to do the line that is kept
abbrev pub IsUnread : Moment → Moment → Type 0
IsUnread p q = (has_line p.input.ended p.input.rest ≡ true) × (q ≡ record p { status = Some status.NoMemory })

abbrev pub Lines : Moment → Moment → Type 0
Lines p q = LinesBy (can_do p.run p.input.ended p.input.rest) p q ⊎ IsUnread p q

-- ---- a hart is moved

-- the status after a turn that moved its hart
abbrev pub AfterTurn : Turn → Stage → ℕ → Option Status → Type 0
AfterTurn turn.Moved r count s = OverBy s r count
AfterTurn turn.Unput r count s = s ≡ Some status.WriteFault
AfterTurn turn.NoMemory r count s = s ≡ Some status.NoMemory
AfterTurn turn.Stood r count s = ⊥

-- one move of a hart, one of these, with its lines
pub record TurnsOne (Fits : Stage → Stage → Type 0) (h : ℕ) (p q : Moment) : Type 0 where
  pub answer : Turn
  pub told : Told
  pub run : Stage
  pub status : Option Status
  pub opening : run.opening ≡ p.run.opening
  pub turns : Turns Fits answer h p.told told p.run run
  pub after : AfterTurn answer run p.input.count status
  pub is : q ≡ record p { told = told; run = run; status = status }

-- n moves of hart h, each of which `Fits` allows; the session goes on before each of them
abbrev pub Moved : (Stage → Stage → Type 0) → ℕ → ℕ → Moment → Moment → Type 0
Moved Fits zero h p q = q ≡ p
Moved Fits (suc n) h p q = (m : Moment) × Moved Fits n h p m × (m.status ≡ None) × TurnsOne Fits h m q

-- at most 64 moves of hart h, each by the first row that fits: fewer only if it stands then, or the session is over
pub record MovesOne (h : ℕ) (p q : Moment) : Type 0 where
  pub count : ℕ
  pub most : count ≤ 64
  pub moved : Moved (IsMove h) count h p q
  pub rests : count < 64 → q.status ≡ None → stands q.run h ≡ true

-- the hart that was picked is turned
abbrev pub MovesBy : Option ℕ → Moment → Moment → Type 0
MovesBy None p q = q ≡ p
MovesBy (Some h) p q = MovesOne h (record p { next = h + 1 }) q

-- The next hart that runs and has no job out is picked, where there is one, and turned.
pub record Moves (pick : Option ℕ) (p q : Moment) : Type 0 where
  pub picks : pick ≡ next_running p.run.minds p.out p.next
  pub moves : MovesBy pick p q

-- ---- the end

-- The input ended, no line is left and no hart runs: the session is done.
abbrev pub SettlesBy : Bool → Moment → Moment → Type 0
SettlesBy true p q = q ≡ record p { status = Some status.Done }
SettlesBy false p q = q ≡ p

abbrev pub Settles : Moment → Moment → Type 0
Settles p q = SettlesBy ((p.input.ended && not (any_runs p.run.state.harts)) && not (has_line true p.input.rest)) p q

-- ---- the round

-- Once the status is set nothing more is done.
abbrev pub Unless : Option Status → (Moment → Moment → Type 0) → Moment → Moment → Type 0
Unless None R p q = R p q
Unless (Some s) R p q = q ≡ p

abbrev pub Then : (Moment → Moment → Type 0) → (Moment → Moment → Type 0) → Moment → Moment → Type 0
Then R S p q = (m : Moment) × R p m × Unless m.status S m q

-- Input is taken, a line is done, a hart is picked and moved, and the session is done where nothing is left.
abbrev pub Round : Option ℕ → Moment → Moment → Type 0
Round pick p q = Then Takes (Then Lines (Then (Moves pick) Settles)) p q
