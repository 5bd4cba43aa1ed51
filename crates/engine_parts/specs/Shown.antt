-- What an entry shows after the move that noted it, and the state in which it comes. This project's own.
use Rattle.std.specs.Prelude.{ℕ, ◌≡◌, ◌<◌, ◌&&◌, Bool, true, false, List, [], ◌∷◌, ◌++◌, Option, Some, None}
use Rattle.data_memory.specs.Ranges.{bytes_at}
use Rattle.dbg_model.specs.declared.entry.Entry.{Entry}
use Rattle.dbg_model.specs.declared.entry.Entry.TheVariants.{Ran, Counted, Stopped, Left, Did, Poked}
use Rattle.dbg_model.specs.declared.shown.Shown.{Shown}
use Rattle.dbg_model.specs.declared.shown.Shown.TheVariants.{Nothing, Wrote, Stop, Exit}
use Rattle.dbg_model.specs.State.{State, all_gone}
use Rattle.dbg_model.specs.Journals.{Leaves}
use Rattle.dbg_model.specs.Shown.{frame_at, stopping_watch}
use Rattle.engine_parts.specs.declared.moving.Move.{Move}
use Rattle.engine_parts.specs.declared.moving.Move.TheVariants as move
use Rattle.engine_parts.specs.declared.moving.Turned.TheVariants as turned
use Rattle.engine_parts.specs.Seen.{Engine, seen}
use Rattle.engine_parts.specs.Facts.{Facts}
use Rattle.engine_parts.specs.Calls.{Moves, StopsFor}
use Rattle.engine_parts.specs.Marks.{executed}

abbrev pub wrote : Option (List ℕ) → Shown
wrote None = Nothing
wrote (Some bytes) = Wrote bytes

-- the bytes that the instruction of a move wrote
abbrev pub ran_shows : Engine → Move → Shown
ran_shows r (move.Wrote addr len) = wrote (bytes_at r.machine.memory addr len)
ran_shows r _ = Nothing

-- what an entry shows that this move of the engine has noted, or lengthened by an instruction; `last` where it is the last
abbrev pub shown_by : Engine → Move → Entry → Bool → Shown
shown_by r m (Ran h n) last = ran_shows r m
shown_by r m (Stopped h why) last = Stop (frame_at r.sources (seen r).harts h) r.temporary (stopping_watch r.watches why)
shown_by r m (Left h code) last = Exit (last && all_gone (seen r).harts)
shown_by r m e last = Nothing

-- a move of one of n harts may note it; a `Ran` is its one instruction
abbrev pub IsMoved : ℕ → Entry → Type 0
IsMoved n (Ran h k) = k ≡ 1
IsMoved n (Stopped h why) = h < n
IsMoved n (Did line) = ⊥
IsMoved n (Poked p) = ⊥
IsMoved n _ = Unit {0}

-- these entries stand behind an exit: none behind the last, else another exit first
abbrev pub StandBehind : Bool → List Entry → Type 0
StandBehind true es = es ≡ []
StandBehind false es = (h code : ℕ) × (more : List Entry) × (es ≡ Left h code ∷ more)

-- an exit stands in the journal behind entries that leave this state
pub record LeavesIn (r : Engine) (h code : ℕ) (last : Bool) (s : State) : Type 0 where
  pub front : List Entry
  pub behind : List Entry
  pub journal : r.journal ≡ front ++ Left h code ∷ behind
  pub leaves : Leaves r.opening front s
  pub next : StandBehind last behind

-- an entry of a move of hart h comes in this state: its instruction, a count and a stop in that before the move, an exit in that
-- which the entries before it leave; `last` where it is the journal's last
abbrev pub ComesAt : Move → Engine → Engine → ℕ → Entry → Bool → State → Type 0
ComesAt m old new h (Ran k n) last s = (executed (turned.Moved m) ≡ 1) × (k ≡ h) × (s ≡ seen old)
ComesAt m old new h (Counted k) last s = s ≡ seen old
ComesAt m old new h (Stopped k why) last s = StopsFor why old new k × (s ≡ seen old)
ComesAt m old new h (Left k code) last s = LeavesIn new k code last s
ComesAt m old new h _ last s = ⊥

-- the last move made `new` of `old`, and an entry of it comes in this state
pub record ComesIn (m : Move) (old new : Engine) (e : Entry) (last : Bool) (s : State) : Type 0 where
  pub hart : ℕ
  pub facts : Facts new
  pub moves : Moves m old new hart
  pub comes : ComesAt m old new hart e last s
