-- A session that is over, before what it left is handed back. This project's own.
use Rattle.std.specs.Prelude.{Bool, true, false, Option, Some, IsSomeAnd}
use Rattle.dbg_traits.specs.Told.{Told}
use Rattle.engine_parts.specs.declared.ending.Closed.{Closed}
use Rattle.session_parts.specs.Left.{IsLeft}
use Rattle.session_parts.specs.Scene.{AskFile, Play, IsPlayed, told_by}
use Rattle.session_parts.specs.Stage.{Stage}
use Rattle.session_parts.specs.Ties.{IsTied, Taken}
use Rattle.session_parts.specs.declared.status.Status.{Status}
use Rattle.session_parts.specs.declared.status.Status.TheVariants as status

-- what a session left, and what ties it to the world that it talked to
pub record IsOver (s : Status) (t : Told) (c : Option Closed) : Type 0 where
  pub run : Stage
  pub input : Taken
  pub left : IsSomeAnd c (IsLeft run)
  pub tied : IsTied (Some s) t run input

-- what a session over a script left, and what ties it to the script in the world's place
pub record IsPlayedOut (s : Status) (p : Play) (t : Told) (c : Closed) : Type 0 where
  pub run : Stage
  pub input : Taken
  pub left : IsLeft run c
  pub played : IsPlayed t p
  pub tied : IsTied (Some s) (told_by (Some p) t) run input

-- a session over a file is over: what it left, and whether its log is wanted
pub record IsHanded (has_log : Bool) (s : Status) (t : Told) (c : Closed) : Type 0 where
  pub run : Stage
  pub input : Taken
  pub left : IsLeft run c
  pub asked : AskFile t.words has_log
  pub tied : IsTied (Some s) t run input

-- whether the log of a session that was over with this status is put behind its lines: they are whole
abbrev pub is_logged : Status → Bool
is_logged status.Done = true
is_logged status.Budget = true
is_logged status.History = true
is_logged status.ReadFault = true
is_logged status.Words = false
is_logged (status.File f) = false
is_logged status.WriteFault = false
is_logged status.NoMemory = false
is_logged status.Rejected = false

-- whether a run that was over with this status is summed up
abbrev pub sums_up : Status → Bool
sums_up status.Done = true
sums_up status.Budget = true
sums_up status.History = true
sums_up status.Words = false
sums_up (status.File f) = false
sums_up status.ReadFault = false
sums_up status.WriteFault = false
sums_up status.NoMemory = false
sums_up status.Rejected = false
