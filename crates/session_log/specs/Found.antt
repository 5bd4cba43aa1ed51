-- What a log that was read is, and what is read of a log that was written. This project's own.
use Rattle.std.specs.Prelude.{◌≡◌, ℕ, List, length, Result, Ok, Err}
use Rattle.session_log.specs.declared.fault.LogReadError.{LogReadError}
use Rattle.session_log.specs.declared.fault.LogReadError.TheVariants as errors
use Rattle.session_log.specs.declared.log.Log.{Log}
use Rattle.session_log.specs.LogText.{IsPlainText, Transcript}

-- the bytes are this log, behind whole lines without `#`
pub record IsLogOf (bytes : List ℕ) (log : Log) : Type 0 where
  pub said : List ℕ
  pub plain : IsPlainText said
  pub whole : Transcript said log.settings log.journal bytes
  pub transcript : log.transcript ≡ length said

-- this log is read, unless out of memory
abbrev pub GivesLog : Log → Result Log LogReadError → Type 0
GivesLog log (Ok l) = l ≡ log
GivesLog log (Err errors.NoMemory) = Unit {0}
GivesLog log (Err (errors.Fault f)) = ⊥
