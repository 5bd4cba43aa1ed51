-- What a check finds of an input, for a program.
use Rattle.std.specs.Prelude.{◌≡◌, ◌<◌, ◌≤◌, ℕ, List, length, take}
use Rattle.elf32_read.specs.Program.{Program}
use Rattle.dbg_traits.specs.declared.settings.Settings.{Settings}
use Rattle.dbg_model.specs.declared.entry.Entry.{Entry}
use Rattle.dbg_model.specs.declared.opening.Opening.{Opening}
use Rattle.mi_reports.specs.Said.{said}
use Rattle.session_log.specs.declared.log.Log.{Log}
use Rattle.session_log.specs.LogText.{IsPlainText, Transcript}
use Rattle.session_log.specs.Found.{IsLogOf}
use Rattle.session_log.specs.Faults.{IsFirstFault}
use Rattle.log_check.specs.Verdict.{IsLawful, IsFirstUnlawful, IsFirstPlace}
use Rattle.session_check.specs.declared.finding.Finding.{Finding}
use Rattle.session_check.specs.declared.finding.Finding.TheVariants.{Accepted, Long, Fault, Unlawful, Differs}

-- the most bytes of an input that is checked
abbrev pub most_input : ℕ
most_input = 67108864

abbrev pub opened : Program → Settings → Opening
opened p s = record { image = p; settings = s }

-- The record of a lawful session of the program, with its log, of so many entries. What was said is whole lines, none of which begins with `#`.
pub record IsRecord (p : Program) (input : List ℕ) (count : ℕ) : Type 0 where
  pub settings : Settings
  pub journal : List Entry
  pub lawful : IsLawful (opened p settings) journal
  pub plain : IsPlainText (said (opened p settings) journal)
  pub text : Transcript (said (opened p settings) journal) settings journal input
  pub count_is : count ≡ length journal

-- a log is read of it, and its journal isn't lawful from this entry on
pub record HasUnlawful (p : Program) (input : List ℕ) (number : ℕ) : Type 0 where
  pub log : Log
  pub read : IsLogOf input log
  pub unlawful : IsFirstUnlawful (opened p log.settings) log.journal number

-- a log is read of it, whose journal is lawful, and what stands before the log is from this place on other than what was said
pub record HasDifference (p : Program) (input : List ℕ) (place : ℕ) : Type 0 where
  pub log : Log
  pub read : IsLogOf input log
  pub lawful : IsLawful (opened p log.settings) log.journal
  pub differs : IsFirstPlace (take log.transcript input) (said (opened p log.settings) log.journal) place

-- of an input that isn't too long
abbrev pub FindsIn : Program → List ℕ → Finding → Type 0
FindsIn p input (Accepted count) = IsRecord p input count
FindsIn p input Long = ⊥
FindsIn p input (Fault f) = IsFirstFault input f
FindsIn p input (Unlawful number) = HasUnlawful p input number
FindsIn p input (Differs place) = HasDifference p input place

-- too long is told before all else
abbrev pub Finds : Program → List ℕ → Finding → Type 0
Finds p input Long = most_input < length input
Finds p input found = (length input ≤ most_input) × FindsIn p input found
