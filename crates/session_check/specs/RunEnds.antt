-- How a run ends, whatever its words ask for: with what is left of a session, before one was begun, or as the check of a log. This project's own.
use Rattle.std.specs.Prelude.{◌≡◌, ◌⊎◌, ◌≤◌, Bool, true, false, List, ℕ, length, Option, Some, None, IfSome}
use Rattle.dbg_traits.specs.Told.{Told}
use Rattle.elf32_read.specs.Program.{Program}
use Rattle.elf_checks.specs.Reading as reading
use Rattle.elf_checks.specs.Reading.{IsImage}
use Rattle.elf_checks.specs.declared.fault.ElfFault.{ElfFault}
use Rattle.engine_parts.specs.declared.ending.Closed.{Closed}
use Rattle.session_parts.specs.Words.{IsWhole, checked_words, served_words}
use Rattle.session_parts.specs.declared.file.Served.{Served}
use Rattle.session_parts.specs.Early.{Early}
use Rattle.session_parts.specs.Headline.{Headline}
use Rattle.session_parts.specs.Over.{is_logged}
use Rattle.session_parts.specs.Ties.{Clean}
use Rattle.session_parts.specs.declared.status.Status.{Status}
use Rattle.session_parts.specs.declared.status.Status.TheVariants as status
use Rattle.session_check.specs.declared.finding.Finding.TheVariants.{Accepted}
use Rattle.session_check.specs.Checks.{Checks}
use Rattle.session_check.specs.Findings.{Finds, most_input}

-- the words ask for the check of a log for a file, and it ended so
pub record IsCheck (s : Status) (t : Told) : Type 0 where
  pub name : List ℕ
  pub asked : checked_words t.words ≡ Some name
  pub checks : Checks name s t

abbrev pub RunEnds : Status → Told → Option Closed → Type 0
RunEnds s t None = Early s t ⊎ IsCheck s t
RunEnds s t (Some c) = Headline s t c

-- the words ask for a check, the file is accepted, and nothing has failed
pub record GoodCheck (t : Told) : Type 0 where
  pub clean : Clean t
  pub name : List ℕ
  pub words : checked_words t.words ≡ Some name
  pub bytes : List ℕ
  pub taken : t.file_taken ≡ Some bytes
  pub program : Program
  pub image : IsImage bytes program

-- the words ask for a check, and the file was read whole and has this fault
pub record RefusedCheck (t : Told) (f : ElfFault) : Type 0 where
  pub name : List ℕ
  pub words : checked_words t.words ≡ Some name
  pub whole : IsWhole t
  pub bytes : List ℕ
  pub taken : t.file_taken ≡ Some bytes
  pub fault : reading.Refused bytes f

-- the input was judged, unless memory ran out
abbrev pub IsJudged : Status → Type 0
IsJudged status.Done = Unit {0}
IsJudged status.Rejected = Unit {0}
IsJudged status.NoMemory = Unit {0}
IsJudged s = ⊥

-- a session with its log is asked for
abbrev pub asks_log : Option Served → Bool
asks_log None = false
asks_log (Some s) = s.has_log

-- What a session with its log wrote whole is the record of a session of its program, with all entries of its journal, unless it is too long to
-- be checked.
abbrev pub IsRecorded : Status → Told → Option Closed → Type 0
IsRecorded s t None = Unit {0}
IsRecorded s t (Some c) =
    asks_log (served_words t.words) ≡ true → is_logged s ≡ true
    → IfSome t.written (λ written. length written ≤ most_input → Finds c.opening.image written (Accepted (length c.journal)))
