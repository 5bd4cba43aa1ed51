-- How the check of an input for the program of a file ends, over what the world tells.
use Rattle.std.specs.Prelude.{◌≡◌, ◌⊎◌, ◌<◌, ◌≤◌, ℕ, Bool, false, true, List, length, Some, None, IfSome}
use Rattle.elf_checks.specs.declared.fault.ElfFault.{ElfFault}
use Rattle.elf_checks.specs.Reading as reading
use Rattle.elf32_read.specs.Program.{Program}
use Rattle.dbg_traits.specs.Told.{Told}
use Rattle.mi_reports.specs.Refusals.{refusal_lines, file_fields}
use Rattle.session_parts.specs.Words.{IsWhole}
use Rattle.session_parts.specs.Ties.{IsCut, IsFileOf, IsUnpolled}
use Rattle.session_parts.specs.Early.{IsPart, Line, Silent}
use Rattle.session_parts.specs.declared.status.Status.{Status}
use Rattle.session_parts.specs.declared.status.Status.TheVariants as status
use Rattle.session_check.specs.declared.finding.Finding.{Finding}
use Rattle.session_check.specs.declared.finding.Finding.TheVariants.{Accepted, Long, Fault, Unlawful, Differs}
use Rattle.session_check.specs.Findings.{Finds, most_input}
use Rattle.session_check.specs.VerdictLine.{verdict_line}

-- no input was found to be a record
abbrev pub IsRejection : Finding → Type 0
IsRejection (Accepted count) = ⊥
IsRejection found = Unit {0}

-- the input was polled to its end, and so many bytes; or, where it is too long, more than the most were
abbrev pub IsPolled : Finding → Bool → ℕ → Type 0
IsPolled Long ended count = most_input < count
IsPolled found ended count = (ended ≡ true) × (count ≤ most_input)

-- the file of this name was read whole, and the input, and neither failed; this is found of the input for the file's program
pub record Judged (name : List ℕ) (t : Told) (found : Finding) : Type 0 where
  pub program : Program
  pub file : IsFileOf t name program
  pub faults : t.poll_faults ≡ 0
  pub polled : IsPolled found t.poll_ended t.input_length
  pub length : IfSome t.polled (λ input. length input ≡ t.input_length)
  pub finds : IfSome t.polled (λ input. Finds program input found)

-- its line was written
pub record Answered (name : List ℕ) (t : Told) (found : Finding) : Type 0 where
  pub judged : Judged name t found
  pub puts : t.put_faults ≡ 0
  pub written : IfSome t.written (λ written. written ≡ verdict_line found)

-- a put of its line failed, and a front of the line was written
pub record Cut (name : List ℕ) (t : Told) (found : Finding) : Type 0 where
  pub judged : Judged name t found
  pub puts : 0 < t.put_faults
  pub written : IfSome t.written (λ written. IsCut written (verdict_line found))

-- the file of this name has this fault
pub record IsRefused (name : List ℕ) (t : Told) (f : ElfFault) : Type 0 where
  pub named : t.file_name ≡ Some name
  pub whole : IsWhole t
  pub faults : t.file_faults ≡ 0
  pub length : IfSome t.file_taken (λ bytes. length bytes ≡ t.file_length)
  pub fault : IfSome t.file_taken (λ bytes. reading.Refused bytes f)

-- reading the file of this name failed
pub record FailsFile (name : List ℕ) (t : Told) : Type 0 where
  pub named : t.file_name ≡ Some name
  pub part : IsPart t
  pub faults : 0 < t.file_faults
  pub unpolled : IsUnpolled t

-- the file of this name was read whole, and a poll failed
pub record FailsInput (name : List ℕ) (t : Told) : Type 0 where
  pub program : Program
  pub file : IsFileOf t name program
  pub faults : 0 < t.poll_faults

-- out of memory, nothing has failed, and nothing was written
pub record IsShort (name : List ℕ) (t : Told) : Type 0 where
  pub named : (t.file_name ≡ None) ⊎ (t.file_name ≡ Some name)
  pub file : t.file_faults ≡ 0
  pub poll : t.poll_faults ≡ 0
  pub put : t.put_faults ≡ 0
  pub silent : Silent t

-- the check of the input for the file of this name ended so
abbrev pub Checks : List ℕ → Status → Told → Type 0
Checks name status.Done t = (count : ℕ) × Answered name t (Accepted count)
Checks name status.Rejected t = (found : Finding) × IsRejection found × Answered name t found
Checks name (status.File f) t = IsUnpolled t × IsRefused name t f × Line (refusal_lines (file_fields f)) t
Checks name status.ReadFault t = Silent t × (t.put_faults ≡ 0) × (FailsFile name t ⊎ FailsInput name t)
Checks name status.WriteFault t = (found : Finding) × Cut name t found
Checks name status.NoMemory t = IsShort name t
Checks name s t = ⊥
