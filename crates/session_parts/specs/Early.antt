-- How a run ends before a session was begun, and what it wrote. This project's own.
use Rattle.std.specs.Prelude.{◌≡◌, ◌⊎◌, ◌<◌, ℕ, Bool, false, List, [], length, Some, None, IfSome}
use Rattle.elf_checks.specs.declared.fault.ElfFault.{ElfFault}
use Rattle.elf_checks.specs.Reading as reading
use Rattle.dbg_traits.specs.Told.{Told}
use Rattle.dbg_traits.specs.declared.settings.Settings.{Settings}
use Rattle.mi_values.specs.Record.{LineTree}
use Rattle.mi_values.specs.Records.{lines_bytes, AreLines}
use Rattle.mi_reports.specs.Refusals.{refusal_lines, file_fields, usage_fields}
use Rattle.session_parts.specs.Words.{served_words, AreRefused, IsWhole, most_file}
use Rattle.session_parts.specs.declared.file.Source.TheVariants.{File}
use Rattle.session_parts.specs.Ties.{IsCut, IsUnread, IsUnpolled}
use Rattle.session_parts.specs.declared.status.Status.{Status}
use Rattle.session_parts.specs.declared.status.Status.TheVariants as status

-- the text of these lines, which are lines of the grammar, was written; if a put failed, a prefix of it
pub record Line (trees : List LineTree) (t : Told) : Type 0 where
  pub grammar : AreLines trees
  pub front : IfSome t.written (λ written. IsCut written (lines_bytes trees))
  pub whole : t.put_faults ≡ 0 → IfSome t.written (λ written. written ≡ lines_bytes trees)

-- nothing was written
abbrev pub Silent : Told → Type 0
Silent t = IfSome t.written (λ written. written ≡ [])

-- the words ask for a session over a file, and that file was read
pub record IsRead (t : Told) : Type 0 where
  pub name : List ℕ
  pub settings : Settings
  pub has_log : Bool
  pub words : served_words t.words ≡ Some (record { source = File name; settings = settings; has_log = has_log })
  pub named : t.file_name ≡ Some name

-- the file was read in part alone
pub record IsPart (t : Told) : Type 0 where
  pub ended : t.file_ended ≡ false
  pub length : t.file_length < most_file

-- the file that was read, if one was, is the one that the words name
abbrev pub IsReadIfAny : Told → Type 0
IsReadIfAny t = (t.file_name ≡ None) ⊎ IsRead t

-- a file that was read whole, without a failure, and has this fault
pub record HasFault (t : Told) (f : ElfFault) : Type 0 where
  pub read : IsRead t
  pub whole : IsWhole t
  pub faults : t.file_faults ≡ 0
  pub length : IfSome t.file_taken (λ bytes. length bytes ≡ t.file_length)
  pub fault : IfSome t.file_taken (λ bytes. reading.Refused bytes f)

-- Why a run ended before a session was begun, and what it wrote. No input was asked for.
abbrev pub Early : Status → Told → Type 0
Early status.Words t = IsUnpolled t × IsUnread t × AreRefused t.words × Line (refusal_lines usage_fields) t
Early (status.File f) t = IsUnpolled t × HasFault t f × Line (refusal_lines (file_fields f)) t
Early status.ReadFault t = IsUnpolled t × IsRead t × IsPart t × (0 < t.file_faults) × Silent t
Early status.NoMemory t = IsUnpolled t × IsReadIfAny t × (t.file_faults ≡ 0) × Silent t
Early s t = ⊥
