-- What is known on the way of a check.
use Rattle.std.specs.Prelude.{◌≡◌, ◌⊎◌, ℕ, List, [], Some, None}
use Rattle.elf_checks.specs.declared.fault.ElfFault.{ElfFault}
use Rattle.elf32_read.specs.Program.{Program}
use Rattle.dbg_traits.specs.Told.{Told}
use Rattle.session_parts.specs.Ties.{IsFileOf, IsUnpolled}
use Rattle.session_parts.specs.declared.status.Status.{Status}
use Rattle.session_parts.specs.declared.status.Status.TheVariants as status
use Rattle.session_check.specs.declared.finding.Finding.{Finding}
use Rattle.session_check.specs.declared.finding.Finding.TheVariants.{Accepted, Long, Fault, Unlawful, Differs}
use Rattle.session_check.specs.Polling.{IsUntouched}
use Rattle.session_check.specs.Checks.{IsRefused, Judged}

-- with what status a check ends that puts its line
abbrev pub status_of : Finding → Status
status_of (Accepted count) = status.Done
status_of Long = status.Rejected
status_of (Fault f) = status.Rejected
status_of (Unlawful number) = status.Rejected
status_of (Differs place) = status.Rejected

-- the program of the file was read, and nothing was polled or put yet
pub record IsLoaded (name : List ℕ) (t : Told) (p : Program) : Type 0 where
  pub file : IsFileOf t name p
  pub input : IsUntouched t
  pub written : (t.written ≡ None) ⊎ (t.written ≡ Some [])
  pub puts : t.put_faults ≡ 0

-- this was found, and nothing was put yet
pub record IsFound (name : List ℕ) (t : Told) (found : Finding) : Type 0 where
  pub judged : Judged name t found
  pub written : (t.written ≡ None) ⊎ (t.written ≡ Some [])
  pub puts : t.put_faults ≡ 0

-- the file has this fault, and nothing was polled or put yet
pub record IsTurnedAway (name : List ℕ) (t : Told) (f : ElfFault) : Type 0 where
  pub refused : IsRefused name t f
  pub unpolled : IsUnpolled t
  pub written : (t.written ≡ None) ⊎ (t.written ≡ Some [])
  pub puts : t.put_faults ≡ 0
