-- The number with which the program exits, by the status of its session. This project's own.
use Rattle.std.specs.Prelude.{ℕ}
use Rattle.session_parts.specs.declared.status.Status.{Status}
use Rattle.session_parts.specs.declared.status.Status.TheVariants as status

abbrev pub status_number : Status → ℕ
status_number status.Done = 0
status_number status.Words = 1
status_number (status.File f) = 2
status_number status.Budget = 3
status_number status.History = 4
status_number status.ReadFault = 5
status_number status.WriteFault = 6
status_number status.NoMemory = 7
status_number status.Rejected = 8
