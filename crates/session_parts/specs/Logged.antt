-- The log of a session behind its lines: what is put of it, and what was written in the end. This project's own.
use Rattle.std.specs.Prelude.{◌≡◌, ◌⊎◌, ℕ, Bool, true, false, List, ◌++◌, Some, Result, Ok, Err}
use Rattle.dbg_traits.specs.Told.{Told}
use Rattle.dbg_traits.specs.Causes.{Rose}
use Rattle.dbg_traits.specs.declared.settings.Settings.{Settings}
use Rattle.dbg_traits.specs.declared.text.NoMemory.{NoMemory}
use Rattle.mi_values.specs.Record.{LineTree}
use Rattle.mi_values.specs.Records.{lines_bytes, AreLines}
use Rattle.mi_reports.specs.Said.{said_lines}
use Rattle.dbg_model.specs.declared.entry.Entry.{Entry}
use Rattle.engine_parts.specs.declared.ending.Closed.{Closed}
use Rattle.session_log.specs.LogText.{log_text, FitsLog, Transcript}
use Rattle.session_parts.specs.Puts.{with_text}
use Rattle.session_parts.specs.Ties.{IsCut, Written}
use Rattle.session_parts.specs.declared.status.Status.{Status}
use Rattle.session_parts.specs.declared.status.Status.TheVariants as status

-- A log of these settings and this journal was put; or a front of it, where a put failed or memory ran out.
abbrev pub PutsLog : Result Bool NoMemory → Settings → List Entry → Told → Told → Type 0
PutsLog (Ok true) s j t u = FitsLog s j × (u ≡ with_text t (log_text s j))
PutsLog (Ok false) s j t u =
    (front : List ℕ) × IsCut front (log_text s j) × ((faults : ℕ) × Rose t.put_faults faults × (u ≡ record (with_text t front) { put_faults = faults }))
PutsLog (Err e) s j t u = (front : List ℕ) × IsCut front (log_text s j) × (u ≡ with_text t front)

-- What a session wrote of these lines with the log of these settings and this journal behind them: lines of the grammar, and the
-- log as a text that is read back. After a failed put it is a front of both; where memory ran out it is the text of the first lines, or
-- of all lines with a front of the log.
abbrev pub Logs : Status → List ℕ → List LineTree → Settings → List Entry → Type 0
Logs status.WriteFault written trees s j = AreLines trees × IsCut written (lines_bytes trees ++ log_text s j)
Logs status.NoMemory written trees s j =
    Written (Some status.NoMemory) written trees ⊎ (AreLines trees × ((log : List ℕ) × (written ≡ lines_bytes trees ++ log) × IsCut log (log_text s j)))
Logs status written trees s j = AreLines trees × Transcript (lines_bytes trees) s j written

-- What a session wrote: the text of its journal's lines, which are lines of the grammar; and behind it the log, where one is wanted.
abbrev pub Tells : Bool → Status → List ℕ → Closed → Type 0
Tells false status written c = Written (Some status) written (said_lines c.opening c.journal)
Tells true status written c = Logs status written (said_lines c.opening c.journal) c.opening.settings c.journal
