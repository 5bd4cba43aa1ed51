-- What is written of a session, with its log behind it.
use Rattle.std.proofs.Common.{◌≡◌, ℕ, List, length, refl}
use Rattle.elf32_read.specs.Program.{Program}
use Rattle.dbg_traits.specs.declared.settings.Settings.{Settings}
use Rattle.dbg_model.specs.declared.entry.Entry.{Entry}
use Rattle.dbg_model.specs.declared.opening.Opening.{Opening}
use Rattle.mi_values.specs.Records.{AreLines, lines_bytes}
use Rattle.mi_reports.specs.Said.{said, said_lines}
use Rattle.session_log.specs.LogText.{IsPlainText, Transcript}
use Rattle.session_log.proofs.Records.{one_line_each}
use Rattle.log_check.specs.Verdict.{IsLawful}
use Rattle.session_check.specs.Findings.{IsRecord, opened}

plain_said : (o : Opening) (j : List Entry) → AreLines (said_lines o j) → IsPlainText (said o j)
unfolding said
plain_said o j lines = (one_line_each (said_lines o j) lines).1

pub is_record : (p : Program) (s : Settings) (j : List Entry) (input : List ℕ) → IsLawful (opened p s) j → AreLines (said_lines (opened p s) j) → Transcript (said (opened p s) j) s j input → IsRecord p input (length j)
is_record p s j input lawful lines text = record { settings = s; journal = j; lawful = lawful; plain = plain_said (opened p s) j lines; text = text; count_is = refl }

-- the same, with what was said as the text of its lines
pub written_record : (p : Program) (s : Settings) (j : List Entry) (input : List ℕ) → IsLawful (opened p s) j → AreLines (said_lines (opened p s) j)
    → Transcript (lines_bytes (said_lines (opened p s) j)) s j input → IsRecord p input (length j)
unfolding said
written_record p s j input lawful lines text = is_record p s j input lawful lines text
