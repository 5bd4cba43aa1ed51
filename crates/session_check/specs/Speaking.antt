-- The lines of a session, as the meaning of a speaker.
use Rattle.mi_values.specs.Records.{lines_bytes}
use Rattle.mi_reports.specs.Text.{opening_lines}
use Rattle.mi_reports.specs.Lines.{lines_of}
use Rattle.log_check.specs.Speech.{Voice}

abbrev pub line_voice : Voice
line_voice = record {
  opening = λ o. lines_bytes (opening_lines o.settings.harts);
  entry = λ e shown. lines_bytes (lines_of e shown);
}
