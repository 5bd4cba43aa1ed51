-- What is found of a log that was read.
use Rattle.std.proofs.Common.{◌≡◌, ℕ, List, ◌++◌, length, take, refl, sym, ap, ◌∙◌, subst}
use Rattle.std.proofs.Math.Seq.{take-append_seam}
use Rattle.elf32_read.specs.Program.{Program}
use Rattle.dbg_traits.specs.Settings.{AreSettings}
use Rattle.dbg_model.specs.declared.opening.Opening.{Opening}
use Rattle.mi_reports.specs.Said.{said}
use Rattle.session_log.specs.declared.log.Log.{Log}
use Rattle.session_log.specs.LogText.{IsPlainText, Transcript}
use Rattle.session_log.specs.Found.{IsLogOf}
use Rattle.log_check.specs.Speech.{speech}
use Rattle.log_check.specs.Verdict.{Checked, IsFirstPlace}
use Rattle.log_check.specs.declared.verdict.CheckVerdict.{CheckVerdict}
use Rattle.log_check.specs.declared.verdict.CheckVerdict.TheVariants as verdict
use Rattle.session_check.specs.Speaking.{line_voice}
use Rattle.session_check.specs.Findings.{FindsIn, opened}
use Rattle.session_check.specs.declared.finding.Finding.{Finding}
use Rattle.session_check.specs.declared.finding.Finding.TheVariants.{Accepted, Unlawful, Differs}
use Rattle.session_check.proofs.Spoken.{speech_said}

pub in_ranges : (input : List ℕ) (log : Log) → IsLogOf input log → AreSettings log.settings
in_ranges input log read = read.whole.is_log.fits.head.stands

-- what stands before the log
pub front_is : (input : List ℕ) (log : Log) (read : IsLogOf input log) → take log.transcript input ≡ read.said
front_is input log read =
    ap (λ (n : ℕ). take n input) read.transcript ∙ ap (take (length read.said)) read.whole.behind ∙ take-append_seam read.said read.whole.log

-- the input is the record of a lawful session
pub accepted : (p : Program) (input : List ℕ) (log : Log) → IsLogOf input log → Checked line_voice (opened p log.settings) log.journal (take log.transcript input) verdict.Accepted → FindsIn p input (Accepted (length log.journal))
accepted p input log read c =
    let o = opened p log.settings in
    let same : read.said ≡ said o log.journal = sym (front_is input log read) ∙ c.1 ∙ speech_said o log.journal in
    record {
      settings = log.settings;
      journal = log.journal;
      lawful = c.0;
      plain = subst IsPlainText same read.plain;
      text = subst (λ (l : List ℕ). Transcript l log.settings log.journal input) same read.whole;
      count_is = refl;
    }

pub unlawful : (p : Program) (input : List ℕ) (log : Log) (n : ℕ) → IsLogOf input log → Checked line_voice (opened p log.settings) log.journal (take log.transcript input) (verdict.Unlawful n) → FindsIn p input (Unlawful n)
unlawful p input log n read c = record { log = log; read = read; unlawful = c }

pub differs : (p : Program) (input : List ℕ) (log : Log) (n : ℕ) → IsLogOf input log → Checked line_voice (opened p log.settings) log.journal (take log.transcript input) (verdict.Differs n) → FindsIn p input (Differs n)
differs p input log n read c = record {
  log = log;
  read = read;
  lawful = c.0;
  differs = subst (λ (l : List ℕ). IsFirstPlace (take log.transcript input) l n) (speech_said (opened p log.settings) log.journal) c.1;
}
