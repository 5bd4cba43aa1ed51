use Rattle.std.proofs.Common.{◌≡◌, ℕ, List, length, take, ap, sym, subst}
use Rattle.log_check.specs.Verdict.{Checked}
use Rattle.log_check.specs.declared.verdict.CheckVerdict.{CheckVerdict}
use Rattle.dbg_model.specs.declared.entry.Entry.{Entry}
use Rattle.session_check.specs.Speaking.{line_voice}
use Rattle.session_check.specs.Findings.{FindsIn, opened}
use Rattle.session_check.specs.declared.finding.Finding.{Finding}
use Rattle.session_check.specs.declared.finding.Finding.TheVariants.{Accepted}
use Rattle.session_check.proofs.Found.{accepted, differs, unlawful}
use Rattle.session_check.proofs.judging.judge_log.Goals.{in-Accepted, in-Unlawful, in-Differs}
use Rattle.session_check.proofs.judging.judge_log.Goals as goal

pub returns : goal.returns
returns c =
    let image = c.args.image in
    let log = c.args.log.now in
    let input = c.args.input.now in
    let o = opened image log.settings in
    let said = take log.transcript input in
    let told : Checked line_voice o log.journal said c.in_ok-check.field-0 =
    subst (λ (j : List Entry). Checked line_voice o j said c.in_ok-check.field-0) c.as_slice-journal.ensures c.in_ok-check.ensures in
    let by : (v : CheckVerdict) → c.in_ok-check.field-0 ≡ v → Checked line_voice o log.journal said v = λ v is. subst (Checked line_voice o log.journal said) is told in
    elim c.match-branch-2.branch [
      | in-Accepted w ↦ rw (w.result-is, c.as_slice-journal.ensures) (accepted image input log c.requires (by _ w.in-Accepted.is))
      | in-Unlawful w ↦ rw w.result-is (unlawful image input log w.in-Unlawful.entry c.requires (by _ w.in-Unlawful.is))
      | in-Differs w ↦ rw w.result-is (differs image input log w.in-Differs.place c.requires (by _ w.in-Differs.is))
    ]
