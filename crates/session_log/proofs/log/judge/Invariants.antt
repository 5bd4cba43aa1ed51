use Rattle.std.proofs.Common.{◌+◌, ◌≤◌, length}
use Rattle.session_log.specs.LogText.{lines}
use Rattle.session_log.specs.Judged.{so_far, Outcome, Judges, IsJudged}
use Rattle.session_log.proofs.log.judge.Given as goal

abbrev pub invariant-lines : goal.invariant-lines
invariant-lines l = record {
  counted : l.line + length l.rest ≤ length l.bytes;
  room : so_far l.state + length l.rest ≤ length l.bytes;
  judged : (out : Outcome) → Judges l.state (l.line + 1) (lines l.rest) out → IsJudged l.bytes out;
}

abbrev pub decreases-lines : goal.decreases-lines
decreases-lines l = length l.rest
