use Rattle.std.proofs.Common.{length}
use Rattle.session_loop.proofs.steps.+report_entries.Given as goal

abbrev pub decreases-report_entries : goal.decreases-report_entries
decreases-report_entries l = length l.entries.now
