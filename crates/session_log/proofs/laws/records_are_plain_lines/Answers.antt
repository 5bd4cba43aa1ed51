use Rattle.session_log.proofs.Records.{one_line_each}
use Rattle.session_log.proofs.laws.records_are_plain_lines.Goals as goal

pub returns : goal.returns
returns c = one_line_each
