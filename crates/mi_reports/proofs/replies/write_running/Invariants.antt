use Rattle.std.proofs.Common.{◌≡◌, ◌++◌, map, take}
use Rattle.mi_text.specs.Keeps.{Keeps}
use Rattle.mi_values.specs.Records.{lines_bytes}
use Rattle.mi_reports.specs.Replies.{running_line}
use Rattle.mi_reports.proofs.replies.write_running.Given as goal

abbrev pub invariant-loop-thread : goal.invariant-loop-thread
invariant-loop-thread l = (l.into.items ≡ l.fn.into.items ++ lines_bytes (map running_line (take l.thread-index l.threads))) × Keeps l.fn.into.items l.into.items
