use Rattle.std.proofs.Common.{◌≡◌, ◌++◌, map, take}
use Rattle.mi_text.specs.Keeps.{Keeps}
use Rattle.mi_reports.specs.Led.{items_behind}
use Rattle.mi_reports.specs.Replies.{thread_tree}
use Rattle.mi_reports.proofs.threads.write_more.Given as goal

abbrev pub invariant-loop-thread : goal.invariant-loop-thread
invariant-loop-thread l = (l.into.items ≡ l.fn.into.items ++ items_behind (map thread_tree (take l.thread-index l.threads))) × Keeps l.fn.into.items l.into.items
