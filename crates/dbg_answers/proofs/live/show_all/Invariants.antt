use Rattle.std.proofs.Common.{◌≡◌, map, take}
use Rattle.dbg_answers.specs.Live.{live_shown}
use Rattle.dbg_answers.proofs.live.show_all.Given as goal

abbrev pub invariant-loop-thread : goal.invariant-loop-thread
invariant-loop-thread l = l.shown.items ≡ map (live_shown l.fn.sources) (take l.thread-index l.threads)
