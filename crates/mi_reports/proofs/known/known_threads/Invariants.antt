use Rattle.std.proofs.Common.{◌≡◌, take, true}
use Rattle.mi_reports.specs.Fits.{threads_fit}
use Rattle.mi_reports.proofs.known.known_threads.Given as goal

abbrev pub invariant-loop-thread : goal.invariant-loop-thread
invariant-loop-thread l = threads_fit (take l.thread-index l.threads) ≡ true
