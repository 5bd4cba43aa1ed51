use Rattle.std.proofs.Common.{◌≡◌, length}
use Rattle.session_log.specs.Guess.{u64_of, u64_from}
use Rattle.session_log.proofs.guess.u64_of.Given as goal

abbrev pub invariant-digits : goal.invariant-digits
invariant-digits l = u64_from l.n l.rest ≡ u64_of l.word

abbrev pub decreases-digits : goal.decreases-digits
decreases-digits l = length l.rest
