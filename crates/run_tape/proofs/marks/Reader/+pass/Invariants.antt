use Rattle.std.proofs.Common.{length}
use Rattle.run_tape.proofs.marks.Reader.+pass.Given as goal

abbrev pub decreases-pass : goal.decreases-pass
decreases-pass l = length l.self.now.bytes.now
