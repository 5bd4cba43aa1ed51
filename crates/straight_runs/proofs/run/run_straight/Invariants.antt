use Rattle.std.proofs.Common.{◌≡◌, ◌<◌, ◌+◌, ◌*◌, length}
use Rattle.rv_exec.specs.Registers.{set_pc}
use Rattle.text_words.specs.Runs.{AreOperations}
use Rattle.straight_runs.specs.Runs.{RanBy}
use Rattle.straight_runs.proofs.run.run_straight.Given as goal

abbrev pub invariant-loop-count : goal.invariant-loop-count
invariant-loop-count g l = record {
  operations : AreOperations l.text l.region.address l.region.operations.now;
  place : l.k < length l.region.operations.now → l.pc ≡ l.region.address + 4 * l.k;
  runs : RanBy (g.G.Guard.allows l.guard) l.count l.last l.text l.initial.regs l.initial.memory (set_pc l.regs l.pc) l.memory;
}
