use Rattle.data_memory.specs.Paged.{Holds}
use Rattle.data_memory.specs.Start.{start_byte}
use Rattle.data_memory.proofs.loading.add_stacks.Given as goal

abbrev pub invariant-loop-hart : goal.invariant-loop-hart
invariant-loop-hart l = Holds l.pages l.frames (start_byte l.image l.hart)
