use Rattle.data_memory.proofs.Begun.{begun}
use Rattle.data_memory.proofs.memory.DataMemory.load.Goals as goal

pub returns : goal.returns
returns c = begun c.begin.new.pages c.begin.new.frames c.args.image.now c.args.harts c.in_ok-begin.ensures
