use Rattle.std.proofs.Common.{ap}
use Rattle.dbg_traits.specs.Told.{Told}
use Rattle.dbg_traits.proofs.Ends.{only_word}
use Rattle.test_world.proofs.worlds.reads.Goals as goal

pub read_all-requires-clause-known : goal.read_all-requires-clause-known
read_all-requires-clause-known c = only_word c.in_ok-world.world.words.items c.in_ok-world.name (ap (λ (t : Told). t.words) c.in_ok-world.ensures)
