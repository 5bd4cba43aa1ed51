use Rattle.std.proofs.Common.{◌≡◌, false}
use Rattle.memory_world.specs.MemWorld.{told_of}
use Rattle.dbg_traits.specs.Names.{IsNamed, IsSameName}
use Rattle.test_world.proofs.worlds.read_all.Given as goal

abbrev pub invariant-loop : goal.invariant-loop
invariant-loop l = record {
  known : IsNamed (told_of l.world).words l.name;
  same : IsSameName (told_of l.world).file_name l.name;
  open_ : (told_of l.world).file_ended ≡ false;
}
