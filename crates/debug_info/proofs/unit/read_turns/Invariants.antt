-- The units that had their turn are read.
use Rattle.debug_info.proofs.Words.{◌≡◌, length, take, IsTable}
use Rattle.debug_info.proofs.Orderly.{AreRead}
use Rattle.debug_info.proofs.unit.read_turns.Given as goal

abbrev pub invariant-loop-turn : goal.invariant-loop-turn
invariant-loop-turn l =
    record {
      table : IsTable l.source.abbrevs.now l.table;
      count : length l.readings.items ≡ length l.spans;
      read : AreRead l.source.abbrevs.now l.source.strs.now l.source.info.now l.spans (take l.turn-index l.turns) l.readings.items;
    }
