use Rattle.std.proofs.Common.{◌≡◌}
use Rattle.log_check.specs.Agreeing.{Hears, repeated}
use Rattle.log_check.proofs.hearing.Hearing.hear_often.Given as goal

abbrev pub invariant-loop-said : goal.invariant-loop-said
invariant-loop-said l = record {
  hears : Hears (repeated l.fn.self.piece.items l.said) l.fn.self l.self;
  piece : l.self.piece ≡ l.fn.self.piece;
}
