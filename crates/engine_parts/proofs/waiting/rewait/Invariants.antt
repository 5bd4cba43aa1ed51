use Rattle.engine_parts.specs.Minds.{awaited}
use Rattle.engine_parts.proofs.Waitings.{Partly}
use Rattle.engine_parts.proofs.waiting.rewait.Given as goal

abbrev pub invariant-loop-h : goal.invariant-loop-h
invariant-loop-h l = Partly l.initial.machine l.machine l.initial.table l.table (awaited l.waiting.image.now) l.waiting.minds.now l.waiting.hold l.h
