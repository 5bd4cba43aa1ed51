use Rattle.std.proofs.Common.{sym}
use Rattle.engine_parts.proofs.Seeing.{may_go_by, may_not_by}
use Rattle.dbg_engine.proofs.engine.Engine.may_go.Goals as goal

pub returns-in-None : goal.returns-in-None
returns-in-None c = sym (may_go_by c.args.self.now c.in-None.ensures)

pub returns-in-Some : goal.returns-in-Some
returns-in-Some c = sym (may_not_by c.in-Some._end c.args.self.now c.in-Some.ensures)
