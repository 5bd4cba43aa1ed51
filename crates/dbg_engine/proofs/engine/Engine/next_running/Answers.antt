use Rattle.std.proofs.Common.{ap, ◌∙◌}
use Rattle.engine_parts.specs.Seen.{Engine}
use Rattle.engine_parts.proofs.Picks.{next_by}
use Rattle.dbg_engine.proofs.engine.Engine.next_running.Goals as goal

pub returns-in-None : goal.returns-in-None
returns-in-None c = next_by c.as_slice-minds.result.now c.args.self.now.minds c.args.out.now c.args.from _ (c.as_slice-minds.ensures.value ∙ ap (λ (r : Engine). r.minds) c.self.view_is) c.in-None.ensures c.find_running-in-None.ensures
