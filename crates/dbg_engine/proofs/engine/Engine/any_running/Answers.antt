use Rattle.std.proofs.Common.{ap, ◌∙◌}
use Rattle.std.specs.List.{list_any}
use Rattle.dbg_model.specs.State.{any_runs}
use Rattle.engine_parts.specs.Minds.{runs}
use Rattle.engine_parts.specs.Seen.{Engine, seen}
use Rattle.engine_parts.proofs.Showing.{any_seen}
use Rattle.dbg_engine.proofs.engine.Engine.any_running.Goals as goal

pub returns : goal.returns
returns c =
    c.any_running.ensures
    ∙ (ap (list_any runs) c.as_slice.ensures.value
    ∙ (any_seen c.self.inside.opening.image c.self.inside.machine.cores c.self.inside.minds.items c.self.invariant.facts.sound.harts.len
    ∙ ap (λ (r : Engine). any_runs (seen r).harts) c.self.view_is))
