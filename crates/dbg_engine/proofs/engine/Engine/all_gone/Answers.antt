use Rattle.std.proofs.Common.{ap, ◌∙◌}
use Rattle.std.specs.List.{list_all}
use Rattle.dbg_model.specs.State.{all_gone}
use Rattle.engine_parts.specs.Minds.{has_gone}
use Rattle.engine_parts.specs.Seen.{Engine, seen}
use Rattle.engine_parts.proofs.Showing.{all_seen}
use Rattle.dbg_engine.proofs.engine.Engine.all_gone.Goals as goal

pub returns : goal.returns
returns c =
    c.all_gone.ensures
    ∙ (ap (list_all has_gone) c.as_slice.ensures.value
    ∙ (all_seen c.self.inside.opening.image c.self.inside.machine.cores c.self.inside.minds.items c.self.invariant.facts.sound.harts.len
    ∙ ap (λ (r : Engine). all_gone (seen r).harts) c.self.view_is))
