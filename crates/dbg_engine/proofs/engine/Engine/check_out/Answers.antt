use Rattle.std.proofs.Common.{ap, refl, sym, ◌∙◌}
use Rattle.std.specs.Prelude.{slice_get}
use Rattle.dbg_engine.specs.EngineInside.{run_of}
use Rattle.engine_parts.specs.Seen.{Engine}
use Rattle.engine_parts.specs.Slicing.{gives_job}
use Rattle.engine_parts.proofs.Jobs.{job_of}
use Rattle.engine_parts.proofs.Stretching.{giver}
use Rattle.dbg_engine.proofs.engine.Engine.check_out.Goals as goal

pub returns-clause-job : goal.returns-clause-job
returns-clause-job c =
    let r = run_of c.self.inside in
    let h = c.args.h in
    let g = (giver r h (ap (λ (q : Engine). gives_job q h) c.self.view_is ∙ sym c.if-not-gives_job.ensures)).ready in
    job_of r c.args.self.now h _ g.mind c.job.result c.self.view_is c.self.invariant.facts.sound (ap (λ (q : Engine). slice_get q.minds h) (sym c.self.view_is) ∙ g.at) g.apart c.job.ensures.job c.job.ensures.hart c.job.ensures.words refl
