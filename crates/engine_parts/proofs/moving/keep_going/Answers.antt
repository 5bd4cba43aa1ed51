use Rattle.std.proofs.Common.{◌≡◌, ◌∙◌, ℕ, true, ap, sym}
use Rattle.std.specs.Prelude.{Option, None}
use Rattle.step_over.specs.declared.phase.Phase.{Phase}
use Rattle.step_over.specs.declared.phase.Phase.TheVariants.{Idle}
use Rattle.watch_points.specs.declared.watchpoint.Fired.{Fired}
use Rattle.engine_parts.specs.declared.mind.Activity.{Activity}
use Rattle.engine_parts.specs.declared.mind.Activity.TheVariants.{Running}
use Rattle.engine_parts.specs.declared.mind.Mind.{Mind}
use Rattle.engine_parts.specs.Minds.{after_step, ran_mind}
use Rattle.engine_parts.proofs.moving.keep_going.Goals as goal

going_on : (x : Mind) (last : Option ℕ) → x.activity ≡ Running → x.phase ≡ Idle → x.course.fired ≡ None
    → record x { course = record x.course { fresh = true; last = last } } ≡ ran_mind x.course.plan last None x
going_on x last runs idle unfired =
    let M : Activity → Phase → Option Fired → Mind = λ a p f. record x { activity = a; phase = p; course = record x.course { fresh = true; last = last; fired = f } } in
    ap (λ a. M a x.phase x.course.fired) runs ∙ (ap (λ p. M Running p x.course.fired) (idle ∙ sym (ap after_step idle)) ∙ ap (M Running (after_step x.phase)) unfired)

pub returns : goal.returns
returns c = going_on c.args.mind.now c.args.last c.requires.runs c.requires.idle c.requires.unfired
