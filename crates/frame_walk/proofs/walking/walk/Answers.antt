use Rattle.std.proofs.Common.{◌+◌, ◌-◌, ◌∷◌, ◌++◌, [], arith, sym, ap, ◌∙◌}
use Rattle.frame_walk.proofs.Walks.{begins, caller_found, ended, ends, frame_told, goes_on, is_full}
use Rattle.frame_walk.proofs.walking.walk.Goals as goal

pub loop-number-init : goal.loop-number-init
loop-number-init g c = record {
  room = c.requires;
  frames = begins c.args.index.now c.args.image.now (g.V.View.registers c.args.view.now) (g.V.View.bytes c.args.view.now) c.innermost-frame.result c.args.into.now.items c.innermost-frame.ensures c.requires;
}

pub loop-number-preserved : goal.loop-number-preserved
loop-number-preserved g c = record {
  room = omega arith;
  frames =
      let frame = c.loop-number.frame in
      let told = frame_told c.args.index.now frame c.rules_at-found.result c.told.result c.rules_at-found.ensures.value c.told.ensures in
      let pushed = c.push.ensures.items ∙ ap (λ x. c.loop-number.into.items ++ x ∷ []) told in
      let caller = caller_found c.args.index.now c.args.image.now (g.V.View.bytes c.args.view.now) frame c.rules_at-found.result c.caller_by.result c.rules_at-found.ensures.value c.caller_by.ensures in
      rw pushed (goes_on c.args.index.now c.args.image.now (g.V.View.bytes c.args.view.now) (63 - c.loop-number._number)
      (63 - (c.loop-number._number + 1)) frame c.in-Some.outer c.loop-number.into.items (omega arith) (sym caller ∙ c.in-Some.is) ∙ c.loop-number.invariant.frames);
}

pub returns-in-None-clause-value : goal.returns-in-None-clause-value
returns-in-None-clause-value g c =
    let frame = c.loop-number.frame in
    let told = frame_told c.args.index.now frame c.rules_at-found.result c.told.result c.rules_at-found.ensures.value c.told.ensures in
    let pushed = c.push.ensures.items ∙ ap (λ x. c.loop-number.into.items ++ x ∷ []) told in
    let caller = caller_found c.args.index.now c.args.image.now (g.V.View.bytes c.args.view.now) frame c.rules_at-found.result c.caller_by.result c.rules_at-found.ensures.value c.caller_by.ensures in
    pushed ∙ ends c.args.index.now c.args.image.now (g.V.View.bytes c.args.view.now) (63 - c.loop-number._number) (63 - (c.loop-number._number + 1))
    frame c.loop-number.into.items (omega arith) (sym caller ∙ c.in-None.is) ∙ c.loop-number.invariant.frames

pub returns-clause-value : goal.returns-clause-value
returns-clause-value g c =
    let frame = c.loop-number.frame in
    let told = frame_told c.args.index.now frame c.rules_at-found-2.result c.told-2.result c.rules_at-found-2.ensures.value c.told-2.ensures in
    let pushed = c.push-2.ensures.items ∙ ap (λ x. c.loop-number.into.items ++ x ∷ []) told in
    pushed ∙ is_full c.args.index.now c.args.image.now (g.V.View.bytes c.args.view.now) (63 - c.loop-number._number) frame c.loop-number.into.items (omega arith) ∙ c.loop-number.invariant.frames

pub returns-in-None-clause-frames : goal.returns-in-None-clause-frames
returns-in-None-clause-frames g c = ended c.args.index.now c.args.image.now (g.V.View.registers c.args.view.now) (g.V.View.bytes c.args.view.now) _ (returns-in-None-clause-value g c)

pub returns-clause-frames : goal.returns-clause-frames
returns-clause-frames g c = ended c.args.index.now c.args.image.now (g.V.View.registers c.args.view.now) (g.V.View.bytes c.args.view.now) _ (returns-clause-value g c)
