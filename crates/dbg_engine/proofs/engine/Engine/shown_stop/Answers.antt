use Rattle.std.proofs.Common.{◌≡◌, ◌<◌, length, sym, ap, ◌∙◌, subst}
use Rattle.dbg_model.specs.Shown.{frame_at, stopping_watch}
use Rattle.dbg_model.specs.declared.shown.Shown.TheVariants.{Stop}
use Rattle.engine_parts.specs.Calls.{Of}
use Rattle.engine_parts.specs.Seen.{Engine, seen}
use Rattle.engine_parts.proofs.Shown.{frame_known}
use Rattle.dbg_engine.specs.EngineInside.{run_of}
use Rattle.dbg_engine.proofs.engine.Engine.shown_stop.Goals as goal

pub returns : goal.returns
returns c =
    let r = run_of c.self.inside in
    let h = c.args.h in
    let f = c.in-Ok-shown_frame.frame in
    let w = c.in-Ok.watch in
    let L : Engine → Type 0 = λ q. h < length q.minds in
    let O : Engine → Type 0 = λ q. Of q h (λ y. y.regs.pc ≡ c.pc-pc.result) in
    let P : Engine → Type 0 = λ q. Stop f c.self.inside.temporary w ≡ Stop (frame_at q.sources (seen q).harts h) q.temporary (stopping_watch q.watches c.args.why) in
    let frame = c.in-Ok-shown_frame.ensures ∙ frame_known r h c.pc-pc.result c.self.invariant.facts (subst L (sym c.self.view_is) c.requires) (subst O (sym c.self.view_is) c.pc-pc.ensures) in
    let watch = c.in-Ok.ensures ∙ ap (λ ws. stopping_watch ws c.args.why) c.as_slice.ensures.watches in
    let is : P r = ap (λ g. Stop g r.temporary w) frame ∙ ap (λ v. Stop (frame_at r.sources (seen r).harts h) r.temporary v) watch in
    subst P c.self.view_is is
