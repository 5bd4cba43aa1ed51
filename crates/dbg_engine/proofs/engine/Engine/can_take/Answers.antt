use Rattle.std.proofs.Common.{refl, sym}
use Rattle.dbg_engine.specs.EngineInside.{run_of}
use Rattle.engine_parts.proofs.Jobs.{began, found, free_by, takes}
use Rattle.dbg_engine.proofs.engine.Engine.can_take.Goals as goal

pub returns-then-not-has_registers : goal.returns-then-not-has_registers
returns-then-not-has_registers c =
    let r = run_of c.self.inside in
    (λ e. absurd cc, λ can. began r c.args.self.now c.args.slice.now _ c.self.view_is c.self.invariant.facts.sound can c.if-not-has_registers.ensures)

pub returns : goal.returns
returns c =
    let r = run_of c.self.inside in (
      λ yes. takes r c.args.self.now c.args.slice.now c.mind.result _ _ c.self.view_is c.self.invariant.facts.sound (sym c.if-not-may_go.ensures)
          c.if-self-from.false c.from.ensures (free_by r c.args.slice.now.hart c.other_holder.result c.other_holder.ensures c.if-is_some.ensures)
          c.mind.ensures (sym c.if-not-goes_apart.ensures) (λ k at. (c.if-not-has_registers.ensures k at).0 refl) c.as_slice.ensures.value (c.stores.ensures.yes yes),
      λ can. c.stores.ensures.no (found r c.args.self.now c.args.slice.now _ c.self.view_is c.as_slice.ensures.value can),
    )
