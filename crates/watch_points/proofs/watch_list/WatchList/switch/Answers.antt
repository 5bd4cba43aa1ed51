use Rattle.std.proofs.Common.{◌≡◌, arith, ap, length, subst, sym, ◌∙◌}
use Rattle.std.proofs.lemmas.List.{with_items_is}
use Rattle.watch_points.specs.Watches.{AreSized, switched}
use Rattle.watch_points.proofs.Sizing.{switched_sized}
use Rattle.watch_points.proofs.watch_list.WatchList.switch.Goals as goal

pub invariant_of-self : goal.invariant_of-self
invariant_of-self c =
    let long : length c.switch_each.new.watches ≡ c.self.inside.watches.len = c.switch_each.auto.watches ∙ c.as_mut_slice.ensures.len in
    let is = with_items_is c.self.inside.watches c.switch_each.new.watches long ∙ (c.switch_each.ensures ∙ ap (switched c.args.enabled c.args.numbers.now) c.as_mut_slice.ensures.value) in
    record {
      few = omega (arith, c.self.invariant.few);
      room = omega (arith, c.self.invariant.room);
      sized = subst AreSized (sym is) (switched_sized c.args.enabled c.args.numbers.now c.self.inside.watches.items c.self.invariant.sized);
    }
