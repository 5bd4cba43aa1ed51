use Rattle.std.proofs.Common.{◌≡◌, arith, ap, length, subst, sym, ◌∙◌}
use Rattle.std.proofs.lemmas.List.{with_items_is}
use Rattle.watch_points.specs.Watches.{AreSized, risen}
use Rattle.watch_points.proofs.Sizing.{risen_sized}
use Rattle.watch_points.proofs.watch_list.WatchList.rise.Goals as goal

pub invariant_of-self : goal.invariant_of-self
invariant_of-self c =
    let long : length c.rise_each.new.watches ≡ c.self.inside.watches.len = c.rise_each.auto.watches ∙ c.as_mut_slice.ensures.len in
    let is = with_items_is c.self.inside.watches c.rise_each.new.watches long ∙ (c.rise_each.ensures ∙ ap (risen c.args.fired) c.as_mut_slice.ensures.value) in
    record {
      few = omega (arith, c.self.invariant.few);
      room = omega (arith, c.self.invariant.room);
      sized = subst AreSized (sym is) (risen_sized c.args.fired c.self.inside.watches.items c.self.invariant.sized);
    }
