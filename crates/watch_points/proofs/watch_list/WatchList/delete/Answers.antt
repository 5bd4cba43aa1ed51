use Rattle.std.proofs.Common.{rules, ◌≡◌, ◌∙◌, ap, sym, subst, arith, filter}
use Rattle.std.proofs.lemmas.Fn.{filter_same}
use Rattle.std.proofs.lemmas.List.Elements.{All-filter}
use Rattle.rv_exec.specs.Memory.{IsLen}
use Rattle.watch_points.specs.Watches.{AreSized, is_left, unwatched}
use Rattle.watch_points.proofs.watch_list.WatchList.delete.Goals as goal

pub invariant_of-self : goal.invariant_of-self
invariant_of-self c =
    let ns = c.args.numbers.now in
    let kept : c.retain.new.self.items ≡ filter (is_left ns) c.self.inside.watches.items = filter_same _ (is_left ns) _ (λ x b f' k. search rules) _ _ c.retain.ensures.filtered in
    record {
      few = omega (arith, c.retain.ensures.bound, c.self.invariant.few);
      room = omega (arith, c.retain.ensures.capacity, c.self.invariant.room);
      sized = subst AreSized (sym kept) (All-filter (is_left ns) (λ w. IsLen w.size) c.self.inside.watches.items c.self.invariant.sized);
    }

pub returns : goal.returns
returns c =
    let ns = c.args.numbers.now in
    let kept : c.retain.new.self.items ≡ filter (is_left ns) c.self.inside.watches.items = filter_same _ (is_left ns) _ (λ x b f' k. search rules) _ _ c.retain.ensures.filtered in
    kept ∙ ap (unwatched ns) c.self.view_is
