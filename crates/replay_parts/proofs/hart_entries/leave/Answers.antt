use Rattle.std.proofs.Common.{◌≡◌, ◌∙◌, ap, arith, length, rules}
use Rattle.std.specs.Prelude.{Some, slice_get}
use Rattle.std.specs.Vec.{with_items}
use Rattle.std.proofs.lemmas.List.{with_items_is}
use Rattle.dbg_model.specs.State.{all_gone}
use Rattle.dbg_model.specs.Lawful.{exited_at, leaver_from}
use Rattle.replay_parts.proofs.Exiting.{leaves, noted_low}
use Rattle.replay_parts.proofs.hart_entries.leave.Goals as goal

pub overflow_add-parts : goal.overflow_add-parts
overflow_add-parts c = let low = noted_low c.args.opening.now c.args.parts.now c.requires in omega (arith, low)

pub returns : goal.returns
returns c =
    let old = c.args.parts.now in
    let h = c.args.h in
    let v = with_items old.harts c.exit_at.new.harts in
    let long : length c.exit_at.new.harts ≡ old.harts.len = c.exit_at.auto.harts ∙ c.as_mut_slice.ensures.len in
    let items : v.items ≡ exited_at old.harts.items h (slice_get old.harts.items h) =
    with_items_is old.harts c.exit_at.new.harts long ∙ (c.exit_at.ensures ∙ ap (λ xs. exited_at xs h (slice_get xs h)) c.as_mut_slice.ensures.value) in
    let leaver : leaver_from 0 old.harts.items ≡ Some (h, c.args.code) = search rules in
    leaves c.args.opening.now old h c.args.code v c.all_gone.result c.requires (search rules) leaver items (c.all_gone.ensures ∙ ap all_gone c.as_slice-2.ensures.value)
