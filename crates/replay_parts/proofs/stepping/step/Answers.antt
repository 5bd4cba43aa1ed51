use Rattle.std.proofs.Common.{rules, ◌≡◌, refl, sym, ap, ◌∙◌, arith, subst, length, length-set}
use Rattle.std.specs.Prelude.{Err, Result, slice_set}
use Rattle.std.specs.Vec.{with_item, with_items}
use Rattle.std.proofs.lemmas.List.{with_items_is}
use Rattle.std.proofs.lemmas.Option.{slice_get_within}
use Rattle.watch_points.specs.Watches.{fired_by}
use Rattle.dbg_model.specs.declared.shown.Shown.{Shown}
use Rattle.dbg_model.specs.State.{due}
use Rattle.dbg_model.specs.Lawful.{one, one_more_at, one_out, set_out, stepped, with_leavers}
use Rattle.dbg_model.specs.Shown.{written}
use Rattle.replay_parts.specs.declared.halt.Halt.{Halt}
use Rattle.replay_parts.specs.declared.state.Parts.{Parts}
use Rattle.replay_parts.specs.Parts.{state_of}
use Rattle.replay_parts.specs.Going.{Enters, leave_of}
use Rattle.replay_parts.proofs.Running.{one_comes, one_fails, one_refused}
use Rattle.replay_parts.proofs.stepping.step.Goals as goal

pub returns-in_err-hart : goal.returns-in_err-hart
returns-in_err-hart c =
    let o = c.args.opening.now in
    let s = state_of c.args.parts.now in
    let same : c.from_residual.result ≡ Err c.in_err-hart.field-0.0 = search rules in
    subst (λ (r : Result Shown Halt). Enters o r (one o c.args.h s) (written (one_out o c.args.h s)) c.args.parts.now c.args.parts.now) (sym same)
    (one_refused o c.args.h c.in_err-hart.field-0.0 c.args.parts.now (written (one_out o c.args.h s)) c.in_err-hart.ensures.hart)

pub returns-in_err-shown : goal.returns-in_err-shown
returns-in_err-shown c =
    let o = c.args.opening.now in
    let old = c.args.parts.now in
    let h = c.args.h in
    let x = c.in_ok-hart.hart in
    let y = c.set_out-hart.result in
    let st = c.execute_watched-answer in
    let goes : y ≡ set_out (due o.image (state_of old) h x) x = c.set_out-hart.ensures ∙ ap (λ j. set_out j x) c.in_ok-hart.ensures.hart.2 in
    let new : Parts = record old { memory = st.new.memory; out = c.put_out.new.out } in
    let same : c.from_residual-in_err-shown.result ≡ Err c.in_err-shown.field-0.0 = search rules in
    subst (λ (r : Result Shown Halt). Enters o r (one o h (state_of old)) (written (one_out o h (state_of old))) old new) (sym same)
    (one_fails o old h x y st.new.memory c.put_out.new.out st.result.0 y.regs st.new.regs c.in_err-shown.field-0.0 (written (one_out o h (state_of old)))
    c.in_ok-hart.ensures.hart.0 c.in_ok-hart.ensures.hart.1 goes refl st.ensures.step st.ensures.output c.in_err-shown.ensures)

pub index_mut-requires : goal.index_mut-requires
index_mut-requires c =
    let low = slice_get_within c.args.parts.now.harts.items c.args.h c.in_ok-hart.hart c.in_ok-hart.ensures.hart.0 in
    omega (arith, low, c.args.parts.now.harts.ok)

pub leave-requires : goal.leave-requires
leave-requires c =
    let low = slice_get_within c.args.parts.now.harts.items c.args.h c.in_ok-hart.hart c.in_ok-hart.ensures.hart.0 in
    omega (arith, low, length-set c.args.parts.now.harts.items c.args.h c.stepped.result)

pub count_pass-requires-clause-hart : goal.count_pass-requires-clause-hart
count_pass-requires-clause-hart c =
    let low = slice_get_within c.args.parts.now.harts.items c.args.h c.in_ok-hart.hart c.in_ok-hart.ensures.hart.0 in
    omega (arith, low, c.requires.harts, c.requires.counts)

pub returns : goal.returns
returns c =
    let o = c.args.opening.now in
    let old = c.args.parts.now in
    let h = c.args.h in
    let x = c.in_ok-hart.hart in
    let y = c.set_out-hart.result in
    let st = c.execute_watched-answer in
    let goes : y ≡ set_out (due o.image (state_of old) h x) x = c.set_out-hart.ensures ∙ ap (λ j. set_out j x) c.in_ok-hart.ensures.hart.2 in
    let between = with_item old.harts h c.stepped.result in
    let v = with_items between c.leave.new.harts in
    let long : length c.leave.new.harts ≡ between.len = c.leave.auto.harts ∙ c.as_mut_slice.ensures.len in
    let moved : between.items ≡ slice_set old.harts.items h (stepped y st.new.regs (fired_by old.watches old.memory st.new.memory)) =
    ap (slice_set old.harts.items h) (c.stepped.ensures ∙ ap (stepped y st.new.regs) st.ensures.fired) in
    let items : v.items ≡ with_leavers (leave_of st.result.0) (slice_set old.harts.items h (stepped y st.new.regs (fired_by old.watches old.memory st.new.memory))) h =
    with_items_is between c.leave.new.harts long ∙ (c.leave.ensures ∙ ap (λ xs. with_leavers (leave_of st.result.0) xs h) (c.as_mut_slice.ensures.value ∙ moved)) in
    one_comes o old _ h x y v st.new.memory c.put_out.new.out c.count_pass.new.passed st.result.0 y.regs st.new.regs c.in_ok-shown.shown c.requires c.in_ok-hart.ensures.room.1
    c.in_ok-hart.ensures.hart.0 c.in_ok-hart.ensures.hart.1 goes refl st.ensures.step c.in_ok-shown.ensures items (c.count_pass.ensures ∙ ap (one_more_at old.passed.items h) c.passes-passes.ensures) refl
