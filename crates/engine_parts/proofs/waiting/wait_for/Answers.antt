use Rattle.std.proofs.Common.{◌<◌, length, refl, sym, ap, ◌∙◌, arith, length-set}
use Rattle.std.specs.Prelude.{None, slice_get}
use Rattle.text_words.specs.Words.{unpatched}
use Rattle.break_table.specs.Table.{Table, with_wait}
use Rattle.break_table.specs.Text.{is_place}
use Rattle.hart_machine.proofs.Places.{same_some, get-set_same}
use Rattle.engine_parts.specs.Minds.{awaited}
use Rattle.engine_parts.proofs.Holding.{get_within}
use Rattle.engine_parts.specs.Changing.{wants_by}
use Rattle.engine_parts.proofs.Tabling.{retabled_twice}
use Rattle.engine_parts.proofs.Waitings.{awaited_text, waits_twice}
use Rattle.engine_parts.proofs.waiting.wait_for.Goals as goal

pub begin_wait-requires-clause-hart : goal.begin_wait-requires-clause-hart
begin_wait-requires-clause-hart c = omega (arith, ap (λ (t : Table). length t.waits) c.end_wait.ensures.table, length-set c.args.table.now.waits c.args.h None)

pub begin_wait-requires-clause-free : goal.begin_wait-requires-clause-free
begin_wait-requires-clause-free c =
    let low : c.args.h < length c.args.table.now.waits = omega arith in
    let old = get_within c.args.table.now.waits c.args.h low in
    ap (λ (t : Table). slice_get t.waits c.args.h) c.end_wait.ensures.table ∙ get-set_same c.args.table.now.waits c.args.h None old.0 old.1

pub begin_wait-requires-clause-text : goal.begin_wait-requires-clause-text
begin_wait-requires-clause-text c a e =
    awaited_text c.args.waiting.now.image.now c.end_wait.new.machine.text a c.mind_of.result (c.end_wait.ensures.machine.words ∙ c.requires.words) (sym c.awaited-to.ensures ∙ e)

pub begin_wait-requires-clause-place : goal.begin_wait-requires-clause-place
begin_wait-requires-clause-place c a e =
    let p = c.args.waiting.now.image.now in
    ap (λ (t : Table). is_place t.text a) c.end_wait.ensures.table ∙ c.requires.places a (awaited_text p (unpatched p) a c.mind_of.result refl (sym c.awaited-to.ensures ∙ e))

pub returns-clause-table : goal.returns-clause-table
returns-clause-table c x at =
    let t = c.args.table.now in
    let h = c.args.h in
    c.begin_wait.ensures.table
    ∙ (ap (with_wait h c.awaited-to.result) c.end_wait.ensures.table
    ∙ (waits_twice t h None c.awaited-to.result
    ∙ ap (λ w. with_wait h w t) (c.awaited-to.ensures ∙ ap (awaited c.args.waiting.now.image.now) (same_some c.mind_of.result x (sym c.mind_of.ensures ∙ at)))))

pub returns-clause-machine : goal.returns-clause-machine
returns-clause-machine c =
    retabled_twice c.args.machine.now c.end_wait.new.machine c.begin_wait.new.machine (wants_by c.end_wait.new.table c.args.waiting.now.hold)
    (wants_by c.begin_wait.new.table c.args.waiting.now.hold) c.end_wait.ensures.machine c.begin_wait.ensures.machine
