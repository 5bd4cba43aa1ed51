use Rattle.std.proofs.Common.{◌≡◌, true, sym, subst}
use Rattle.dbg_model.specs.Breaks.{is_number}
use Rattle.dbg_replay.specs.Standing.{Standing}
use Rattle.replay_parts.specs.Further.{GoesNoFurther, LengthensBy}
use Rattle.dbg_replay.proofs.Coming.{taken_more}
use Rattle.dbg_replay.proofs.taking.take_more.Goals as goal

pub returns-clause-lengthens : goal.returns-clause-lengthens
returns-clause-lengthens c =
    let o = c.args.opening.now in
    let t = c.args.state.now in
    let n = c.go_on-count.result in
    let h = c.args.hart in
    let number : is_number c.state.inside.prev h ≡ true = sym c.if-not-is_number.ensures in
    subst (λ (u : Standing). LengthensBy n o h t.place u.place) (sym c.note.ensures)
    (taken_more n o t c.state.inside.parts _ c.state.inside.prev c.state.inside.shown h c.state.view_is number c.go_on-count.ensures.lengthens)

pub returns-clause-far : goal.returns-clause-far
returns-clause-far c = λ low. subst (λ (u : Standing). GoesNoFurther c.args.opening.now c.args.hart u.place) (sym c.note.ensures) (c.go_on-count.ensures.far low)
