use Rattle.std.proofs.Common.{◌<◌, ◌+◌, ◌∙◌, length, refl, sym, subst, arith}
use Rattle.std.specs.Prelude.{List}
use Rattle.std.proofs.lemmas.Option.{slice_get_read}
use Rattle.dbg_effects.proofs.Changing.{AreChangedTo, next_changed, next_kept}
use Rattle.dbg_effects.proofs.threads.on_threads.Goals as goal
use Rattle.dbg_effects.proofs.threads.on_threads.Goals.{then-is_named, else-is_named}

pub loop-k-preserved : goal.loop-k-preserved
loop-k-preserved g c =
    let post = goal.F-post g c.args.change in
    let ts = c.args.threads.now in
    let xs = c.args.harts.now in
    let ys = c.loop-k.harts in
    let k = c.loop-k.k in
    let low : k < length ys = omega (arith, c.loop-k-test.true, c.loop-k.auto.harts) in
    let P : List g.row.T.Denot → Type 0 = AreChangedTo post ts (k + 1) xs in
    elim c.if-is_named.branch [
      | then-is_named w ↦
          let at = slice_get_read ys (length ys) k w.index-harts-k.result refl low w.index-harts-k.is in
          subst P (sym w.harts-is) (next_changed post ts k xs ys w.index-harts-k.result w.change.result (sym c.is_named.ensures ∙ w.if-is_named.true) at w.change.ensures c.loop-k.invariant)
      | else-is_named w ↦ subst P (sym w.harts-is) (next_kept post ts k xs ys (sym c.is_named.ensures ∙ w.if-is_named.false) low c.loop-k.invariant)
    ]
