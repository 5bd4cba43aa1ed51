use Rattle.std.proofs.Common.{◌≡◌, ◌∙◌, ◌++◌, ℕ, List, true, false, ap, subst}
use Rattle.session_parts.specs.Puts.{PutsAll}
use Rattle.session_check.specs.VerdictLine.{verdict_line}
use Rattle.session_check.proofs.Ending.{put_cut, put_whole}
use Rattle.session_check.proofs.run.answer.Goals as goal

pub returns-then-not-put_all-clause-checks : goal.returns-then-not-put_all-clause-checks
returns-then-not-put_all-clause-checks g c =
    let t = g.W.World.told c.args.world.now in
    let u = g.W.World.told c.put_all.new.world in
    let text : c.as_slice.result.now ≡ verdict_line c.args.found =
    c.as_slice.ensures.value ∙ c.in-Ok.ensures.written ∙ ap (λ (l : List ℕ). l ++ verdict_line c.args.found) c.new-line.ensures.items in
    λ name h. put_cut name t u c.args.found h (subst (λ (l : List ℕ). PutsAll false l t u) text c.if-not-put_all.ensures)

pub returns-clause-checks : goal.returns-clause-checks
returns-clause-checks g c =
    let t = g.W.World.told c.args.world.now in
    let u = g.W.World.told c.put_all.new.world in
    let text : c.as_slice.result.now ≡ verdict_line c.args.found =
    c.as_slice.ensures.value ∙ c.in-Ok.ensures.written ∙ ap (λ (l : List ℕ). l ++ verdict_line c.args.found) c.new-line.ensures.items in
    λ name h. rw c.status_of.ensures (put_whole name t u c.args.found h (subst (λ (l : List ℕ). PutsAll true l t u) text c.if-not-put_all.ensures))
