use Rattle.std.proofs.Common.{◌≡◌, sym, ap, ◌∙◌, subst, arith, inr, not}
use Rattle.std.specs.Prelude.{slice_get}
use Rattle.hart_machine.specs.Patched.{Patched}
use Rattle.engine_parts.specs.Staying.{AllStay, line_view}
use Rattle.engine_parts.proofs.Holding.{get_within}
use Rattle.engine_parts.proofs.OnLines.{none_stayed}
use Rattle.engine_parts.proofs.Strides.{ends_here, ends_line, stay_more}
use Rattle.engine_parts.proofs.staying.stay.Goals as goal

pub stay_within-stayed-requires-clause-none : goal.stay_within-stayed-requires-clause-none
stay_within-stayed-requires-clause-none c = λ a from below. ap not (c.in-Some.ensures.none a from below)

pub returns-in_default-clause-far : goal.returns-in_default-clause-far
returns-in_default-clause-far c =
    λ less. inr (inr (ends_line (line_view c.args.on.now) c.loop-count.machine c.pc-pc.result c.pc-pc.ensures c.in_default.ensures.ends))

pub returns-then-stayed-eq0-clause-stays : goal.returns-then-stayed-eq0-clause-stays
returns-then-stayed-eq0-clause-stays c =
    let l = c.loop-count in
    let v = line_view c.args.on.now in
    let n = c.stay_within-stayed.result in
    let P : Patched → Type 0 = λ m. AllStay v l.count l.last c.args.machine.now m in
    subst P (sym (none_stayed v n.count n.last l.machine c.stay_within-stayed.new.machine c.if-stayed-eq0.true c.stay_within-stayed.ensures.stays)) l.invariant.stays

pub returns-then-stayed-eq0-clause-far : goal.returns-then-stayed-eq0-clause-far
returns-then-stayed-eq0-clause-far c =
    let l = c.loop-count in
    let o = c.args.on.now in
    let v = line_view o in
    let n = c.stay_within-stayed.result in
    let new = c.stay_within-stayed.new.machine in
    let same = none_stayed v n.count n.last l.machine new c.if-stayed-eq0.true c.stay_within-stayed.ensures.stays in
    let k = get_within l.machine.cores o.hart l.invariant.hart in
    let at = ap (λ (m : Patched). slice_get m.cores o.hart) same ∙ k.1 in
    let there = c.in-Some.ensures.there in
    λ less. ends_here v o.watches.now new c.in-Some.around.start c.in-Some.around.end c.pc-pc.result k.0 at (c.pc-pc.ensures k.0 k.1) there.0 there.1 (c.stay_within-stayed.ensures.rests c.if-stayed-eq0.true)

pub loop-count-preserved : goal.loop-count-preserved
loop-count-preserved c =
    let l = c.loop-count in
    let n = c.stay_within-stayed.result in
    let new = c.stay_within-stayed.new.machine in
    let some : n.count ≡ 0 → ⊥ = c.if-stayed-eq0.false in
    record {
      hart = omega (arith, l.invariant.hart, c.stay_within-stayed.ensures.harts);
      limit = omega (arith, c.stay_within-stayed.ensures.limit);
      stays = stay_more (line_view c.args.on.now) c.args.machine.now l.machine new l.count l.last n.count n.last l.invariant.stays c.stay_within-stayed.ensures.stays some;
    }
