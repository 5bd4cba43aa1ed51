use Rattle.std.proofs.Common.{◌≡◌, ◌+◌, ◌∙◌, suc, ap, refl, arith, subst}
use Rattle.session_parts.specs.Ties.{session_work}
use Rattle.session_parts.specs.Seen.{Seen}
use Rattle.session_parts.specs.Round.{Moved, TurnsOne, moment}
use Rattle.session_parts.specs.Steps.{IsMove}
use Rattle.session_loop.specs.SessionInside.{seen_of}
use Rattle.session_parts.proofs.Passing.{unset, less_on, less_two}
use Rattle.session_parts.proofs.Several.{moved_more}
use Rattle.session_loop.proofs.session.Session.turn_hart.Goals as goal

pub loop-count-preserved : goal.loop-count-preserved
loop-count-preserved g c =
    let told = g.W.World.told in
    let n = c.loop-count.count in
    let at = c.loop-count.self in
    let none = unset (seen_of c.self.inside) at c.self.view_is c.if-is_none.ensures in
    let r = c.run_hart-ran.ensures in
    let e = c.if-not-move_hart.ensures in
    let i = c.loop-count.invariant in
    let next : suc n ≡ n + 1 = omega arith in
    let stood : c.run_hart-ran.new.self ≡ at = r.none (omega (arith, c.if-ran-gt0.false)) in
    let T : Seen g.row.W.Denot → Type 0 = λ s. TurnsOne (IsMove c.args.hart) c.args.hart (moment told s) (moment told c.move_hart.new.self) in
    let left = ap (λ (s : Seen g.row.W.Denot). session_work s.status s.run s.input) stood in
    record {
      few = omega (arith, c.loop-count-test.true);
      opening = e.opening ∙ (r.opening ∙ i.opening);
      length = e.same ∙ (r.same ∙ i.length);
      moved = subst (λ k. Moved (IsMove c.args.hart) k c.args.hart (moment told c.args.self.now) (moment told c.move_hart.new.self)) next (moment told at, i.moved, none, subst T stood (e.moves refl));
      same = λ zero. absurd (omega (arith, zero));
      less = λ _. less_on n c.args.self.now at c.move_hart.new.self i.same i.less (omega (arith, left, e.less refl));
    }

pub loop-count-preserved-then-ran-gt0 : goal.loop-count-preserved-then-ran-gt0
loop-count-preserved-then-ran-gt0 g c =
    let told = g.W.World.told in
    let n = c.loop-count.count in
    let a = c.run_hart-ran.result in
    let at = c.loop-count.self in
    let mid = c.run_hart-ran.new.self in
    let r = c.run_hart-ran.ensures in
    let i = c.loop-count.invariant in
    record {
      few = omega (arith, c.loop-count-test.true, r.limit);
      opening = r.opening ∙ i.opening;
      length = r.same ∙ i.length;
      moved = moved_more (IsMove c.args.hart) n a c.args.hart (moment told c.args.self.now) (moment told at) (moment told mid) i.moved r.moved;
      same = λ zero. absurd (omega (arith, zero, c.if-ran-gt0.true));
      less = λ some. less_two n a c.args.self.now at mid i.same i.less r.none r.less some;
    }
