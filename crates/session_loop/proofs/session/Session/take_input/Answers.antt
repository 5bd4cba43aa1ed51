use Rattle.std.proofs.Common.{◌≡◌, ◌≤◌, ◌+◌, ◌-◌, ◌++◌, ◌∙◌, length, drop, false, not, length-append, arith, ap, sym, subst, refl}
use Rattle.std.specs.Prelude.{None, true}
use Rattle.std.proofs.Math.Seq.{drop-append_seam}
use Rattle.session_parts.specs.Ties.{IsTied, Taken}
use Rattle.session_parts.specs.Seen.{Seen}
use Rattle.session_parts.specs.Taking.{has_line, IsKnown}
use Rattle.session_parts.specs.Stage.{stage_of}
use Rattle.session_loop.specs.SessionInside.{seen_of, taken_of}
use Rattle.session_parts.specs.Round.{Takes, moment}
use Rattle.session_parts.proofs.Tying.{tied_end, tied_took, quiet, drop_front, counted_by, slice_from}
use Rattle.session_parts.proofs.Going.{took}
use Rattle.session_loop.proofs.session.Session.take_input.Goals as goal

pub invariant_of-self-in-End : goal.invariant_of-self-in-End
invariant_of-self-in-End g c =
    let told = g.W.World.told in
    let none : c.self.inside.status ≡ None = ap (λ (s : Seen g.row.W.Denot). s.status) c.self.view_is ∙ c.requires in
    let h : IsTied None (told c.self.inside.world) (stage_of c.self.inside.engine) (taken_of c.self.inside) = rw (← none) c.self.invariant.0 in
    let few = rw none at c.self.invariant.2 in
    let stands = subst (λ (s : Seen g.row.W.Denot). false ≡ has_line s.input.ended s.input.rest) (sym c.self.view_is) c.if-has_line.ensures in
    let q = quiet (stage_of c.self.inside.engine) (taken_of c.self.inside) c.any_running-wait.result c.if-self.false stands c.any_running-wait.ensures c.self.invariant.4.sound.leaves in
    let same = c.in-End.ensures.1 in
    rw (none, same) (
      tied_end (told c.self.inside.world) (told c.input_once.new.world) (stage_of c.self.inside.engine) (taken_of c.self.inside) (record (taken_of c.self.inside) { ended = true }) (not c.any_running-wait.result) h q c.in-End.ensures.0 refl,
      omega (arith, c.self.invariant.1, ap length same),
      few,
      tt,
      c.self.invariant.4,
    )

pub invariant_of-self : goal.invariant_of-self
invariant_of-self g c =
    let told = g.W.World.told in
    let none : c.self.inside.status ≡ None = ap (λ (s : Seen g.row.W.Denot). s.status) c.self.view_is ∙ c.requires in
    let h : IsTied None (told c.self.inside.world) (stage_of c.self.inside.engine) (taken_of c.self.inside) = rw (← none) c.self.invariant.0 in
    let few = rw none at c.self.invariant.2 in
    let start = c.self.inside.start in
    let items = c.self.inside.buffer.items in
    let stands = subst (λ (s : Seen g.row.W.Denot). false ≡ has_line s.input.ended s.input.rest) (sym c.self.view_is) c.if-has_line.ensures in
    let q = quiet (stage_of c.self.inside.engine) (taken_of c.self.inside) c.any_running-wait.result c.if-self.false stands c.any_running-wait.ensures c.self.invariant.4.sound.leaves in
    let n = c.in-Took.n in
    let bytes = c.in-Took.ensures.0 in
    let e = c.in-Took.ensures in
    let new = c.input_once.new.buffer.items in
    let within : start ≤ length items = omega (arith, c.self.invariant.1, c.self.inside.buffer.ok.0) in
    let cut : length new - n ≡ length items = omega (arith, ap length e.4, length-append items bytes, e.2) in
    let last : drop (length new - n) new ≡ bytes = ap (λ k. drop k new) cut ∙ (ap (drop (length items)) e.4 ∙ drop-append_seam items bytes) in
    let behind : drop start new ≡ drop start items ++ bytes = ap (drop start) e.4 ∙ drop_front start items bytes within in
    let xs = c.deref.result.now in
    let size : c.len.result ≡ length new = omega (arith, c.len.ensures, c.input_once.new.buffer.ok.0) in
    let piece = slice_from new xs (c.len.result - n) c.deref.ensures.value ∙ (ap (λ k. drop (k - n) new) size ∙ last) in
    let kept : IsKnown c.self.inside.known false (drop start items) = subst (λ b. IsKnown c.self.inside.known b (drop start items)) c.if-self.false c.self.invariant.3 in
    let joined : IsKnown c.behind-self-inside.result false (drop start new) = subst (λ r. IsKnown c.behind-self-inside.result false r)
    (ap (λ p. drop start items ++ p) piece ∙ sym behind) (c.behind-self-inside.ensures.known (drop start items) kept) in
    let taken : Taken = record { rest = drop start new; count = c.self.inside.count + n; ended = c.self.inside.ended } in
    let grown : taken ≡ record { rest = drop start items ++ bytes; count = c.self.inside.count + n; ended = c.self.inside.ended } = ap
    (λ r. let t : Taken = record { rest = r; count = c.self.inside.count + n; ended = c.self.inside.ended } in t) behind in (
      tied_took c.over-self-inside.result (told c.self.inside.world) (told c.input_once.new.world) (stage_of c.self.inside.engine)
          (taken_of c.self.inside) taken (not c.any_running-wait.result) bytes n h q e.2 e.3 e.5 grown c.over-self-inside.ensures,
      omega (arith, within, c.input_once.new.buffer.ok.0, ap length e.4, length-append items bytes),
      counted_by c.over-self-inside.result (stage_of c.self.inside.engine) c.self.inside.count n few e.3 c.over-self-inside.ensures,
      subst (λ b. IsKnown c.behind-self-inside.result b (drop start new)) (sym c.if-self.false) joined,
      c.self.invariant.4,
    )

pub returns-in-Took-clause-takes : goal.returns-in-Took-clause-takes
returns-in-Took-clause-takes g c =
    let told = g.W.World.told in
    let start = c.self.inside.start in
    let items = c.self.inside.buffer.items in
    let n = c.in-Took.n in
    let bytes = c.in-Took.ensures.0 in
    let e = c.in-Took.ensures in
    let new = c.input_once.new.buffer.items in
    let within : start ≤ length items = omega (arith, c.self.invariant.1, c.self.inside.buffer.ok.0) in
    let behind : drop start new ≡ drop start items ++ bytes = ap (drop start) e.4 ∙ drop_front start items bytes within in
    let stands = subst (λ (s : Seen g.row.W.Denot). false ≡ has_line s.input.ended s.input.rest) (sym c.self.view_is) c.if-has_line.ensures in
    let q = quiet (stage_of c.self.inside.engine) (taken_of c.self.inside) c.any_running-wait.result c.if-self.false stands c.any_running-wait.ensures c.self.invariant.4.sound.leaves in
    let step = took (moment told (seen_of c.self.inside)) n bytes (told c.input_once.new.world) (drop start new) c.over-self-inside.result
    c.any_running-wait.result c.if-self.false q.none c.any_running-wait.ensures e.1 e.2 e.3 behind e.5 c.over-self-inside.ensures in
    let P : Seen g.row.W.Denot → Type 0 = λ s. Takes (moment told s)
    (record (moment told (seen_of c.self.inside)) {
      told = told c.input_once.new.world;
      input = record { rest = drop start new; count = c.self.inside.count + n; ended = c.self.inside.ended };
      status = c.over-self-inside.result;
    }) in
    subst P c.self.view_is step
