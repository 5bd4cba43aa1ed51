use Rattle.std.proofs.Common.{◌≡◌, ◌<◌, ◌+◌, ◌∙◌, arith, refl, sym, ap, subst, true, false, Bool, List}
use Rattle.std.specs.Prelude.{None, Some}
use Rattle.engine_parts.specs.Steps.{NoneOut, is_out, next_running}
use Rattle.engine_parts.proofs.Picks.{next_is, next_of_all}
use Rattle.session_parts.specs.Seen.{Seen, no_move}
use Rattle.session_loop.specs.SessionInside.{seen_of}
use Rattle.session_parts.proofs.Passing.{still, turned_less}
use Rattle.session_parts.proofs.Outs.{moved_out}
use Rattle.session_parts.proofs.Picked.{picked_within}
use Rattle.session_parts.specs.Round.{moment}
use Rattle.session_parts.specs.Steps.{IsMove}
use Rattle.session_loop.proofs.Asking.{picked_home}
use Rattle.session_loop.proofs.session.Session.move_on.Goals as goal

pub turn_hart-requires-clause-known : goal.turn_hart-requires-clause-known
turn_hart-requires-clause-known g c = picked_within c.self.inside.engine.minds c.self.inside.out c.self.inside.next c.in-Some.hart (sym c.next_running.ensures ∙ c.in-Some.is)

pub returns-clause-known : goal.returns-clause-known
returns-clause-known g c =
    let low = picked_within c.self.inside.engine.minds c.self.inside.out c.self.inside.next c.in-Some.hart (sym c.next_running.ensures ∙ c.in-Some.is) in
    let P : Seen g.row.W.Denot → Type 0 = λ s. c.in-Some.hart < s.run.opening.settings.harts in
    subst P c.self.view_is (omega (arith, low, c.self.invariant.4.sound.count))

pub returns-in_default-clause-less : goal.returns-in_default-clause-less
returns-in_default-clause-less g c = λ none.
    let N : Seen g.row.W.Denot → Type 0 = λ s. NoneOut s.out in
    let Q : Seen g.row.W.Denot → Type 0 = λ s. no_move s ≡ true in
    let e = c.self.inside.engine in
    let first : None ≡ next_running e.minds c.self.inside.out c.self.inside.next = sym c.in_default.is ∙ c.next_running.ensures in
    let is : None ≡ next_of_all e.minds c.self.inside.next = first ∙ next_is e.minds c.self.inside.out c.self.inside.next (subst N (sym c.self.view_is) none) in
    (record { run = refl; input = refl; status = refl; next = refl; out = refl }, subst Q c.self.view_is (still e c.self.inside.next c.self.invariant.4 is))

pub returns-clause-less : goal.returns-clause-less
returns-clause-less g c = λ none.
    let N : Seen g.row.W.Denot → Type 0 = λ s. NoneOut s.out in
    let e = c.self.inside.engine in
    let h = c.in-Some.hart in
    let first : Some h ≡ next_running e.minds c.self.inside.out c.self.inside.next = sym c.in-Some.is ∙ c.next_running.ensures in
    let there : Some h ≡ next_of_all e.minds c.self.inside.next = first ∙ next_is e.minds c.self.inside.out c.self.inside.next (subst N (sym c.self.view_is) none) in
    let P : Seen g.row.W.Denot → Type 0 = λ s. Some h ≡ next_of_all s.run.minds s.next in
    turned_less e c.args.self.now (seen_of (record c.self.inside { next = h + 1 })) c.turn_hart.new.self h c.self.invariant.4 (ap (λ (s : Seen g.row.W.Denot). s.run) c.self.view_is) (subst P c.self.view_is there)
    (ap (λ (s : Seen g.row.W.Denot). record s { next = h + 1 }) c.self.view_is) c.turn_hart.ensures.less

pub returns-clause-home : goal.returns-clause-home
returns-clause-home g c =
    let told = g.W.World.told in
    let h = c.in-Some.hart in
    let m = c.turn_hart.ensures.moves in
    let before = record c.self.inside { next = h + 1 } in
    let kept = moved_out (IsMove h) m.count h (moment told (seen_of before)) (moment told c.turn_hart.new.self) m.moved in
    let home = picked_home c.self.inside.engine.minds c.self.inside.out c.self.inside.next h (sym c.next_running.ensures ∙ c.in-Some.is) in
    subst (λ (xs : List Bool). is_out xs h ≡ false) (sym kept) home
