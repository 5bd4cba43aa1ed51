use Rattle.std.proofs.Common.{◌≡◌, ◌∙◌, Bool, List, ap, false, subst, sym}
use Rattle.std.specs.Prelude.{None, IfSome, is_some}
use Rattle.engine_parts.specs.Steps.{NoneOut, is_out}
use Rattle.session_parts.specs.Seen.{Seen}
use Rattle.session_parts.specs.Round.{moment}
use Rattle.session_parts.proofs.Getting.{gets_on}
use Rattle.session_parts.proofs.Going.{round_taken, round_line, round_move, round_whole}
use Rattle.session_parts.proofs.Outs.{takes_out, lines_out}
use Rattle.session_loop.proofs.session.Session.go_round.Goals as goal

pub returns-then-is_some-clause-round : goal.returns-then-is_some-clause-round
returns-then-is_some-clause-round g c =
    let told = g.W.World.told in
    let set = ap (λ (s : Seen g.row.W.Denot). is_some s.status) (sym c.self.view_is) ∙ sym c.if-is_some.ensures in
    round_taken None (moment told c.args.self.now) (moment told c.take_input.new.self) c.take_input.ensures.takes set

pub returns-then-is_some-2-clause-round : goal.returns-then-is_some-2-clause-round
returns-then-is_some-2-clause-round g c =
    let told = g.W.World.told in
    let first = ap (λ (s : Seen g.row.W.Denot). is_some s.status) (sym c.self.view_is) ∙ sym c.if-is_some.ensures in
    let set = ap (λ (s : Seen g.row.W.Denot). is_some s.status) (sym c.self-2.view_is) ∙ sym c.if-is_some-2.ensures in
    round_line None (moment told c.args.self.now) (moment told c.take_input.new.self) (moment told c.do_line.new.self) c.take_input.ensures.takes first c.do_line.ensures.lines set

pub returns-then-is_some-3-clause-round : goal.returns-then-is_some-3-clause-round
returns-then-is_some-3-clause-round g c =
    let told = g.W.World.told in
    let first = ap (λ (s : Seen g.row.W.Denot). is_some s.status) (sym c.self.view_is) ∙ sym c.if-is_some.ensures in
    let second = ap (λ (s : Seen g.row.W.Denot). is_some s.status) (sym c.self-2.view_is) ∙ sym c.if-is_some-2.ensures in
    let set = ap (λ (s : Seen g.row.W.Denot). is_some s.status) (sym c.self-3.view_is) ∙ sym c.if-is_some-3.ensures in
    round_move c.move_on-picked.result (moment told c.args.self.now) (moment told c.take_input.new.self) (moment told c.do_line.new.self)
    (moment told c.move_on-picked.new.self) c.take_input.ensures.takes first c.do_line.ensures.lines second c.move_on-picked.ensures.moves set

pub returns-clause-round : goal.returns-clause-round
returns-clause-round g c =
    let told = g.W.World.told in
    let first = ap (λ (s : Seen g.row.W.Denot). is_some s.status) (sym c.self.view_is) ∙ sym c.if-is_some.ensures in
    let second = ap (λ (s : Seen g.row.W.Denot). is_some s.status) (sym c.self-2.view_is) ∙ sym c.if-is_some-2.ensures in
    let third = ap (λ (s : Seen g.row.W.Denot). is_some s.status) (sym c.self-3.view_is) ∙ sym c.if-is_some-3.ensures in
    round_whole c.move_on-picked.result (moment told c.args.self.now) (moment told c.take_input.new.self) (moment told c.do_line.new.self)
    (moment told c.move_on-picked.new.self) (moment told c.settle.new.self) c.take_input.ensures.takes first c.do_line.ensures.lines second
    c.move_on-picked.ensures.moves third c.settle.ensures.settles

pub returns-clause-less : goal.returns-clause-less
returns-clause-less g c = λ none.
    let told = g.W.World.told in
    let p = moment told c.args.self.now in
    let a = moment told c.take_input.new.self in
    let b = moment told c.do_line.new.self in
    let kept = lines_out a b c.do_line.ensures.lines ∙ takes_out p a c.take_input.ensures.takes in
    let out = subst (λ (xs : List Bool). NoneOut xs) (sym kept) none in
    gets_on c.args.self.now c.take_input.new.self c.do_line.new.self c.move_on-picked.new.self c.settle.new.self c.take_input.result c.do_line.result (is_some c.move_on-picked.result) c.settle.result
    c.take_input.ensures.less c.do_line.ensures.less (c.move_on-picked.ensures.less out) c.settle.ensures.less

pub returns-clause-home : goal.returns-clause-home
returns-clause-home g c =
    subst (λ (xs : List Bool). IfSome c.move_on-picked.result (λ h. is_out xs h ≡ false)) (sym c.settle.ensures.out) c.move_on-picked.ensures.home
