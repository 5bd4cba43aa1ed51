use Rattle.std.proofs.Common.{◌≡◌, ◌<◌, ◌∙◌, ap, length, sym, subst, arith}
use Rattle.std.specs.Prelude.{Option, None}
use Rattle.session_parts.specs.declared.status.Status.{Status}
use Rattle.session_parts.specs.Ties.{IsTied, session_work}
use Rattle.session_parts.specs.Seen.{Seen}
use Rattle.session_parts.specs.Stage.{stage_of}
use Rattle.session_loop.specs.SessionInside.{seen_of, taken_of}
use Rattle.session_parts.specs.Round.{Moved, moment}
use Rattle.session_parts.specs.Steps.{IsMove}
use Rattle.session_parts.proofs.Doing.{minds_same}
use Rattle.session_parts.proofs.Tying.{counted_same}
use Rattle.session_parts.proofs.Several.{turned_on, standing}
use Rattle.session_loop.proofs.session.Session.run_hart.Goals as goal

pub invariant_of-self-then-count-gt0 : goal.invariant_of-self-then-count-gt0
invariant_of-self-then-count-gt0 g c =
    let told = g.W.World.told in
    let e = c.self.inside.engine in
    let s = c.run-count.new.self in
    let o = c.over-self-inside.result in
    let p = moment told (seen_of c.self.inside) in
    let none : c.self.inside.status ≡ None = ap (λ (s : Seen g.row.W.Denot). s.status) c.self.view_is ∙ c.requires.going in
    let h : IsTied None (told c.self.inside.world) (stage_of e) (taken_of c.self.inside) = rw (← none) c.self.invariant.0 in
    let few = rw none at c.self.invariant.2 in
    let k = turned_on c.run-count.result p e c.reserve_journal.new.self s c.args.hart o c.reserve_journal.ensures.same (omega arith) c.self.invariant.4
    c.run-count.ensures.facts (record { tied = h })
    c.run-count.ensures.turns c.over-self-inside.ensures in (
      k.holds.tied,
      c.self.invariant.1,
      counted_same o (stage_of s) c.self.inside.count few c.over-self-inside.ensures,
      c.self.invariant.3,
      c.run-count.ensures.facts,
    )

pub returns-then-count-gt0-clause-same : goal.returns-then-count-gt0-clause-same
returns-then-count-gt0-clause-same g c =
    let told = g.W.World.told in
    let e = c.self.inside.engine in
    let s = c.run-count.new.self in
    let o = c.over-self-inside.result in
    let p = moment told (seen_of c.self.inside) in
    let none : c.self.inside.status ≡ None = ap (λ (s : Seen g.row.W.Denot). s.status) c.self.view_is ∙ c.requires.going in
    let h : IsTied None (told c.self.inside.world) (stage_of e) (taken_of c.self.inside) = rw (← none) c.self.invariant.0 in
    let k = turned_on c.run-count.result p e c.reserve_journal.new.self s c.args.hart o c.reserve_journal.ensures.same (omega arith) c.self.invariant.4
    c.run-count.ensures.facts (record { tied = h })
    c.run-count.ensures.turns c.over-self-inside.ensures in
    let P : Seen g.row.W.Denot → Type 0 = λ u. length s.minds ≡ length u.run.minds in
    subst P c.self.view_is (minds_same e s c.self.invariant.4 c.run-count.ensures.facts k.opening)

pub returns-then-count-gt0-clause-opening : goal.returns-then-count-gt0-clause-opening
returns-then-count-gt0-clause-opening g c =
    let told = g.W.World.told in
    let e = c.self.inside.engine in
    let s = c.run-count.new.self in
    let o = c.over-self-inside.result in
    let p = moment told (seen_of c.self.inside) in
    let none : c.self.inside.status ≡ None = ap (λ (s : Seen g.row.W.Denot). s.status) c.self.view_is ∙ c.requires.going in
    let h : IsTied None (told c.self.inside.world) (stage_of e) (taken_of c.self.inside) = rw (← none) c.self.invariant.0 in
    let k = turned_on c.run-count.result p e c.reserve_journal.new.self s c.args.hart o c.reserve_journal.ensures.same (omega arith) c.self.invariant.4
    c.run-count.ensures.facts (record { tied = h })
    c.run-count.ensures.turns c.over-self-inside.ensures in
    let P : Seen g.row.W.Denot → Type 0 = λ u. s.opening ≡ u.run.opening in
    subst P c.self.view_is k.opening

pub returns-then-count-gt0-clause-moved : goal.returns-then-count-gt0-clause-moved
returns-then-count-gt0-clause-moved g c =
    let told = g.W.World.told in
    let e = c.self.inside.engine in
    let s = c.run-count.new.self in
    let o = c.over-self-inside.result in
    let n = c.run-count.result in
    let p = moment told (seen_of c.self.inside) in
    let none : c.self.inside.status ≡ None = ap (λ (s : Seen g.row.W.Denot). s.status) c.self.view_is ∙ c.requires.going in
    let h : IsTied None (told c.self.inside.world) (stage_of e) (taken_of c.self.inside) = rw (← none) c.self.invariant.0 in
    let k = turned_on n p e c.reserve_journal.new.self s c.args.hart o c.reserve_journal.ensures.same (omega arith) c.self.invariant.4
    c.run-count.ensures.facts (record { tied = h })
    c.run-count.ensures.turns c.over-self-inside.ensures in
    let P : Option Status → Type 0 = λ t. Moved (IsMove c.args.hart) n c.args.hart (record p { status = t }) (standing p s o) in
    let Q : Seen g.row.W.Denot → Type 0 = λ u. Moved (IsMove c.args.hart) n c.args.hart (moment told u) (standing p s o) in
    subst Q c.self.view_is (subst P (sym none) k.moved)

pub returns-then-count-gt0-clause-less : goal.returns-then-count-gt0-clause-less
returns-then-count-gt0-clause-less g c =
    let told = g.W.World.told in
    let e = c.self.inside.engine in
    let s = c.run-count.new.self in
    let o = c.over-self-inside.result in
    let p = moment told (seen_of c.self.inside) in
    let none : c.self.inside.status ≡ None = ap (λ (s : Seen g.row.W.Denot). s.status) c.self.view_is ∙ c.requires.going in
    let h : IsTied None (told c.self.inside.world) (stage_of e) (taken_of c.self.inside) = rw (← none) c.self.invariant.0 in
    let k = turned_on c.run-count.result p e c.reserve_journal.new.self s c.args.hart o c.reserve_journal.ensures.same (omega arith) c.self.invariant.4
    c.run-count.ensures.facts (record { tied = h })
    c.run-count.ensures.turns c.over-self-inside.ensures in
    let P : Option Status → Type 0 = λ t. session_work o (stage_of s) (taken_of c.self.inside) < session_work t (stage_of e) (taken_of c.self.inside) in
    let Q : Seen g.row.W.Denot → Type 0 = λ u. session_work o (stage_of s) (taken_of c.self.inside) < session_work u.status u.run u.input in
    λ _. subst Q c.self.view_is (subst P (sym none) k.less)
