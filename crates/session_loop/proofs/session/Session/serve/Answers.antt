use Rattle.std.proofs.Common.{◌≡◌, ◌≤◌, ◌∙◌, ap, refl, subst, sym}
use Rattle.std.specs.Prelude.{Option, None, false, replicate}
use Rattle.engine_parts.specs.Steps.{is_out}
use Rattle.session_parts.specs.declared.status.Status.{Status}
use Rattle.session_parts.specs.Ties.{IsTied}
use Rattle.session_parts.specs.Seen.{Seen, work}
use Rattle.session_parts.specs.Stage.{stage_of}
use Rattle.session_parts.specs.Crew.{ServesHart}
use Rattle.session_loop.specs.SessionInside.{seen_of, taken_of}
use Rattle.session_parts.specs.Round.{moment}
use Rattle.session_parts.proofs.Tying.{counted_same}
use Rattle.session_parts.proofs.Several.{standing}
use Rattle.session_parts.proofs.Outs.{none_first}
use Rattle.session_parts.proofs.Serving.{served, work_behind}
use Rattle.session_loop.proofs.Asking.{beside, with_out}
use Rattle.session_loop.proofs.session.Session.serve.Goals as goal

pub invariant_of-self-2 : goal.invariant_of-self-2
invariant_of-self-2 g c =
    let told = g.W.World.told in
    let e = c.self.inside.engine in
    let s = c.serve.new.self in
    let o = c.over-self-inside.result in
    let p = moment told (seen_of c.self.inside) in
    let none : c.self.inside.status ≡ None = ap (λ (s : Seen g.row.W.Denot). s.status) c.self.view_is ∙ c.requires.going in
    let tied : IsTied None (told c.self.inside.world) (stage_of e) (taken_of c.self.inside) = rw (← none) c.self.invariant.0 in
    let few = rw none at c.self.invariant.2 in
    let p0 = with_out (replicate 16 false) p in
    let k = served p0 e c.reserve_journal.new.self s c.args.hart o c.reserve_journal.ensures.same (none_first 16) c.self.invariant.4 c.serve.ensures.facts (record { tied = tied }) c.serve.ensures.serves c.over-self-inside.ensures in (
      k.holds.tied,
      c.self.invariant.1,
      counted_same o (stage_of s) c.self.inside.count few c.over-self-inside.ensures,
      c.self.invariant.3,
      c.serve.ensures.facts,
    )

pub returns-clause-opening : goal.returns-clause-opening
returns-clause-opening g c =
    let told = g.W.World.told in
    let e = c.self.inside.engine in
    let s = c.serve.new.self in
    let o = c.over-self-inside.result in
    let p = moment told (seen_of c.self.inside) in
    let none : c.self.inside.status ≡ None = ap (λ (s : Seen g.row.W.Denot). s.status) c.self.view_is ∙ c.requires.going in
    let tied : IsTied None (told c.self.inside.world) (stage_of e) (taken_of c.self.inside) = rw (← none) c.self.invariant.0 in
    let p0 = with_out (replicate 16 false) p in
    let k = served p0 e c.reserve_journal.new.self s c.args.hart o c.reserve_journal.ensures.same (none_first 16) c.self.invariant.4 c.serve.ensures.facts (record { tied = tied }) c.serve.ensures.serves c.over-self-inside.ensures in
    let P : Seen g.row.W.Denot → Type 0 = λ u. s.opening ≡ u.run.opening in
    subst P c.self.view_is k.opening

pub returns-clause-serves : goal.returns-clause-serves
returns-clause-serves g c =
    let told = g.W.World.told in
    let e = c.self.inside.engine in
    let s = c.serve.new.self in
    let h = c.args.hart in
    let o = c.over-self-inside.result in
    let p = moment told (seen_of c.self.inside) in
    let none : c.self.inside.status ≡ None = ap (λ (s : Seen g.row.W.Denot). s.status) c.self.view_is ∙ c.requires.going in
    let tied : IsTied None (told c.self.inside.world) (stage_of e) (taken_of c.self.inside) = rw (← none) c.self.invariant.0 in
    let p0 = with_out (replicate 16 false) p in
    let k = served p0 e c.reserve_journal.new.self s h o c.reserve_journal.ensures.same (none_first 16) c.self.invariant.4 c.serve.ensures.facts (record { tied = tied }) c.serve.ensures.serves c.over-self-inside.ensures in
    let M : Option Status → Type 0 = λ t. ServesHart h (record p { status = t }) (standing p s o) in
    let home = subst (λ (u : Seen g.row.W.Denot). is_out u.out h ≡ false) (sym c.self.view_is) c.requires.home in
    let there = beside h c.self.inside.out (standing p0 e None) (standing p0 s o) home k.serves in
    let P : Seen g.row.W.Denot → Type 0 = λ u. ServesHart h (moment told u) (standing p s o) in
    subst P c.self.view_is (subst M (sym none) there)

pub returns-clause-less : goal.returns-clause-less
returns-clause-less g c =
    let told = g.W.World.told in
    let e = c.self.inside.engine in
    let s = c.serve.new.self in
    let h = c.args.hart in
    let o = c.over-self-inside.result in
    let p = moment told (seen_of c.self.inside) in
    let none : c.self.inside.status ≡ None = ap (λ (s : Seen g.row.W.Denot). s.status) c.self.view_is ∙ c.requires.going in
    let tied : IsTied None (told c.self.inside.world) (stage_of e) (taken_of c.self.inside) = rw (← none) c.self.invariant.0 in
    let p0 = with_out (replicate 16 false) p in
    let k = served p0 e c.reserve_journal.new.self s h o c.reserve_journal.ensures.same (none_first 16) c.self.invariant.4 c.serve.ensures.facts (record { tied = tied }) c.serve.ensures.serves c.over-self-inside.ensures in
    let after : Seen g.row.W.Denot = seen_of (record c.self.inside { engine = s; status = o }) in
    let Q : Seen g.row.W.Denot → Type 0 = λ u. work after ≤ work u in
    subst Q c.self.view_is (work_behind p0 (seen_of c.self.inside) after e s o refl refl none refl refl refl refl k.less)
