use Rattle.std.proofs.Common.{◌≡◌, ◌<◌, ◌≤◌, ◌∙◌, ap, sym, subst, refl, arith}
use Rattle.std.specs.Prelude.{Option, None}
use mathlib.Core.Logic.{inl}
use Rattle.engine_parts.specs.Seen.{Engine}
use Rattle.dbg_model.specs.Journals.{lengthened_by}
use Rattle.engine_parts.specs.Slicing.{CanTake}
use Rattle.session_parts.specs.declared.status.Status.{Status}
use Rattle.session_parts.specs.Ties.{IsTied, session_work}
use Rattle.session_parts.specs.Seen.{Seen, work}
use Rattle.session_parts.specs.Stage.{stage_of}
use Rattle.session_loop.specs.SessionInside.{seen_of, taken_of}
use Rattle.session_parts.specs.Round.{Moved, moment}
use Rattle.session_parts.specs.Steps.{IsStep}
use Rattle.session_parts.specs.Crew.{Commits}
use Rattle.session_parts.proofs.Getting.{less_work}
use Rattle.session_parts.proofs.Tying.{counted_same}
use Rattle.session_parts.proofs.Several.{ran_noted, ran_on, standing}
use Rattle.session_loop.proofs.session.Session.commit.Goals as goal

pub invariant_of-self-in-Took : goal.invariant_of-self-in-Took
invariant_of-self-in-Took g c =
    let told = g.W.World.told in
    let e = c.self.inside.engine in
    let r = c.reserve_journal.new.self in
    let s = c.commit.new.self in
    let h = c.args.slice.now.hart in
    let n = c.args.slice.now.count in
    let o = c.over-self-inside.result in
    let p = moment told (seen_of c.self.inside) in
    let none : c.self.inside.status ≡ None = ap (λ (s : Seen g.row.W.Denot). s.status) c.self.view_is ∙ c.requires.going in
    let tied : IsTied None (told c.self.inside.world) (stage_of e) (taken_of c.self.inside) = rw (← none) c.self.invariant.0 in
    let few = rw none at c.self.invariant.2 in
    let ran = (c.in-Took.ensures.took refl).ran in
    let k = ran_on n p e r s h o c.reserve_journal.ensures.same c.requires.some c.self.invariant.4 c.commit.ensures.facts (record { tied = tied }) ran c.over-self-inside.ensures in (
      k.holds.tied,
      c.self.invariant.1,
      counted_same o (stage_of s) c.self.inside.count few c.over-self-inside.ensures,
      c.self.invariant.3,
      c.commit.ensures.facts,
    )

pub returns-in-Took-clause-opening : goal.returns-in-Took-clause-opening
returns-in-Took-clause-opening g c =
    let told = g.W.World.told in
    let e = c.self.inside.engine in
    let r = c.reserve_journal.new.self in
    let s = c.commit.new.self in
    let h = c.args.slice.now.hart in
    let n = c.args.slice.now.count in
    let p = moment told (seen_of c.self.inside) in
    let none : c.self.inside.status ≡ None = ap (λ (s : Seen g.row.W.Denot). s.status) c.self.view_is ∙ c.requires.going in
    let tied : IsTied None (told c.self.inside.world) (stage_of e) (taken_of c.self.inside) = rw (← none) c.self.invariant.0 in
    let ran = (c.in-Took.ensures.took refl).ran in
    let k = ran_on n p e r s h c.over-self-inside.result c.reserve_journal.ensures.same c.requires.some c.self.invariant.4 c.commit.ensures.facts (record { tied = tied }) ran c.over-self-inside.ensures in
    let P : Seen g.row.W.Denot → Type 0 = λ u. s.opening ≡ u.run.opening in
    subst P c.self.view_is k.opening

pub returns-in-Took-clause-takes : goal.returns-in-Took-clause-takes
returns-in-Took-clause-takes g c =
    let told = g.W.World.told in
    let e = c.self.inside.engine in
    let r = c.reserve_journal.new.self in
    let s = c.commit.new.self in
    let slice = c.args.slice.now in
    let h = slice.hart in
    let n = slice.count in
    let o = c.over-self-inside.result in
    let p = moment told (seen_of c.self.inside) in
    let same = c.reserve_journal.ensures.same in
    let none : c.self.inside.status ≡ None = ap (λ (s : Seen g.row.W.Denot). s.status) c.self.view_is ∙ c.requires.going in
    let tied : IsTied None (told c.self.inside.world) (stage_of e) (taken_of c.self.inside) = rw (← none) c.self.invariant.0 in
    let ran = (c.in-Took.ensures.took refl).ran in
    let k = ran_on n p e r s h o same c.requires.some c.self.invariant.4 c.commit.ensures.facts (record { tied = tied }) ran c.over-self-inside.ensures in
    let M : Option Status → Type 0 = λ t. Moved (IsStep h) n h (record p { status = t }) (standing p s o) in
    let C : Engine → Type 0 = λ u. CanTake u slice in
    let noted : s.journal ≡ lengthened_by n e.journal h = ran_noted n r s h ran ∙ ap (λ (u : Engine). lengthened_by n u.journal h) same in
    let done : Commits slice p (standing p s o) = record { can = subst C same (c.in-Took.ensures.exactly.0 refl); moved = subst M (sym none) k.moved; journal = noted; told = refl } in
    let P : Seen g.row.W.Denot → Type 0 = λ u. Commits slice (moment told u) (standing p s o) in
    inl (subst P c.self.view_is done)

pub returns-in-Took-clause-less : goal.returns-in-Took-clause-less
returns-in-Took-clause-less g c =
    let told = g.W.World.told in
    let e = c.self.inside.engine in
    let r = c.reserve_journal.new.self in
    let s = c.commit.new.self in
    let h = c.args.slice.now.hart in
    let n = c.args.slice.now.count in
    let o = c.over-self-inside.result in
    let p = moment told (seen_of c.self.inside) in
    let none : c.self.inside.status ≡ None = ap (λ (s : Seen g.row.W.Denot). s.status) c.self.view_is ∙ c.requires.going in
    let tied : IsTied None (told c.self.inside.world) (stage_of e) (taken_of c.self.inside) = rw (← none) c.self.invariant.0 in
    let ran = (c.in-Took.ensures.took refl).ran in
    let k = ran_on n p e r s h o c.reserve_journal.ensures.same c.requires.some c.self.invariant.4 c.commit.ensures.facts (record { tied = tied }) ran c.over-self-inside.ensures in
    let after : Seen g.row.W.Denot = seen_of (record c.self.inside { engine = s; status = o }) in
    let P : Option Status → Type 0 = λ t. session_work o (stage_of s) (taken_of c.self.inside) < session_work t (stage_of e) (taken_of c.self.inside) in
    let less = less_work (seen_of c.self.inside) after (subst P (sym none) k.less) in
    let Q : Seen g.row.W.Denot → Type 0 = λ u. work after ≤ work u in
    subst Q c.self.view_is (omega (arith, less))
