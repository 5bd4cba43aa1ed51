use Rattle.std.proofs.Common.{◌≡◌, ◌+◌, ◌-◌, ◌∙◌, take, drop, length-drop, length, ap, sym, arith, subst, refl}
use Rattle.std.specs.Prelude.{None, Some}
use Rattle.std.proofs.lemmas.List.{drop-drop}
use Rattle.session_parts.specs.declared.status.Status.TheVariants as status
use Rattle.session_parts.specs.declared.line.Done.TheVariants as done
use Rattle.session_parts.specs.Ties.{IsTied}
use Rattle.session_parts.specs.Seen.{Seen}
use Rattle.session_parts.specs.Stage.{stage_of}
use Rattle.session_loop.specs.SessionInside.{seen_of, taken_of}
use Rattle.session_parts.specs.Round.{Lines, moment}
use Rattle.session_parts.proofs.Doing.{may}
use Rattle.session_parts.proofs.Going.{does}
use Rattle.session_parts.proofs.Tying.{line_done, line_unput, line_unsaid, slice_from, counted_same}
use Rattle.session_loop.proofs.session.Session.do_line.Goals as goal

pub line_once-done-requires-clause-may : goal.line_once-done-requires-clause-may
line_once-done-requires-clause-may g c =
    let none : c.self.inside.status ≡ None = ap (λ (s : Seen g.row.W.Denot). s.status) c.self.view_is ∙ c.requires in
    let h : IsTied None (g.W.World.told c.self.inside.world) (stage_of c.self.inside.engine) (taken_of c.self.inside) = rw (← none) c.self.invariant.0 in
    may c.self.inside.engine c.self.inside.count h.cause.1

pub invariant_of-self-in-Done : goal.invariant_of-self-in-Done
invariant_of-self-in-Done g c =
    let told = g.W.World.told in
    let none : c.self.inside.status ≡ None = ap (λ (s : Seen g.row.W.Denot). s.status) c.self.view_is ∙ c.requires in
    let h : IsTied None (told c.self.inside.world) (stage_of c.self.inside.engine) (taken_of c.self.inside) = rw (← none) c.self.invariant.0 in
    let few = rw none at c.self.invariant.2 in
    let start = c.self.inside.start in
    let next = c.in-Done.next in
    let items = c.self.inside.buffer.items in
    let rest : take (length c.deref.result.now - start) (drop start c.deref.result.now) ≡ drop start items = slice_from items c.deref.result.now start c.deref.ensures.value in
    let does = rw rest at c.in-Done.ensures.does in
    let same : drop next (drop start items) ≡ drop (start + next) items = drop-drop next start items in
    let over = c.over-self-inside.ensures in
    let tied = line_done c.over-self-inside.result (told c.self.inside.world) (told c.line_once-done.new.world) (stage_of c.self.inside.engine)
    (stage_of c.line_once-done.new.engine) (taken_of c.self.inside) next h c.in-Done.ensures.opening does.0 does.1 over in (
      rw (← same) tied,
      let w = does.1.within in let l = length-drop start items in omega (arith, c.self.invariant.1, c.self.inside.buffer.ok.0, w),
      counted_same c.over-self-inside.result (stage_of c.line_once-done.new.engine) c.self.inside.count few over,
      tt,
      c.line_once-done.ensures.facts,
    )

pub invariant_of-self-in-Unput : goal.invariant_of-self-in-Unput
invariant_of-self-in-Unput g c =
    let told = g.W.World.told in
    let none : c.self.inside.status ≡ None = ap (λ (s : Seen g.row.W.Denot). s.status) c.self.view_is ∙ c.requires in
    let h : IsTied None (told c.self.inside.world) (stage_of c.self.inside.engine) (taken_of c.self.inside) = rw (← none) c.self.invariant.0 in
    let few = rw none at c.self.invariant.2 in
    let start = c.self.inside.start in
    let next = c.in-Unput.next in
    let items = c.self.inside.buffer.items in
    let rest : take (length c.deref.result.now - start) (drop start c.deref.result.now) ≡ drop start items = slice_from items c.deref.result.now start c.deref.ensures.value in
    let does = rw rest at c.in-Unput.ensures.does in
    let same : drop next (drop start items) ≡ drop (start + next) items = drop-drop next start items in
    let tied = line_unput (told c.self.inside.world) (told c.line_once-done.new.world) (stage_of c.self.inside.engine) (stage_of c.line_once-done.new.engine) (taken_of c.self.inside) next h c.in-Unput.ensures.opening does.0 does.1 in (
      rw (← same) tied,
      let w = does.1.within in let l = length-drop start items in omega (arith, c.self.invariant.1, c.self.inside.buffer.ok.0, w),
      omega (arith, few),
      tt,
      c.line_once-done.ensures.facts,
    )

pub invariant_of-self-in-Unsaid : goal.invariant_of-self-in-Unsaid
invariant_of-self-in-Unsaid g c =
    let told = g.W.World.told in
    let none : c.self.inside.status ≡ None = ap (λ (s : Seen g.row.W.Denot). s.status) c.self.view_is ∙ c.requires in
    let h : IsTied None (told c.self.inside.world) (stage_of c.self.inside.engine) (taken_of c.self.inside) = rw (← none) c.self.invariant.0 in
    let few = rw none at c.self.invariant.2 in
    let start = c.self.inside.start in
    let next = c.in-Unsaid.next in
    let items = c.self.inside.buffer.items in
    let rest : take (length c.deref.result.now - start) (drop start c.deref.result.now) ≡ drop start items = slice_from items c.deref.result.now start c.deref.ensures.value in
    let does = rw rest at c.in-Unsaid.ensures.does in
    let same : drop next (drop start items) ≡ drop (start + next) items = drop-drop next start items in
    let tied = line_unsaid (told c.self.inside.world) (told c.line_once-done.new.world) (stage_of c.self.inside.engine) (stage_of c.line_once-done.new.engine) (taken_of c.self.inside) next h c.in-Unsaid.ensures.opening does.0 does.1 in (
      rw (← same) tied,
      let w = does.1.within in let l = length-drop start items in omega (arith, c.self.invariant.1, c.self.inside.buffer.ok.0, w),
      omega (arith, few),
      tt,
      c.line_once-done.ensures.facts,
    )

pub returns-in-Done-clause-lines : goal.returns-in-Done-clause-lines
returns-in-Done-clause-lines g c =
    let told = g.W.World.told in
    let start = c.self.inside.start in
    let next = c.in-Done.next in
    let items = c.self.inside.buffer.items in
    let rest : take (length c.deref.result.now - start) (drop start c.deref.result.now) ≡ drop start items = slice_from items c.deref.result.now start c.deref.ensures.value in
    let d = rw rest at c.in-Done.ensures.does in
    let p = moment told (seen_of c.self.inside) in
    let step = does p (done.Done next) (told c.line_once-done.new.world) (stage_of c.line_once-done.new.engine) c.over-self-inside.result
    (drop (start + next) items) d.1.may c.in-Done.ensures.opening d c.over-self-inside.ensures (sym (drop-drop next start items)) in
    let P : Seen g.row.W.Denot → Type 0 = λ s. Lines (moment told s)
    (record p {
      told = told c.line_once-done.new.world;
      run = stage_of c.line_once-done.new.engine;
      input = record p.input
          { rest = drop (start + next) items };
      status = c.over-self-inside.result;
    }) in
    subst P c.self.view_is step

pub returns-in-Unput-clause-lines : goal.returns-in-Unput-clause-lines
returns-in-Unput-clause-lines g c =
    let told = g.W.World.told in
    let start = c.self.inside.start in
    let next = c.in-Unput.next in
    let items = c.self.inside.buffer.items in
    let rest : take (length c.deref.result.now - start) (drop start c.deref.result.now) ≡ drop start items = slice_from items c.deref.result.now start c.deref.ensures.value in
    let d = rw rest at c.in-Unput.ensures.does in
    let p = moment told (seen_of c.self.inside) in
    let step = does p (done.Unput next) (told c.line_once-done.new.world) (stage_of c.line_once-done.new.engine) (Some status.WriteFault)
    (drop (start + next) items) d.1.may c.in-Unput.ensures.opening d refl (sym (drop-drop next start items)) in
    let P : Seen g.row.W.Denot → Type 0 = λ s. Lines (moment told s)
    (record p {
      told = told c.line_once-done.new.world;
      run = stage_of c.line_once-done.new.engine;
      input = record p.input
          { rest = drop (start + next) items };
      status = Some status.WriteFault;
    }) in
    subst P c.self.view_is step

pub returns-in-Unsaid-clause-lines : goal.returns-in-Unsaid-clause-lines
returns-in-Unsaid-clause-lines g c =
    let told = g.W.World.told in
    let start = c.self.inside.start in
    let next = c.in-Unsaid.next in
    let items = c.self.inside.buffer.items in
    let rest : take (length c.deref.result.now - start) (drop start c.deref.result.now) ≡ drop start items = slice_from items c.deref.result.now start c.deref.ensures.value in
    let d = rw rest at c.in-Unsaid.ensures.does in
    let p = moment told (seen_of c.self.inside) in
    let step = does p (done.Unsaid next) (told c.line_once-done.new.world) (stage_of c.line_once-done.new.engine) (Some status.NoMemory)
    (drop (start + next) items) d.1.may c.in-Unsaid.ensures.opening d refl (sym (drop-drop next start items)) in
    let P : Seen g.row.W.Denot → Type 0 = λ s. Lines (moment told s)
    (record p {
      told = told c.line_once-done.new.world;
      run = stage_of c.line_once-done.new.engine;
      input = record p.input
          { rest = drop (start + next) items };
      status = Some status.NoMemory;
    }) in
    subst P c.self.view_is step
