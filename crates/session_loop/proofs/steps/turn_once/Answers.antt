use Rattle.std.proofs.Common.{◌++◌, refl, sym, ap, ◌∙◌, subst}
use mathlib.Core.Logic.{inr}
use Rattle.std.specs.Prelude.{true, false}
use Rattle.engine_parts.specs.Seen.{Engine}
use Rattle.session_parts.specs.Reported.{Notes, move_lines}
use Rattle.session_parts.specs.Stage.{stage_of}
use Rattle.session_parts.specs.Steps.{lines_by}
use Rattle.session_parts.proofs.Saying.{moved, stood}
use Rattle.session_parts.proofs.Firsts.{moved_first, stood_first}
use Rattle.session_parts.proofs.Doing.{keeps, says_as}
use Rattle.session_parts.proofs.Writing.{written_as}
use Rattle.session_loop.proofs.steps.turn_once.Goals as goal

pub returns-in_default-clause-turns : goal.returns-in_default-clause-turns
returns-in_default-clause-turns g c =
    let d = stood c.turn.result c.args.engine.now c.reserve_journal.new.self c.turn.new.self c.args.hart c.reserve_journal.ensures.same c.requires.facts c.requires.hart c.in_default.not-Moved c.turn.ensures.turns in
    let row = stood_first c.turn.result c.args.engine.now c.reserve_journal.new.self c.turn.new.self c.args.hart c.reserve_journal.ensures.same c.requires.facts c.in_default.not-Moved c.turn.ensures.first c.turn.ensures.turns in
    (refl, d.stage, row)

pub returns-in_default-clause-still : goal.returns-in_default-clause-still
returns-in_default-clause-still g c =
    λ _. (stood c.turn.result c.args.engine.now c.reserve_journal.new.self c.turn.new.self c.args.hart c.reserve_journal.ensures.same c.requires.facts c.requires.hart c.in_default.not-Moved c.turn.ensures.turns).why

pub report_move-requires : goal.report_move-requires
report_move-requires g c =
    let d = moved c.in-Moved.moved c.args.engine.now c.reserve_journal.new.self c.turn.new.self c.args.hart c.reserve_journal.ensures.same c.requires.facts c.turn.ensures.facts c.requires.hart c.in-Moved.ensures.turns in
    let before = c.noted-before.ensures ∙ ap (λ (r : Engine). r.noted) c.reserve_journal.ensures.same in
    subst (Notes c.turn.new.self) (sym before) d.notes

pub returns-in_default-report_move-clause-goes : goal.returns-in_default-report_move-clause-goes
returns-in_default-report_move-clause-goes g c =
    (moved c.in-Moved.moved c.args.engine.now c.reserve_journal.new.self c.turn.new.self c.args.hart c.reserve_journal.ensures.same c.requires.facts c.turn.ensures.facts c.requires.hart c.in-Moved.ensures.turns).goes

pub returns-in_default-report_move-clause-turns : goal.returns-in_default-report_move-clause-turns
returns-in_default-report_move-clause-turns g c =
    let e = c.args.engine.now in
    let s = c.turn.new.self in
    let d = moved c.in-Moved.moved e c.reserve_journal.new.self s c.args.hart c.reserve_journal.ensures.same c.requires.facts c.turn.ensures.facts c.requires.hart c.in-Moved.ensures.turns in
    let move = moved_first c.in-Moved.moved e c.reserve_journal.new.self s c.args.hart c.reserve_journal.ensures.same c.in-Moved.ensures.first c.in-Moved.ensures.turns in
    (keeps (g.W.World.told c.args.world.now) (stage_of e) (stage_of s) (move_lines s c.in-Moved.moved c.args.hart e.noted) d.said, inr move)

pub returns-then-put_all-clause-goes : goal.returns-then-put_all-clause-goes
returns-then-put_all-clause-goes g c =
    (moved c.in-Moved.moved c.args.engine.now c.reserve_journal.new.self c.turn.new.self c.args.hart c.reserve_journal.ensures.same c.requires.facts c.turn.ensures.facts c.requires.hart c.in-Moved.ensures.turns).goes

pub returns-then-put_all-clause-turns : goal.returns-then-put_all-clause-turns
returns-then-put_all-clause-turns g c =
    let told = g.W.World.told in
    let e = c.args.engine.now in
    let s = c.turn.new.self in
    let d = moved c.in-Moved.moved e c.reserve_journal.new.self s c.args.hart c.reserve_journal.ensures.same c.requires.facts c.turn.ensures.facts c.requires.hart c.in-Moved.ensures.turns in
    let before = c.noted-before.ensures ∙ ap (λ (r : Engine). r.noted) c.reserve_journal.ensures.same in
    let said = d.said ∙ ap (λ n. lines_by (stage_of e) ++ move_lines s c.in-Moved.moved c.args.hart n) (sym before) in (
      says_as true (told c.args.world.now) (told c.put_all.new.world) (stage_of e) (stage_of s)
          (move_lines s c.in-Moved.moved c.args.hart c.noted-before.result) c.as_slice.result.now
          (written_as c.as_slice.result.now _ _ _ c.as_slice.ensures.value c.in-Ok.ensures.written c.clear.ensures.items c.in-Ok.ensures.grammar) said c.if-put_all.ensures,
      moved_first c.in-Moved.moved e c.reserve_journal.new.self s c.args.hart c.reserve_journal.ensures.same c.in-Moved.ensures.first c.in-Moved.ensures.turns,
    )

pub returns-else-put_all-clause-goes : goal.returns-else-put_all-clause-goes
returns-else-put_all-clause-goes g c =
    (moved c.in-Moved.moved c.args.engine.now c.reserve_journal.new.self c.turn.new.self c.args.hart c.reserve_journal.ensures.same c.requires.facts c.turn.ensures.facts c.requires.hart c.in-Moved.ensures.turns).goes

pub returns-else-put_all-clause-turns : goal.returns-else-put_all-clause-turns
returns-else-put_all-clause-turns g c =
    let told = g.W.World.told in
    let e = c.args.engine.now in
    let s = c.turn.new.self in
    let d = moved c.in-Moved.moved e c.reserve_journal.new.self s c.args.hart c.reserve_journal.ensures.same c.requires.facts c.turn.ensures.facts c.requires.hart c.in-Moved.ensures.turns in
    let before = c.noted-before.ensures ∙ ap (λ (r : Engine). r.noted) c.reserve_journal.ensures.same in
    let said = d.said ∙ ap (λ n. lines_by (stage_of e) ++ move_lines s c.in-Moved.moved c.args.hart n) (sym before) in (
      says_as false (told c.args.world.now) (told c.put_all.new.world) (stage_of e) (stage_of s)
          (move_lines s c.in-Moved.moved c.args.hart c.noted-before.result) c.as_slice.result.now
          (written_as c.as_slice.result.now _ _ _ c.as_slice.ensures.value c.in-Ok.ensures.written c.clear.ensures.items c.in-Ok.ensures.grammar) said c.if-put_all.ensures,
      moved_first c.in-Moved.moved e c.reserve_journal.new.self s c.args.hart c.reserve_journal.ensures.same c.in-Moved.ensures.first c.in-Moved.ensures.turns,
    )

pub returns-then-put_all-clause-less : goal.returns-then-put_all-clause-less
returns-then-put_all-clause-less g c =
    let d = moved c.in-Moved.moved c.args.engine.now c.reserve_journal.new.self c.turn.new.self c.args.hart c.reserve_journal.ensures.same c.requires.facts c.turn.ensures.facts c.requires.hart c.in-Moved.ensures.turns in
    λ _. d.work
