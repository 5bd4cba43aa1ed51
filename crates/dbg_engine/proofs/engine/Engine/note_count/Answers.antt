use Rattle.std.proofs.Common.{◌≡◌, ◌+◌, List, length, map, refl, sym, ap, ◌∙◌, subst, arith, length-set}
use Rattle.std.specs.Prelude.{Some, slice_get, slice_set}
use Rattle.break_table.specs.Table.{Table}
use Rattle.break_table.specs.Text.{is_place}
use Rattle.dbg_model.specs.Lawful.{may_go}
use Rattle.engine_parts.specs.declared.mind.Mind.{Mind}
use Rattle.engine_parts.specs.Minds.{awaited, counted_mind}
use Rattle.engine_parts.specs.Seen.{Engine, seen}
use Rattle.engine_parts.proofs.Awaiting.{waits_same}
use Rattle.engine_parts.proofs.Breaking.{are_planted}
use Rattle.dbg_engine.specs.EngineInside.{run_of}
use Rattle.std.proofs.lemmas.Option.{slice_get_within}
use Rattle.engine_parts.specs.Facts.{wanted}
use Rattle.engine_parts.specs.Tables.{ArePlanted}
use Rattle.engine_parts.specs.Changing.{wants_by}
use Rattle.engine_parts.specs.Calls.{Counts, Of, DueIs}
use Rattle.engine_parts.proofs.Holds.{Moved}
use Rattle.engine_parts.proofs.Halting.{Noted, Settles, counted, planted_shown, wanted_text}
use Rattle.engine_parts.proofs.Rewaits.{rewaits, same_waits, text_place, with_table}
use Rattle.dbg_engine.proofs.engine.Engine.note_count.Goals as goal
use Rattle.dbg_engine.proofs.engine.Engine.note_count.Goals.{After-self-2-1, After-waiting-3-1}

pub settle-requires : goal.settle-requires
settle-requires c =
    let r = run_of c.self.inside in
    let mind : slice_get r.minds c.args.h ≡ Some c.args.mind = ap (λ (q : Engine). slice_get q.minds c.args.h) c.self.view_is ∙ c.requires.before.at in
    omega (arith, slice_get_within r.minds c.args.h c.args.mind mind, c.self.invariant.facts.sound.harts.len)

pub repatch-requires-clause-wants : goal.repatch-requires-clause-wants
repatch-requires-clause-wants c =
    let r = run_of c.self.inside in
    let mind : slice_get r.minds c.args.h ≡ Some c.args.mind = ap (λ (q : Engine). slice_get q.minds c.args.h) c.self.view_is ∙ c.requires.before.at in
    let Q : Engine → Type 0 = λ q. Of q c.args.h (λ y. y.regs.pc ≡ c.args.pc) in
    let settles : Settles r c.args.h c.args.pc c.settle.new.table.entries = λ k at. c.settle.ensures.entries k at in
    wanted_text r c.args.h c.args.pc c.args.mind c.settle.new.table.entries c.wants-wants.result c.self.invariant.facts.sound mind
    c.requires.before.before c.requires.before.runs (subst Q (sym c.self.view_is) c.requires.pc) settles
    (c.wants-wants.ensures ∙ ap (λ (t : Table). wanted (wants_by t r.hold) c.args.pc) c.settle.ensures.rest)

pub repatch-requires-clause-planted : goal.repatch-requires-clause-planted
repatch-requires-clause-planted c = planted_shown (run_of c.self.inside) c.args.pc c.self.invariant.facts.sound

pub rewait-requires-clause-few : goal.rewait-requires-clause-few
rewait-requires-clause-few c =
    let r = run_of c.self.inside in
    let f = c.self.invariant.facts.sound in
    omega (arith, f.count, f.settings.harts.1, ap (λ (xs : List Mind). length xs) c.as_slice.ensures.value ∙ length-set r.minds c.args.h c.counted_mind.result)

pub rewait-requires-clause-many : goal.rewait-requires-clause-many
rewait-requires-clause-many c =
    let r = run_of c.self.inside in
    let f = c.self.invariant.facts.sound in
    ap (λ (t : Table). length t.waits) c.settle.ensures.rest ∙ (f.many ∙ (sym f.count ∙ sym (ap (λ (xs : List Mind). length xs) c.as_slice.ensures.value ∙ length-set r.minds c.args.h c.counted_mind.result)))

pub rewait-requires-clause-words : goal.rewait-requires-clause-words
rewait-requires-clause-words c = c.repatch.ensures.text.words ∙ c.self.invariant.facts.sound.planted.words

pub rewait-requires-clause-places : goal.rewait-requires-clause-places
rewait-requires-clause-places c a is = ap (λ (t : Table). is_place t.text a) c.settle.ensures.rest ∙ text_place (run_of c.self.inside) c.self.invariant.facts.sound a is

-- the engine then, before harts wait elsewhere
abbrev counted_run : After-waiting-3-1 → Engine
counted_run c = let r = run_of c.self.inside in record r {
  journal = c.push.new.self.entries;
  spare = c.push.new.self.spare;
  machine = c.repatch.new.machine;
  minds = slice_set r.minds c.args.h
      c.counted_mind.result;
  breaks = c.settle.new.table.entries;
  noted = r.noted + 1;
}

-- the hart is counted, whatever patches are planted for the harts that wait then
counted_at : (c : After-waiting-3-1) → Noted (counted_run c) (λ n. Counts (run_of c.self.inside) n c.args.h)
counted_at c =
    let r = run_of c.self.inside in
    let mind : slice_get r.minds c.args.h ≡ Some c.args.mind = ap (λ (q : Engine). slice_get q.minds c.args.h) c.self.view_is ∙ c.requires.before.at in
    let P : Engine → Type 0 = λ q. DueIs q c.args.h c.args.due in
    let Q : Engine → Type 0 = λ q. Of q c.args.h (λ y. y.regs.pc ≡ c.args.pc) in
    let settles : Settles r c.args.h c.args.pc c.settle.new.table.entries = λ k at. c.settle.ensures.entries k at in
    counted r c.args.h c.args.pc c.push.new.self.spare c.args.due c.args.mind c.counted_mind.result c.plan_after-plan.result c.push.new.self.entries
    c.repatch.new.machine c.settle.new.table.entries c.wants-wants.result c.self.invariant.facts.sound mind
    c.requires.before.before c.requires.before.runs (subst Q (sym c.self.view_is) c.requires.pc) (subst P (sym c.self.view_is) c.requires.due)
    c.requires.counts (ap (λ (q : Engine). may_go q.opening (seen q)) c.self.view_is ∙ c.requires.before.may)
    c.push.ensures.entries settles (c.wants-wants.ensures ∙ ap (λ (t : Table). wanted (wants_by t r.hold) c.args.pc) c.settle.ensures.rest)
    c.repatch.ensures.text c.repatch.ensures.rest c.counted_mind.ensures c.plan_after-plan.ensures c.requires.fresh

pub rewait-requires-clause-planted : goal.rewait-requires-clause-planted
rewait-requires-clause-planted c =
    let r = run_of c.self.inside in
    let P : Table → Type 0 = λ t. ArePlanted c.repatch.new.machine.text (wants_by t r.hold) in
    subst P (sym c.settle.ensures.rest) (are_planted (counted_run c) (counted_at c).sound)

pub rewait-requires-clause-stays : goal.rewait-requires-clause-stays
rewait-requires-clause-stays c off =
    let r = run_of c.self.inside in
    let mind : slice_get r.minds c.args.h ≡ Some c.args.mind = ap (λ (q : Engine). slice_get q.minds c.args.h) c.self.view_is ∙ c.requires.before.at in
    ap (λ (t : Table). t.waits) c.settle.ensures.rest ∙
    (waits_same r c.args.h c.args.mind c.counted_mind.result c.self.invariant.facts mind
    (ap (awaited r.opening.image) c.counted_mind.ensures ∙ same_waits r.opening.image c.args.mind
    (counted_mind c.plan_after-plan.result c.args.mind) refl (c.changes-moved.ensures.0 off)) ∙ ap (map (awaited r.opening.image)) (sym c.as_slice.ensures.value))

abbrev new_run : After-self-2-1 → Engine
new_run c = let r = run_of c.self.inside in record r {
  journal = c.push.new.self.entries;
  spare = c.push.new.self.spare;
  machine = c.repatch.new.machine;
  minds = slice_set r.minds c.args.h
      c.counted_mind.result;
  breaks = c.settle.new.table.entries;
  noted = r.noted + 1;
}

move : (c : After-self-2-1) → Noted (new_run c) (λ n. Counts (run_of c.self.inside) n c.args.h)
    → (let r = run_of c.self.inside in let n = with_table (new_run c) c.rewait.new.machine c.rewait.new.table in Moved n (Counts r n c.args.h))
move c n =
    let r = run_of c.self.inside in
    let all : List Mind → Table = λ xs. record c.self.inside.table { entries = c.settle.new.table.entries; waits = map (awaited r.opening.image) xs } in
    let before = ap (λ (t : Table). let u : Table = record t { waits = map (awaited r.opening.image) c.as_slice.result.now } in u) c.settle.ensures.rest in
    rewaits (λ n. Counts r n c.args.h) (new_run c) c.rewait.new.machine c.rewait.new.table n (record { table = c.rewait.ensures.table ∙ (before ∙ ap all c.as_slice.ensures.value); machine = c.rewait.ensures.machine })

pub invariant_of-self : goal.invariant_of-self
invariant_of-self c = record { facts = (move c (counted_at (goal.at.invariant_of-self c).After-waiting-3-1)).facts }

pub returns-clause-counts : goal.returns-clause-counts
returns-clause-counts c =
    let Q : Engine → Type 0 = λ q. Counts q (with_table (new_run c) c.rewait.new.machine c.rewait.new.table) c.args.h in
    subst Q c.self.view_is (move c (counted_at (goal.at.returns-clause-counts c).After-waiting-3-1)).does

pub returns-clause-facts : goal.returns-clause-facts
returns-clause-facts c = (move c (counted_at (goal.at.returns-clause-facts c).After-waiting-3-1)).facts
