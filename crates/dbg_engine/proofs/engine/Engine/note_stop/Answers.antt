use Rattle.std.proofs.Common.{◌≡◌, List, length, map, sym, ap, ◌∙◌, subst, arith, length-set}
use Rattle.std.specs.Prelude.{Some, slice_get}
use Rattle.break_table.specs.Table.{Table}
use Rattle.dbg_model.specs.Lawful.{may_go}
use Rattle.engine_parts.specs.declared.mind.Mind.{Mind}
use Rattle.engine_parts.specs.Minds.{awaited, first_mind}
use Rattle.engine_parts.specs.Seen.{Engine, seen}
use Rattle.engine_parts.specs.Facts.{other_holder}
use Rattle.engine_parts.proofs.Breaking.{are_planted}
use Rattle.dbg_engine.specs.EngineInside.{run_of}
use Rattle.engine_parts.specs.Calls.{MayStop, StopsFor, Undue}
use Rattle.engine_parts.proofs.Holds.{Moved}
use Rattle.engine_parts.proofs.Halting.{halted_run, stopped}
use Rattle.engine_parts.proofs.Rewaits.{rewaits, text_place, with_table}
use Rattle.dbg_engine.proofs.engine.Engine.note_stop.Goals as goal

pub rewait-requires-clause-few : goal.rewait-requires-clause-few
rewait-requires-clause-few c =
    let r = run_of c.self.inside in
    let f = c.self.invariant.facts.sound in
    omega (arith, f.count, f.settings.harts.1, ap (λ (xs : List Mind). length xs) c.as_slice.ensures.value ∙ length-set r.minds c.args.h first_mind)

pub rewait-requires-clause-many : goal.rewait-requires-clause-many
rewait-requires-clause-many c =
    let r = run_of c.self.inside in
    let f = c.self.invariant.facts.sound in
    (f.many ∙ (sym f.count ∙ sym (ap (λ (xs : List Mind). length xs) c.as_slice.ensures.value ∙ length-set r.minds c.args.h first_mind)))

pub rewait-requires-clause-words : goal.rewait-requires-clause-words
rewait-requires-clause-words c = c.self.invariant.facts.sound.planted.words

pub rewait-requires-clause-places : goal.rewait-requires-clause-places
rewait-requires-clause-places c a is = text_place (run_of c.self.inside) c.self.invariant.facts.sound a is

pub rewait-requires-clause-planted : goal.rewait-requires-clause-planted
rewait-requires-clause-planted c =
    are_planted (run_of c.self.inside) c.self.invariant.facts.sound

move : (c : goal.After-self-3-1) → (let r = run_of c.self.inside in let n = with_table
    (halted_run r c.args.h c.push.new.self.spare c.push.new.self.entries) c.rewait.new.machine c.rewait.new.table in Moved n (StopsFor c.args.why r n c.args.h))
move c =
    let r = run_of c.self.inside in
    let f = c.self.invariant.facts.sound in
    let spare = c.push.new.self.spare in
    let mind : slice_get r.minds c.args.h ≡ Some c.args.mind = ap (λ (q : Engine). slice_get q.minds c.args.h) c.self.view_is ∙ c.requires.before.at in
    let P : Engine → Type 0 = λ q. Undue q c.args.h in
    let Q : Engine → Type 0 = λ q. MayStop c.args.why q c.args.h c.args.mind in
    let n = stopped r c.args.h spare c.args.mind c.args.why c.push.new.self.entries f mind c.requires.idle c.requires.before.runs
    (ap (λ (q : Engine). other_holder q.hold c.args.h) c.self.view_is ∙ c.requires.before.free) (subst P (sym c.self.view_is) c.requires.due)
    (subst Q (sym c.self.view_is) c.requires.by) (ap (λ (q : Engine). may_go q.opening (seen q)) c.self.view_is ∙ c.requires.before.may) c.push.ensures.entries in
    let all : List Mind → Table = λ xs. record c.self.inside.table { waits = map (awaited r.opening.image) xs } in
    rewaits (λ n. StopsFor c.args.why r n c.args.h) (halted_run r c.args.h spare c.push.new.self.entries) c.rewait.new.machine c.rewait.new.table n
    (record { table = c.rewait.ensures.table ∙ ap all c.as_slice.ensures.value; machine = c.rewait.ensures.machine })

pub invariant_of-self : goal.invariant_of-self
invariant_of-self c = record { facts = (move c).facts }

pub returns-clause-stops : goal.returns-clause-stops
returns-clause-stops c =
    let r = run_of c.self.inside in
    let n = with_table (halted_run r c.args.h c.push.new.self.spare c.push.new.self.entries) c.rewait.new.machine c.rewait.new.table in
    let Q : Engine → Type 0 = λ q. StopsFor c.args.why q n c.args.h in
    subst Q c.self.view_is (move c).does

pub returns-clause-facts : goal.returns-clause-facts
returns-clause-facts c = (move c).facts
