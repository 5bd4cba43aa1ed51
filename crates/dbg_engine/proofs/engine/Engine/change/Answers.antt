use Rattle.std.proofs.Common.{◌≡◌, ◌+◌, List, sym, ap, ◌∙◌, subst, arith, refl}
use Rattle.std.specs.Prelude.{length, map}
use Rattle.break_table.specs.Table.{Table}
use Rattle.break_table.specs.Text.{is_place}
use Rattle.engine_parts.specs.Minds.{awaited}
use Rattle.std.specs.Vec.{with_items}
use Rattle.std.proofs.lemmas.List.{with_items_is}
use Rattle.dbg_model.specs.Lawful.{may_do}
use Rattle.engine_parts.specs.declared.mind.Mind.{Mind}
use Rattle.engine_parts.specs.Seen.{Engine, seen}
use Rattle.engine_parts.specs.Facts.{Facts}
use Rattle.engine_parts.proofs.Breaking.{are_planted}
use Rattle.engine_parts.specs.Calls.{Lines}
use Rattle.dbg_effects.specs.Effect.{change_of}
use Rattle.engine_parts.specs.Changing.{Makes}
use Rattle.dbg_engine.specs.EngineInside.{run_of}
use Rattle.engine_parts.specs.Resuming.{minds_after}
use Rattle.engine_parts.proofs.Commanding.{done_line, noted_low, numbers_room}
use Rattle.dbg_engine.proofs.Applying.{applies, watchable}
use Rattle.engine_parts.proofs.Holds.{Moved}
use Rattle.engine_parts.proofs.Halting.{Noted}
use Rattle.engine_parts.proofs.Rewaits.{rewaits, text_place, with_table}
use Rattle.dbg_engine.proofs.engine.Engine.change.Goals as goal
use Rattle.dbg_engine.proofs.engine.Engine.change.Goals.{After-self-5-1, After-waiting-3-1}

pub change_threads-requires : goal.change_threads-requires
change_threads-requires c =
    let r = run_of c.self.inside in
    omega (arith, c.deref_mut.ensures.len, c.self.invariant.facts.sound.count, c.self.invariant.facts.sound.settings.harts.1)

pub change_table-requires-clause-planted : goal.change_table-requires-clause-planted
change_table-requires-clause-planted c = are_planted (run_of c.self.inside) c.self.invariant.facts.sound

pub change_table-requires-clause-given : goal.change_table-requires-clause-given
change_table-requires-clause-given c =
    let r = run_of c.self.inside in
    let may = ap (λ (q : Engine). may_do q.opening (seen q) c.args.line.now) c.self.view_is ∙ c.requires.may in
    numbers_room r c.self.invariant.facts.sound (noted_low r c.args.line.now may)

pub change_table-requires-clause-may : goal.change_table-requires-clause-may
change_table-requires-clause-may c =
    let r = run_of c.self.inside in
    let P : Engine → Type 0 = λ q. Makes q c.args.line.now (change_of c.args.effect) in
    applies r c.args.line.now c.args.effect c.self.inside.table c.self.invariant.facts.sound refl refl refl (subst P (sym c.self.view_is) c.requires.makes)

pub change_table-requires-clause-watch : goal.change_table-requires-clause-watch
change_table-requires-clause-watch c =
    let P : Engine → Type 0 = λ q. Makes q c.args.line.now (change_of c.args.effect) in
    watchable (run_of c.self.inside) c.args.line.now c.args.effect (subst P (sym c.self.view_is) c.requires.makes)

-- the engine after the change, before harts wait elsewhere
abbrev changed_run : After-waiting-3-1 → Engine
changed_run c =
    let r = run_of c.self.inside in
    let t = c.change_table.new.table in
    record r {
      journal = c.did.new.journal.entries;
      spare = c.did.new.journal.spare;
      machine = c.change_table.new.machine;
      minds =
          c.change_threads.new.minds;
      watches = c.change_table.new.watches;
      breaks = t.entries;
      given = t.given;
      bounds = t.text;
      waits = t.waits;
      selected = c.selected_after-self-inside.result;
      displaced = c.displaced_after-self-inside.result;
      noted = r.noted + 1;
      exited = c.exited_after-self-inside.result;
    }

-- the change is the line's, whatever patches are planted for the harts that wait then
changed : (c : After-waiting-3-1) → Noted (changed_run c) (λ n. Lines (run_of c.self.inside) n c.args.line.now)
changed c =
    let r = run_of c.self.inside in
    let d = change_of c.args.effect in
    let P : Engine → Type 0 = λ q. Makes q c.args.line.now d in
    let minds = c.change_threads.ensures ∙ ap (λ xs. minds_after xs d) c.deref_mut.ensures.value in
    done_line r c.did.new.journal.spare c.args.line.now d c.did.new.journal.entries c.change_table.new.machine c.change_threads.new.minds
    c.selected_after-self-inside.result c.displaced_after-self-inside.result c.exited_after-self-inside.result c.change_table.new.watches
    c.self.inside.table c.change_table.new.table c.self.invariant.facts.sound
    (ap (λ (q : Engine). may_do q.opening (seen q) c.args.line.now) c.self.view_is ∙ c.requires.may) (subst P (sym c.self.view_is) c.requires.makes) c.requires.asks refl refl refl refl
    c.in-Ok.ensures.done minds c.selected_after-self-inside.ensures c.displaced_after-self-inside.ensures c.exited_after-self-inside.ensures c.change_table.ensures.table c.change_table.ensures.watches c.change_table.ensures.machine

-- how many minds there are, written back
count_is : (c : After-waiting-3-1) → length c.as_slice.result.now ≡ length c.change_threads.new.minds
count_is c = ap (λ (xs : List Mind). length xs) (c.as_slice.ensures.value ∙ with_items_is c.self.inside.minds c.change_threads.new.minds (c.change_threads.auto.minds ∙ c.deref_mut.ensures.len))

pub rewait-requires-clause-few : goal.rewait-requires-clause-few
rewait-requires-clause-few c =
    let f = (changed c).sound in
    omega (arith, f.count, f.settings.harts.1, count_is c)

pub rewait-requires-clause-many : goal.rewait-requires-clause-many
rewait-requires-clause-many c =
    let f = (changed c).sound in
    f.many ∙ (sym f.count ∙ sym (count_is c))

pub rewait-requires-clause-words : goal.rewait-requires-clause-words
rewait-requires-clause-words c = c.change_table.ensures.machine.words ∙ c.self.invariant.facts.sound.planted.words

pub rewait-requires-clause-places : goal.rewait-requires-clause-places
rewait-requires-clause-places c a is = ap (λ (t : Table). is_place t.text a) c.change_table.ensures.table ∙ text_place (run_of c.self.inside) c.self.invariant.facts.sound a is

pub rewait-requires-clause-planted : goal.rewait-requires-clause-planted
rewait-requires-clause-planted c = c.change_table.ensures.machine.planted

abbrev new_run : After-self-5-1 → List Mind → Engine
new_run c xs =
    let r = run_of c.self.inside in
    let t = c.change_table.new.table in
    record r {
      journal = c.did.new.journal.entries;
      spare = c.did.new.journal.spare;
      machine = c.change_table.new.machine;
      minds = xs;
      watches =
          c.change_table.new.watches;
      breaks = t.entries;
      given = t.given;
      bounds = t.text;
      waits = t.waits;
      selected =
          c.selected_after-self-inside.result;
      displaced = c.displaced_after-self-inside.result;
      noted = r.noted + 1;
      exited = c.exited_after-self-inside.result;
    }

-- the minds, written back
minds_are : (c : After-self-5-1) → c.change_threads.new.minds ≡ (with_items c.self.inside.minds c.change_threads.new.minds).items
minds_are c = sym (with_items_is c.self.inside.minds c.change_threads.new.minds (c.change_threads.auto.minds ∙ c.deref_mut.ensures.len))

-- the harts wait where they are to
done : (c : After-self-5-1) → Noted (new_run c c.change_threads.new.minds) (λ n. Lines (run_of c.self.inside) n c.args.line.now)
    → (let new = with_table (new_run c c.change_threads.new.minds) c.rewait.new.machine c.rewait.new.table in Moved new (Lines (run_of c.self.inside) new c.args.line.now))
done c n =
    let r = run_of c.self.inside in
    let all : List Mind → Table = λ xs. record c.change_table.new.table { waits = map (awaited r.opening.image) xs } in
    rewaits (λ n. Lines r n c.args.line.now) (new_run c c.change_threads.new.minds) c.rewait.new.machine c.rewait.new.table n
    (record { table = c.rewait.ensures.table ∙ ap all (c.as_slice.ensures.value ∙ sym (minds_are c)); machine = c.rewait.ensures.machine })

pub invariant_of-self-2 : goal.invariant_of-self-2
invariant_of-self-2 c =
    let P : List Mind → Type 0 = λ xs. Facts (with_table (new_run c xs) c.rewait.new.machine c.rewait.new.table) in
    record { facts = subst P (minds_are c) (done c (changed (goal.at.invariant_of-self-2 c).After-waiting-3-1)).facts }

pub returns-clause-lines : goal.returns-clause-lines
returns-clause-lines c =
    let P : List Mind → Type 0 = λ xs. Lines c.args.self.now (with_table (new_run c xs) c.rewait.new.machine c.rewait.new.table) c.args.line.now in
    let Q : Engine → Type 0 = λ q. Lines q (with_table (new_run c c.change_threads.new.minds) c.rewait.new.machine c.rewait.new.table) c.args.line.now in
    subst P (minds_are c) (subst Q c.self.view_is (done c (changed (goal.at.returns-clause-lines c).After-waiting-3-1)).does)

pub returns-clause-facts : goal.returns-clause-facts
returns-clause-facts c =
    let P : List Mind → Type 0 = λ xs. Facts (with_table (new_run c xs) c.rewait.new.machine c.rewait.new.table) in
    subst P (minds_are c) (done c (changed (goal.at.returns-clause-facts c).After-waiting-3-1)).facts
