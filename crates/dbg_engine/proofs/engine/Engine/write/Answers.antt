use Rattle.std.proofs.Common.{◌++◌, List, [], ◌∷◌, sym, ap, ◌∙◌, subst}
use Rattle.dbg_model.specs.Lawful.{may_do}
use Rattle.dbg_model.specs.Outcome.{pokes}
use Rattle.dbg_model.specs.declared.entry.Entry.{Entry}
use Rattle.dbg_model.specs.declared.entry.Entry.TheVariants.{Poked}
use Rattle.engine_parts.specs.Seen.{Engine, seen}
use Rattle.engine_parts.specs.Calls.{Lines}
use Rattle.engine_parts.specs.Changing.{Makes}
use Rattle.dbg_engine.specs.EngineInside.{run_of}
use Rattle.engine_parts.proofs.Commanding.{can_poke, wrote_line, written_run}
use Rattle.engine_parts.proofs.Holds.{Moved}
use Rattle.dbg_engine.proofs.engine.Engine.write.Goals as goal
use Rattle.dbg_engine.proofs.engine.Engine.write.Goals.{After-self-1}

pub write-requires : goal.write-requires
write-requires c =
    let P : Engine → Type 0 = λ q. Makes q c.args.line.now (pokes c.args.poke) in
    can_poke (run_of c.self.inside) c.args.line.now c.args.poke c.self.invariant.facts.sound (subst P (sym c.self.view_is) c.requires.makes)

done : (c : After-self-1) → (let new = written_run (run_of c.self.inside) c.push.new.self.entries c.write.new.machine c.push.new.self.spare in Moved new (Lines (run_of c.self.inside) new c.args.line.now))
done c =
    let P : Engine → Type 0 = λ q. Makes q c.args.line.now (pokes c.args.poke) in
    let may = ap (λ (q : Engine). may_do q.opening (seen q) c.args.line.now) c.self.view_is ∙ c.requires.may in
    let journal = c.push.ensures.entries ∙ ap (λ (es : List Entry). es ++ Poked c.args.poke ∷ []) c.in_ok-did.ensures.done in
    wrote_line (run_of c.self.inside) c.push.new.self.spare c.args.line.now c.args.poke c.push.new.self.entries c.write.new.machine c.self.invariant.facts may (subst P (sym c.self.view_is) c.requires.makes) journal c.write.ensures

pub invariant_of-self-2 : goal.invariant_of-self-2
invariant_of-self-2 c = record { facts = (done c).facts }

pub returns-clause-lines : goal.returns-clause-lines
returns-clause-lines c =
    let Q : Engine → Type 0 = λ q. Lines q (written_run (run_of c.self.inside) c.push.new.self.entries c.write.new.machine c.push.new.self.spare) c.args.line.now in
    subst Q c.self.view_is (done c).does

pub returns-clause-facts : goal.returns-clause-facts
returns-clause-facts c = (done c).facts
