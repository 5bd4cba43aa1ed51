-- What a step does to the world and to what is said, from what it says.
use Rattle.std.proofs.Common.{◌≡◌, ◌<◌, ◌≤◌, ℕ, Bool, true, false, List, [], ◌∷◌, ◌++◌, length, drop, refl, sym, ap, ◌∙◌, subst}
use Rattle.std.specs.Prelude.{◌&&◌, not}
use Rattle.std.proofs.lemmas.List.{append-nil}
use Rattle.dbg_traits.specs.Told.{Told}
use Rattle.mi_input.specs.Lines.{IsNext, lines}
use Rattle.mi_values.specs.Record.{LineTree}
use Rattle.mi_values.specs.Records.{AreRecords}
use Rattle.dbg_model.specs.declared.reply.Reply.{Reply}
use Rattle.dbg_model.specs.State.{any_runs}
use Rattle.dbg_model.specs.Reply.{is_wait}
use Rattle.dbg_model.proofs.Options.{both_true}
use Rattle.dbg_model.specs.declared.opening.Opening.{Opening}
use Rattle.engine_parts.specs.Facts.{Facts}
use Rattle.engine_parts.specs.Seen.{Engine, seen}
use Rattle.session_parts.specs.Stage.{Stage, stage_of}
use Rattle.session_parts.specs.Puts.{PutsAll, PutsLines}
use Rattle.session_parts.specs.Steps.{lines_by, Says, Keeps, DoesLine, may_take}
use Rattle.session_parts.specs.Taking.{first_waits, has_line, is_some_line}
use Rattle.session_parts.specs.Ties.{GoesOn}
use Rattle.dbg_model.specs.Lawful.{may_go}
use Rattle.engine_parts.proofs.Seeing.{may_go_by}
use Rattle.session_parts.proofs.Saying.{DoneSaid}

first_line : (ended : Bool) (rest line : List ℕ) (next : ℕ) → IsNext ended rest line next → (more : List (List ℕ)) × (lines rest ended ≡ line ∷ more)
first_line true rest line next is = (lines (drop next rest) true, is)
first_line false rest line next is = (lines (drop next rest ++ []) false, ap (λ bs. lines bs false) (sym (append-nil rest)) ∙ is [] false)

-- the line that was done is the next of the rest
pub does_line : (ended : Bool) (rest line : List ℕ) (next : ℕ) (r s : Engine) (answer : Reply) → IsNext ended rest line next → 0 < next
    → next ≤ length rest → false ≡ any_runs (seen r).harts && is_wait line → DoneSaid r s line answer → DoesLine ended rest next (stage_of r) (stage_of s)
does_line ended rest line next r s answer is_next some within may d = record {
  line = line;
  is_next = is_next;
  some = some;
  within = within;
  may = ap (may_take (stage_of r)) (first_line ended rest line next is_next).1 ∙ ap not (sym may);
  journal = d.journal;
  did = d.did;
}

-- lines were said, and not put
pub keeps : (t : Told) (r s : Stage) (trees : List LineTree) → lines_by s ≡ lines_by r ++ trees → Keeps t t r s
keeps t r s trees is = record { trees = trees; said = is; told = refl }

-- lines were said, and put
pub says_as : (put : Bool) (t u : Told) (r s : Stage) (trees : List LineTree) (piece : List ℕ) → AreRecords piece trees → lines_by s ≡ lines_by r ++ trees → PutsAll put piece t u → Says t u r s put
says_as put t u r s trees piece are is puts =
    let P : List ℕ → Type 0 = λ x. PutsAll put x t u in
    record { trees = trees; said = is; grammar = are.lines; puts = subst P are.text puts }

pub says_put : (put : Bool) (t u : Told) (r s : Stage) (trees : List LineTree) → lines_by s ≡ lines_by r ++ trees → PutsLines put trees t u → Says t u r s put
says_put put t u r s trees is p = record { trees = trees; said = is; grammar = p.grammar; puts = p.puts }

pub record MustWait (r : Engine) (ended : Bool) (rest : List ℕ) : Type 0 where
  pub waits : first_waits (lines rest ended) ≡ true
  pub runs : any_runs (seen r).harts ≡ true

-- the next line waits, and a hart runs
pub must_wait : (r : Engine) (ended : Bool) (rest line : List ℕ) (next : ℕ) → IsNext ended rest line next → true ≡ any_runs (seen r).harts && is_wait line → MustWait r ended rest
must_wait r ended rest line next is b =
    let first = first_line ended rest line next is in
    let both = both_true (any_runs (seen r).harts) (is_wait line) (sym b) in
    record { waits = ap first_waits first.1 ∙ both.1; runs = both.0 }

-- a session that goes on may go on
pub may : (e : Engine) (count : ℕ) → GoesOn (stage_of e) count → may_go e.opening (seen e) ≡ true
may e count goes = may_go_by e (goes.below.budget, goes.below.history, goes.open_)

-- the next line stands, of which there was no memory to read or to do it
pub stands : (ended : Bool) (rest line : List ℕ) (next : ℕ) → IsNext ended rest line next → has_line ended rest ≡ true
stands ended rest line next is = ap is_some_line (first_line ended rest line next is).1

-- a session has as many harts as before
pub minds_same : (e s : Engine) → Facts e → Facts s → s.opening ≡ e.opening → length s.minds ≡ length e.minds
minds_same e s f g opening = g.sound.count ∙ (ap (λ (o : Opening). o.settings.harts) opening ∙ sym f.sound.count)
