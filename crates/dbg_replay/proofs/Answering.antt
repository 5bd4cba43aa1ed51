-- What is answered to a line, and what comes of it.
use Rattle.std.proofs.Common.{◌≡◌, Bool, true, cond, List, ℕ, sym, ap, ◌∙◌}
use Rattle.std.specs.Prelude.{Some, None, Ok}
use Rattle.dbg_model.specs.declared.opening.Opening.{Opening}
use Rattle.dbg_model.specs.declared.shown.Shown.TheVariants as shows
use Rattle.dbg_model.specs.State.{State}
use Rattle.dbg_model.specs.Lawful.{may_do}
use Rattle.dbg_model.specs.Reply.{Answer, answer_of, changed_by, done_by, reply_of}
use Rattle.dbg_effects.specs.Effect.{change_of}
use Rattle.dbg_effects.specs.Table.{changed_table}
use Rattle.dbg_answers.specs.declared.line.LineAnswer.{LineAnswer}
use Rattle.dbg_answers.specs.Answer.{line_answer_of}
use Rattle.replay_parts.specs.declared.state.Parts.{Parts}
use Rattle.replay_parts.specs.Parts.{state_of}
use Rattle.replay_parts.specs.Going.{Enters, Kept}
use Rattle.replay_parts.proofs.Changing.{done_is, history_low, still_kept}

-- what is answered to a line changes this, and is its reply
pub changes_so : (o : Opening) (s : State) (line : List ℕ) (l : LineAnswer) → line_answer_of l ≡ answer_of o s line → change_of l.answer.effect ≡ (answer_of o s line).outcome.change
changes_so o s line l is = ap (λ (a : Answer). a.outcome.change) is

replies_so : (o : Opening) (s : State) (line : List ℕ) (l : LineAnswer) → line_answer_of l ≡ answer_of o s line → shows.Answer (record { token = l.token; content = l.answer.content }) ≡ shows.Answer (reply_of o s line)
replies_so o s line l is = ap (λ (a : Answer). shows.Answer (record { token = a.token; content = a.outcome.content })) is

-- a line came
pub line_comes : (o : Opening) (old new : Parts) (line : List ℕ) (l : LineAnswer) (b : Bool) → Kept o old → may_do o (state_of old) line ≡ true → b ≡ true → line_answer_of l ≡ answer_of o (state_of old) line
    → state_of new ≡ changed_by (state_of old) (change_of l.answer.effect)
    → new.table ≡ changed_table old.table (change_of l.answer.effect) → new.sources ≡ old.sources → new.words ≡ old.words
    → Enters o (Ok (shows.Answer (record { token = l.token; content = l.answer.content }))) (cond b (Some (done_by o (state_of old) line)) None) (shows.Answer (reply_of o (state_of old) line)) old new
line_comes o old new line l b kept may is answers state table sources words =
    let x = l.answer.effect in (
      rw is (ap Some (sym (state ∙ done_is o (state_of old) line (change_of x) (changes_so o (state_of old) line l answers)))),
      replies_so o (state_of old) line l answers,
      still_kept o old new (change_of x) kept (history_low o (state_of old) line may) state table sources words,
    )
