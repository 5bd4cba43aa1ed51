-- What an answer says and changes, as the model has it. This project's own.
use Rattle.std.specs.Prelude.{◌≡◌, Result, Ok, Err}
use Rattle.dbg_model.specs.declared.reply.Refused.{Refused}
use Rattle.dbg_model.specs.Outcome.{Outcome, and_then}
use Rattle.dbg_model.specs.Reply as model
use Rattle.dbg_effects.specs.Effect.{change_of}
use Rattle.dbg_answers.specs.declared.answer.Answer.{Answer}
use Rattle.dbg_answers.specs.declared.answer.Failure.{Failure}
use Rattle.dbg_answers.specs.declared.answer.Failure.TheVariants as failure
use Rattle.dbg_answers.specs.declared.line.LineAnswer.{LineAnswer}

abbrev pub outcome_of : Answer → Outcome
outcome_of a = record { content = a.content; change = change_of a.effect }

-- the answer to a line with its token
abbrev pub line_answer_of : LineAnswer → model.Answer
line_answer_of l = record { token = l.token; outcome = outcome_of l.answer }

-- it is this, as f sees it, unless memory runs out
abbrev pub GivesAs : {A B : Type 0} → (A → B) → Result A Failure → Result B Refused → Type 0
GivesAs f (Ok x) r = r ≡ Ok (f x)
GivesAs f (Err failure.NoMemory) r = Unit {0}
GivesAs f (Err (failure.Refused x)) r = r ≡ Err x

-- what a call gives that takes no memory
abbrev pub answered : Result Answer Refused → Result Outcome Refused
answered a = and_then a (λ x. Ok (outcome_of x))

abbrev pub Gives : Result Answer Failure → Result Outcome Refused → Type 0
Gives a r = GivesAs outcome_of a r
