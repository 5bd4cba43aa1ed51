use Rattle.std.proofs.Common.{rules, ◌≡◌, ℕ, List, sym, subst}
use Rattle.std.specs.Prelude.{Result, Ok}
use Rattle.rv_exec.specs.Registers.{Registers}
use Rattle.cond_expr.specs.Condition.{tree_of}
use Rattle.dbg_model.specs.declared.reply.Refused.{Refused}
use Rattle.dbg_model.specs.Data.{worth_of}
use Rattle.dbg_model.specs.Outcome.{and_then, showing}
use Rattle.dbg_model.specs.Sight.{stopped, thread_or}
use Rattle.dbg_model.specs.Variables.{expression_in}
use Rattle.dbg_answers.specs.Answer.{Gives, GivesAs}
use Rattle.dbg_answers.specs.Debuggee.{seen}
use Rattle.dbg_answers.proofs.expressions.evaluate.Goals as goal

pub returns : goal.returns
returns c =
    let s = seen c.args.debuggee.now in
    let r = c.in_ok-regs.regs in
    let text = c.args.text.now in
    let at : stopped s (thread_or s.selected c.args.thread) ≡ Ok r = search rules in
    let read : GivesAs tree_of c.read_in-read.result (expression_in s r text) = subst (λ (t : List ℕ). GivesAs tree_of c.read_in-read.result (expression_in s r t)) c.as_slice.ensures c.read_in-read.ensures in
    subst (λ (a : Result Registers Refused). Gives c.told_value.result (and_then a (λ q. and_then (expression_in s q text) (λ tree. and_then (worth_of s q tree) (λ v. Ok (showing v))))))
    (sym at) (c.told_value.ensures (expression_in s r text) read)
