-- What stands against an expression, and that of it the least number is answered.
use Rattle.std.proofs.Common.{◌≡◌, ℕ, ◌≤◌, List, sym, subst, arith}
use Rattle.std.specs.Prelude.{Option, Result, Ok, Err}
use Rattle.rv_exec.specs.Registers.{Registers}
use Rattle.cond_expr.specs.declared.evaluating.Value.{Value}
use Rattle.cond_expr.specs.declared.evaluating.Value.TheVariants as worth
use Rattle.cond_expr.specs.declared.fault.ExprFault.{ExprFault}
use Rattle.cond_expr.specs.declared.fault.FaultKind.{FaultKind}
use Rattle.cond_expr.specs.declared.fault.FaultKind.TheVariants as kind
use Rattle.cond_expr.specs.Term.{Term}
use Rattle.cond_expr.specs.Value.{value_of}
use Rattle.cond_expr.specs.declared.expr.Expr.{Expr}
use Rattle.cond_expr.specs.declared.fault.ParseError.{ParseError}
use Rattle.elf_symbols.specs.Names.{Names}
use Rattle.debug_info.specs.Scope.{Variable}
use Rattle.var_expr.specs.Expanded.{standing}
use Rattle.var_expr.specs.Parsed.{GivesParsed, parsed_in}
use Rattle.dbg_model.specs.declared.reply.Refused.{Refused}
use Rattle.dbg_model.specs.Views.{register, shown_byte}
use Rattle.dbg_model.specs.Sight.{Sight}
use Rattle.dbg_model.specs.Outcome.{Outcome, and_then, showing}
use Rattle.dbg_model.specs.Variables.{expression_in, frame_cfa, text_named, tree_as, variables_at}
use Rattle.dbg_model.specs.Data.{worth_as, worth_of}
use Rattle.dbg_model.specs.Refusals.{Judges, failed, kind_number, no_expression, no_value}
use Rattle.dbg_answers.proofs.Tests.{From, UpTo, both_from, chain, failed_judged, less_from, none_from, one_from, then_done}

pub kind_within : (k : FaultKind) → (18 ≤ kind_number k) × (kind_number k ≤ 22)
kind_within kind.Long = (omega arith, omega arith)
kind_within kind.Text = (omega arith, omega arith)
kind_within kind.Number = (omega arith, omega arith)
kind_within kind.Deep = (omega arith, omega arith)
kind_within kind.Name = (omega arith, omega arith)

worth_from : (v : Value) → From 22 (failed (worth_as v))
worth_from (worth.Word n unsigned) = none_from 22
worth_from worth.DivZero = one_from 22 _ (omega arith)
worth_from (worth.Unread addr) = one_from 22 _ (omega arith)

value_from : (s : Sight) (r : Registers) (a : Result Term Refused) → From 22 (no_value s r a)
value_from s r (Ok tree) = worth_from (value_of (register r) (shown_byte s.image s.memory) tree)
value_from s r (Err x) = none_from 22

tree_by : (r : Result Term ExprFault) → From 18 (failed (tree_as r)) × UpTo 22 (tree_as r)
tree_by (Ok t) = (none_from 18, tt)
tree_by (Err f) = (one_from 18 _ (kind_within f.kind).0, (kind_within f.kind).1)

text_by : (s : Sight) (r : Registers) (text : List ℕ) → From 18 (failed (expression_in s r text)) × UpTo 22 (expression_in s r text)
text_by s r text = tree_by (parsed_in s.sources.names (text_named s r) text)

pub spelled_from : (s : Sight) (text : List ℕ) (a : Result Registers Refused) → From 10 (no_expression s text a)
spelled_from s text (Err x) = none_from 10
spelled_from s text (Ok r) =
    let e = expression_in s r text in
    both_from 10 (failed e) (no_value s r e) (less_from 10 18 (failed e) (omega arith) (text_by s r text).0) (less_from 10 22 (no_value s r e) (omega arith) (value_from s r e))

worth_judged : (s : Sight) (r : Registers) (tree : Term) → Judges (and_then (worth_of s r tree) (λ v. Ok (showing v))) (failed (worth_of s r tree))
worth_judged s r tree = then_done (worth_of s r tree) showing (failed (worth_of s r tree)) (failed_judged (worth_of s r tree))

pub spelled_judged : (s : Sight) (r : Registers) (text : List ℕ) → Judges (and_then (expression_in s r text) (λ tree. and_then (worth_of s r tree) (λ v. Ok (showing v)))) (no_expression s text (Ok r))
spelled_judged s r text =
    let e = expression_in s r text in
    let next : Term → Result Outcome Refused = λ tree. and_then (worth_of s r tree) (λ v. Ok (showing v)) in
    chain 22 e next (failed e) (no_value s r e) (text_by s r text).1 (value_from s r e) (failed_judged e) (λ tree is.
    subst (λ (a : Result Term Refused). Judges (next tree) (no_value s r a)) (sym is) (worth_judged s r tree))

-- what a text spells by what a thread with these registers can see
pub spelled_in : (s : Sight) (r : Registers) (text : List ℕ) (x : Result Expr ParseError) (names : Names) (cfa : Option ℕ) (vs : List Variable) → names ≡ s.sources.names → cfa ≡ frame_cfa s r → vs ≡ variables_at s r
    → GivesParsed x (parsed_in names (standing (register r) cfa vs) text) → GivesParsed x (parsed_in s.sources.names (text_named s r) text)
spelled_in s r text x names cfa vs a b c h =
    subst (λ (n : Names). GivesParsed x (parsed_in n (text_named s r) text)) a
    (subst (λ (k : Option ℕ). GivesParsed x (parsed_in names (standing (register r) k (variables_at s r)) text)) b
    (subst (λ (ws : List Variable). GivesParsed x (parsed_in names (standing (register r) cfa ws) text)) c h))
