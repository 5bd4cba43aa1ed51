use Rattle.std.proofs.Common.{◌≡◌, ◌≤◌, ℕ, List, Some, Err, length, arith, sym, ◌∙◌, ap, subst}
use Rattle.cond_expr.specs.Condition.{Tree, tree_of}
use Rattle.cond_expr.specs.Fault.{MeetsFault, first_fault}
use Rattle.cond_expr.specs.declared.expr.Expr.{Expr}
use Rattle.cond_expr.specs.declared.fault.ParseError.{ParseError}
use Rattle.cond_expr.specs.Lex.{tokens_of}
use Rattle.var_expr.specs.Places.{length_of, names_of, text_of}
use Rattle.var_expr.proofs.Parsing.{parsed_found, parsed_moved}
use Rattle.var_expr.proofs.expanded.Expanded.parse.Goals as goal

pub returns-in-Ok-clause-told : goal.returns-in-Ok-clause-told
returns-in-Ok-clause-told c =
    let given : length_of c.args.self.now ≤ 256 = (let h = c.if-self-gt-MAX_LENGTH.false in omega arith) in
    let new : length (text_of c.args.self.now) ≤ 256 = (let h = c.if-len-gt-MAX_LENGTH.false in let e = c.len.ensures in omega arith) in
    parsed_found c.args.symbols.now (length_of c.args.self.now) (names_of c.args.self.now) (text_of c.args.self.now) (tree_of c.in-Ok.expression) given new
    (subst (λ (bytes : List ℕ). Tree bytes c.args.symbols.now (tree_of c.in-Ok.expression)) c.deref.ensures.value c.in-Ok.ensures.found)

pub returns-in-Err-Fault-clause-told : goal.returns-in-Err-Fault-clause-told
returns-in-Err-Fault-clause-told c =
    let given : length_of c.args.self.now ≤ 256 = (let h = c.if-self-gt-MAX_LENGTH.false in omega arith) in
    let new : length (text_of c.args.self.now) ≤ 256 = (let h = c.if-len-gt-MAX_LENGTH.false in let e = c.len.ensures in omega arith) in
    let short : length c.deref.result.now ≤ 256 = rw c.deref.ensures.value new in
    let told = subst (λ (e : ParseError). MeetsFault {X = Expr} (Err e) (first_fault (length c.deref.result.now) (tokens_of c.args.symbols.now c.deref.result.now))) c.in-Err-Fault.field-0-is (c.in-Err-Fault.ensures.fault short) in
    let first = subst (λ (bytes : List ℕ). first_fault (length bytes) (tokens_of c.args.symbols.now bytes) ≡ Some c.in-Err-Fault.fault) c.deref.ensures.value told in
    parsed_moved c.args.symbols.now (length_of c.args.self.now) (names_of c.args.self.now) (text_of c.args.self.now) c.in-Err-Fault.fault given new first ∙ ap Err (sym c.moved_back.ensures)
