use Rattle.std.proofs.Common.{[], None, subst}
use Rattle.debug_info.specs.Shown.{shown_variables}
use Rattle.var_expr.specs.Expanded.{standing}
use Rattle.var_expr.specs.Parsed.{GivesParsed, parsed_in}
use Rattle.dbg_model.specs.Variables.{text_named}
use Rattle.dbg_model.specs.Views.{register}
use Rattle.dbg_answers.specs.Debuggee.{seen}
use Rattle.dbg_answers.proofs.variables.read_in.Goals as goal

pub returns : goal.returns
returns c =
    let s = seen c.args.debuggee.now in
    let r = c.args.regs.now in
    let text = c.args.text.now in
    let none = standing (register r) None (shown_variables []) in
    c.tree_as.ensures (parsed_in s.sources.names (text_named s r) text)
    (subst (λ want. GivesParsed c.parse_in.result want) (c.in_ok-has_names.ensures.without c.if-branch.false s.sources.names none (text_named s r))
    (subst (λ names. GivesParsed c.parse_in.result (parsed_in names none text)) c.symbols-symbols.ensures c.parse_in.ensures))
