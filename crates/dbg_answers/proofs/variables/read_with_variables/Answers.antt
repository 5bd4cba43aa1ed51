use Rattle.std.proofs.Common.{◌≡◌, List, ℕ, ap, ◌∙◌}
use Rattle.debug_info.specs.Info.{Info, scope}
use Rattle.debug_info.specs.Shown.{shown_variables}
use Rattle.frame_walk.specs.Frames.{own_cfa}
use Rattle.var_expr.specs.Parsed.{parsed_in}
use Rattle.dbg_model.specs.Variables.{frame_cfa, text_named, variables_at}
use Rattle.dbg_model.specs.Views.{register}
use Rattle.dbg_answers.specs.Debuggee.{seen}
use Rattle.dbg_answers.proofs.Naming.{spelled_in}
use Rattle.dbg_answers.proofs.variables.read_with_variables.Goals as goal

pub returns : goal.returns
returns c =
    let s = seen c.args.debuggee.now in
    let r = c.args.regs.now in
    let vs = shown_variables c.deref.result.now in
    let cfa_is : c.cfa-cfa.result ≡ frame_cfa s r = c.cfa-cfa.ensures.value ∙ ap (λ (f : List ℕ). own_cfa f (register r)) c.frames.ensures in
    let vs_are : vs ≡ variables_at s r =
    ap shown_variables c.deref.ensures.value ∙ (c.in_ok-variables.ensures ∙ (ap (λ (i : Info). scope i c.pc.result) c.info.ensures ∙ ap (scope s.sources.info) c.pc.ensures)) in
    c.tree_as.ensures (parsed_in s.sources.names (text_named s r) c.args.text.now)
    (spelled_in s r c.args.text.now c.parse_in.result c.symbols.result.now c.cfa-cfa.result vs c.symbols.ensures cfa_is vs_are c.parse_in.ensures)
