use Rattle.std.proofs.Common.{◌∙◌, ◌+◌, ℕ, ap}
use Rattle.elf_symbols.specs.Views.{symbol_shown}
use Rattle.line_index.specs.Inside.{seen}
use Rattle.line_index.specs.Lines.{Lines, body_of, least_from}
use Rattle.line_index.proofs.FunctionBody.{body-found}
use Rattle.line_index.proofs.index.LineIndex.body_of.Goals as goal

pub returns-in-Some : goal.returns-in-Some
returns-in-Some c =
    let i = c.self.inside in
    let f = symbol_shown c.args.function.now in
    c.body_in.ensures
    ∙ body-found (seen i) f i.starts.items c.deref.result.now c.in-Some.text_end c.function_end-end.result c.least_from-next.result c.self.invariant.starts c.deref.ensures.value c.in-Some.ensures
    (c.least_from-next.ensures ∙ ap (λ (n : ℕ). least_from (n + 1) c.deref.result.now) c.from.ensures) c.function_end-end.ensures
    ∙ ap (λ (lines : Lines). body_of lines f) c.self.view_is
