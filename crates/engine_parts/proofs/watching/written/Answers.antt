use Rattle.std.proofs.Common.{◌≡◌, ap, ◌∙◌}
use Rattle.rv_exec.specs.Operations.{meaning}
use Rattle.engine_parts.specs.Watching.{stored_at, stored_by}
use Rattle.engine_parts.proofs.Storing.{written_same}
use Rattle.text_words.specs.Words.{fetched}
use Rattle.engine_parts.proofs.watching.written.Goals as goal

pub returns : goal.returns
returns c =
    let regs = c.args.regs.now in
    let text = c.args.machine.now.text in
    c.stored_by.ensures ∙ ap (λ op. stored_by regs (meaning op)) c.operation.ensures
    ∙ written_same regs (fetched text c.pc.result) ∙ ap (λ a. stored_at regs (fetched text a)) c.pc.ensures
