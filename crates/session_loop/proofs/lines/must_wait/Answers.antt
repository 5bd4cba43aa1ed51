use Rattle.std.proofs.Common.{ap, sym, ◌∙◌}
use Rattle.std.specs.Prelude.{◌&&◌}
use Rattle.dbg_model.specs.Reply.{is_wait}
use Rattle.session_loop.proofs.lines.must_wait.Goals as goal

pub returns : goal.returns
returns c = c.waits.ensures c.args.line.now c.requires.commands ∙ ap (λ b. b && is_wait c.args.line.now) (sym c.if-not-any_running.false ∙ c.any_running.ensures)
