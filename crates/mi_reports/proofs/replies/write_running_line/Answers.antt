use Rattle.std.specs.Prelude.{codes, decimal}
use Rattle.std.proofs.Common.{ℕ, List, ◌++◌, ap, sym, ◌∙◌}
use Rattle.std.proofs.lemmas.Result.{on_ok_weaker}
use Rattle.mi_reports.proofs.Pieces.{running_bytes}
use Rattle.mi_reports.proofs.replies.write_running_line.Goals as goal

pub returns : goal.returns
returns c =
    let number = c.as_bytes-number.ensures.value ∙ c.format.ensures.text ∙ ap decimal c.from.ensures in
    let line = ap (λ (l : List ℕ). codes "*running,thread-id=\"" ++ (l ++ codes "\"\n")) number ∙ sym (running_bytes c.args.thread) in
    (on_ok_weaker c.put.result (λ e. e ∙ ap (λ (l : List ℕ). c.args.into.now.items ++ l) line) c.put.ensures.0, c.put.ensures.1)
