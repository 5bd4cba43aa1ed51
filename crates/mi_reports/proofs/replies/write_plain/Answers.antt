use Rattle.std.specs.Prelude.{codes}
use Rattle.std.proofs.Common.{ℕ, List, ◌++◌, ap, sym, ◌∙◌}
use Rattle.std.proofs.lemmas.Result.{on_ok_weaker}
use Rattle.mi_reports.proofs.Pieces.{done_bytes}
use Rattle.mi_reports.proofs.replies.write_plain.Goals as goal

pub returns : goal.returns
returns c =
    let line = ap (λ (l : List ℕ). codes "" ++ (l ++ codes "^done\n(gdb)\n")) c.as_bytes.ensures.value ∙ sym (done_bytes c.args.token.now) in
    (on_ok_weaker c.put.result (λ e. e ∙ ap (λ (l : List ℕ). c.args.into.now.items ++ l) line) c.put.ensures.0, c.put.ensures.1)
