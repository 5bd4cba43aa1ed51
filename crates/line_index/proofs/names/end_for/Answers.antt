use Rattle.std.proofs.Common.{◌-◌, ◌∙◌, length, ap, arith, List, ℕ}
use Rattle.std.specs.Str.{bytes_eq}
use Rattle.std.proofs.lemmas.List.{take_rest}
use Rattle.line_index.specs.Lines.{last_part}
use Rattle.line_index.proofs.LastPart.{end_part}
use Rattle.line_index.proofs.names.end_for.Goals as goal

pub returns-then-file-name : goal.returns-then-file-name
returns-then-file-name c =
    let shorter = c.if-file-name.true in
    let k = length c.args.name.now - length c.args.file.now - 1 in
    ap (λ (l : List ℕ). bytes_eq (last_part l) c.args.file.now) (take_rest c.args.name.now k) ∙ end_part c.args.file.now c.args.name.now k (omega arith)
