use Rattle.std.proofs.Common.{◌≡◌, ◌∙◌, ap, rules}
use Rattle.std.specs.Option.{option_map}
use Rattle.line_rows.specs.declared.row.Row.{Row}
use Rattle.line_index.specs.Lines.{Lines, address_of}
use Rattle.std.specs.Prelude.{Option}
use Rattle.line_index.proofs.index.LineIndex.address_of.Goals as goal

pub returns : goal.returns
returns c =
    let mapped : c.map.result ≡ option_map (λ (r : Row). r.address) c.soonest.result = search rules in
    mapped
    ∙ ap (λ (o : Option Row). option_map (λ (r : Row). r.address) o) c.soonest.ensures
    ∙ ap (λ (lines : Lines). address_of lines c.args.file.now c.args.line) c.self.view_is
