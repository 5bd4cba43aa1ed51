use Rattle.std.proofs.Common.{rules, ◌≡◌, ◌∙◌, ap, map, filter}
use Rattle.std.proofs.lemmas.Fn.{filter_same}
use Rattle.break_table.specs.Entry.{entry_of}
use Rattle.break_table.specs.Arrival.{stays}
use Rattle.break_table.proofs.Lists.{filter-map}
use Rattle.break_table.proofs.settle.retain_staying.Goals as goal

pub returns-clause-entries : goal.returns-clause-entries
returns-clause-entries g c =
    let kept : c.retain.new.self.items ≡ filter (λ e. stays c.args.hart (g.V.View.registers c.args.view.now) (g.V.View.bytes c.args.view.now) (entry_of e)) c.args.entries.now.items =
    filter_same _ (λ e. stays c.args.hart (g.V.View.registers c.args.view.now) (g.V.View.bytes c.args.view.now) (entry_of e)) _ (λ x b f' k. search rules) _ _ c.retain.ensures.filtered in
    ap (map entry_of) kept ∙ filter-map entry_of (stays c.args.hart (g.V.View.registers c.args.view.now) (g.V.View.bytes c.args.view.now)) c.args.entries.now.items
