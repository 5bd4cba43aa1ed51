use Rattle.std.proofs.Common.{◌∙◌, sym, ap, find}
use Rattle.std.specs.Prelude.{is_some}
use Rattle.elf32_read.specs.Spans.{covers}
use Rattle.elf32_read.proofs.Found.{any_found}
use Rattle.elf32_read.proofs.text_spans.TextSpans.contains.Goals as goal

pub returns : goal.returns
returns c =
    c.is_some.ensures ∙ ap is_some (c.span_at.ensures ∙ ap (find (covers c.args.addr)) (c.deref.ensures.value ∙ c.self.view_is))
    ∙ sym (any_found (covers c.args.addr) c.args.self.now)
