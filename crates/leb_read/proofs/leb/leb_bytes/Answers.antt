use Rattle.std.proofs.Common.{refl, sym, ◌∙◌}
use Rattle.leb_read.proofs.Numbers.{fit, past_end}
use Rattle.leb_read.proofs.leb.leb_bytes.Goals as goal

pub returns-then-bytes-at-clause-bytes : goal.returns-then-bytes-at-clause-bytes
returns-then-bytes-at-clause-bytes c = past_end c.args.is_signed c.args.bytes.now c.args.at c.if-bytes-at.true

pub returns-clause-fits : goal.returns-clause-fits
returns-clause-fits c = fit c.args.is_signed _ _ c.leb_length-length.result refl c.leb_length-length.ensures c.if-front-length.false (sym c.is_wide.ensures ∙ c.if-is_wide.false)
