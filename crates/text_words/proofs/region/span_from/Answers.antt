use Rattle.std.proofs.Common.{◌∙◌, sym}
use Rattle.text_words.proofs.Regions.{index_none, index_unaligned, zero_more}
use Rattle.text_words.proofs.region.span_from.Goals as goal

pub span_in-requires-clause-there : goal.span_in-requires-clause-there
span_in-requires-clause-there c = sym c.in-Some.ensures

pub returns-in_default-clause-ends : goal.returns-in_default-clause-ends
returns-in_default-clause-ends c small = rw (zero_more c.args.addr) (index_none c.args.regions.now c.args.addr (sym c.region_at.ensures ∙ c.in_default.is))

pub returns-else-addr-eq0-clause-ends : goal.returns-else-addr-eq0-clause-ends
returns-else-addr-eq0-clause-ends c small = rw (zero_more c.args.addr) (index_unaligned c.args.regions.now c.args.addr c.if-addr-eq0.false)
