use Rattle.std.proofs.Common.{arith, sym}
use Rattle.text_words.proofs.Regions.{guessed}
use Rattle.text_words.proofs.region.region_at.Goals as goal

pub returns-then-addr-region : goal.returns-then-addr-region
returns-then-addr-region c = sym (guessed c.args.regions.now c.args.addr c.args.guess _ c.requires (omega arith) c.if-region-addr.true c.if-addr-region.true)
