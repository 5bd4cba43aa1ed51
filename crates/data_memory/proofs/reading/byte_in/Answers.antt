use Rattle.std.proofs.Common.{◌≡◌, None, ap, sym, ◌∙◌, arith}
use Rattle.std.specs.Option.{option_map}
use Rattle.std.specs.FinMap as map
use Rattle.data_memory.proofs.RangesRead.{got}
use Rattle.data_memory.specs.Paged.{byte, paged}
use Rattle.data_memory.proofs.Blocked.{spot_within}
use Rattle.data_memory.proofs.reading.byte_in.Goals as goal

pub value-requires : goal.value-requires
value-requires c =
    omega (arith, c.spot.ensures, spot_within None 8388608 c.args.pages.now c.args.frames.now c.args.addr c.requires (omega (arith, c.ranges.addr.fits)))

pub returns : goal.returns
returns c =
    let e : map.get (paged c.args.pages.now c.args.frames.now) c.args.addr ≡ byte c.args.frames.now c.spot.result = got c.args.pages.now c.args.frames.now c.args.addr c.spot.result c.ranges.addr.fits c.spot.ensures in
    c.value.ensures ∙ ap (option_map (λ b. b.value)) (sym e)
