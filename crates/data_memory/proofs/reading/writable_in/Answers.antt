use Rattle.std.proofs.Common.{◌≡◌, None, ap, sym, ◌∙◌, arith}
use Rattle.std.specs.FinMap as map
use Rattle.rv_exec.specs.Memory.{is_writable}
use Rattle.data_memory.proofs.RangesRead.{got}
use Rattle.data_memory.specs.Paged.{byte, paged}
use Rattle.data_memory.proofs.Blocked.{spot_within}
use Rattle.data_memory.proofs.reading.writable_in.Goals as goal

pub is_writable-requires : goal.is_writable-requires
is_writable-requires c =
    omega (arith, c.spot.ensures, spot_within None 8388608 c.args.pages.now c.args.frames.now c.args.addr c.requires (omega (arith, c.ranges.addr.fits)))

pub returns : goal.returns
returns c =
    let e : map.get (paged c.args.pages.now c.args.frames.now) c.args.addr ≡ byte c.args.frames.now c.spot.result = got c.args.pages.now c.args.frames.now c.args.addr c.spot.result c.ranges.addr.fits c.spot.ensures in
    c.is_writable.ensures ∙ ap is_writable (sym e)
