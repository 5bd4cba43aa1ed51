use Rattle.std.proofs.Common.{None, sym, subst, ◌∙◌, ap, arith, List, Option}
use Rattle.rv_exec.specs.Memory.{Byte}
use Rattle.data_memory.specs.Paged.{paged, IsPaged}
use Rattle.data_memory.proofs.Blocked.{spot_within}
use Rattle.data_memory.proofs.RangesWritten.{put_memory, put_paged}
use Rattle.data_memory.proofs.writing.put_in.Goals as goal

pub set-requires : goal.set-requires
set-requires c =
    omega (arith, c.spot.ensures, spot_within None 8388608 c.args.pages.now c.args.frames.now c.args.addr c.requires.kept (omega (arith, c.ranges.addr.fits)))

pub returns-clause-memory : goal.returns-clause-memory
returns-clause-memory c =
    ap (paged c.args.pages.now) c.set.ensures
    ∙ put_memory c.args.pages.now c.args.frames.now c.args.addr c.spot.result c.args.value c.requires.kept c.ranges.addr.fits c.spot.ensures c.requires.writable

pub returns-clause-kept : goal.returns-clause-kept
returns-clause-kept c =
    let P : List (Option Byte) → Type 0 = λ bs. IsPaged c.args.pages.now bs in
    subst P (sym c.set.ensures)
    (put_paged c.args.pages.now c.args.frames.now c.args.addr c.spot.result c.args.value c.requires.kept c.ranges.addr.fits c.spot.ensures c.requires.writable (omega (arith, c.ranges.value.fits)))
