use Rattle.std.proofs.Common.{ℕ, ◌-◌, Option, ap, ◌∙◌, arith}
use Rattle.std.specs.Prelude.{slice_index}
use Rattle.rv_exec.specs.Memory.{Byte}
use Rattle.data_memory.specs.Paged.{byte, byte_of, byte_at, replaced}
use Rattle.data_memory.proofs.Filled.{block_placed, block_within}
use Rattle.data_memory.proofs.filling.place_block.Goals as goal

pub fill-requires-clause-within : goal.fill-requires-clause-within
fill-requires-clause-within c =
    omega (arith, c.spot-at.ensures, block_within c.add_page.new.pages c.add_page.new.frames c.args.addr c.args.len c.in_ok-add_page.ensures.same.kept c.ranges.addr.fits c.requires.within)

pub returns : goal.returns
returns c =
    let g : ℕ → Option Byte = λ k. byte_of c.args.access (slice_index c.args.values.now k) in
    let old : ℕ → Option Byte = byte c.add_page.new.frames in
    block_placed c.add_page.new.pages c.add_page.new.frames c.fill.new.self c.args.addr c.args.len (byte_at c.args.pages.now c.args.frames.now) g
    c.in_ok-add_page.ensures.same c.in_ok-add_page.ensures.framed c.ranges.addr.fits c.requires.within c.fill.ensures.size
    (λ i. c.fill.ensures.each i ∙ ap (λ at. replaced old at c.args.len (λ j. g (j - at)) i) c.spot-at.ensures)
