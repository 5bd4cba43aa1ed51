use Rattle.std.proofs.Common.{◌≡◌, ◌+◌, ◌-◌, arith, subst, drop}
use Rattle.data_memory.specs.Paged.{Holds}
use Rattle.data_memory.specs.Start.{data_byte}
use Rattle.elf32_read.specs.Views.{segment_shown}
use Rattle.data_memory.proofs.Begun.{segment_more}
use Rattle.data_memory.proofs.loading.load_segments.Goals as goal

pub loop-k-preserved : goal.loop-k-preserved
loop-k-preserved c =
    let back : c.loop-k.k ≡ c.loop-k.k - 1 + 1 = omega arith in
    record {
      within = let w = c.loop-k.invariant.within in omega arith;
      holds = segment_more c.loop-k.pages c.fill_data.new.pages c.loop-k.frames c.fill_data.new.frames c.args.image.now.segments
          (segment_shown c.segment-segment.result) (c.loop-k.k - 1) c.from.result c.segment-segment.ensures c.from.ensures
          (subst (λ k. Holds c.loop-k.pages c.loop-k.frames (data_byte (drop k c.args.image.now.segments))) back c.loop-k.invariant.holds)
          c.in_ok-fill_data.ensures;
    }
