use Rattle.std.proofs.Common.{◌≡◌, ◌+◌, ◌-◌, ◌*◌, ◌/◌, arith, subst, drop, length}
use Rattle.data_memory.specs.Paged.{Holds}
use Rattle.data_memory.specs.Start.{image_byte}
use Rattle.elf32_read.specs.Fields.{u32_at}
use Rattle.elf32_read.specs.Views.{text_shown}
use Rattle.data_memory.proofs.Begun.{text_more, entries_length}
use Rattle.data_memory.proofs.loading.hide_text.Goals as goal

pub loop-k-preserved : goal.loop-k-preserved
loop-k-preserved c =
    let back : c.loop-k.k ≡ c.loop-k.k - 1 + 1 = omega arith in
    record {
      within = let w = c.loop-k.invariant.within in omega arith;
      holds = text_more c.loop-k.pages c.fill.new.pages c.loop-k.frames c.fill.new.frames c.args.image.now (text_shown c.text-text.result) (c.loop-k.k - 1)
          (length c.text-text.result.bytes.now / 4 * 4) c.text-text.ensures
          (omega (arith, entries_length (u32_at c.text-text.result.bytes.now) 0 4 (length c.text-text.result.bytes.now / 4)))
          (subst (λ k. Holds c.loop-k.pages c.loop-k.frames (image_byte (record c.args.image.now { text = drop k c.args.image.now.text }))) back c.loop-k.invariant.holds)
          c.in_ok-fill.ensures;
    }
