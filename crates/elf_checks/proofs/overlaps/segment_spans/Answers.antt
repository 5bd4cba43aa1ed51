use Rattle.std.proofs.Common.{◌∙◌, sym}
use Rattle.elf32_read.specs.declared.header.ProgramHeader.{ProgramHeader}
use Rattle.elf_checks.proofs.Fronts.{numbered-more}
use Rattle.elf_checks.proofs.overlaps.segment_spans.Goals as goal

pub loop-number-preserved : goal.loop-number-preserved
loop-number-preserved c =
    (rw c.loop-number.invariant at c.in_ok-push.ensures.items)
    ∙ sym (numbered-more (λ (h : ProgramHeader). h.address) (λ (h : ProgramHeader). h.memory_size) c.args.segments.now c.loop-number.number _ c.loop-number-test.true)
